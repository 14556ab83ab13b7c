use Rattle.std.proofs.Common.{arith, length-take}
use Rattle.std.proofs.lemmas.List.{take_all}
use Rattle.rc_read.proofs.words.begins_strange.Goals as goal

pub slice_bounds-any_strange-end : goal.slice_bounds-any_strange-end
slice_bounds-any_strange-end c = omega (arith, length-take 256 c.args.line.now)

pub returns-else-line-gt256 : goal.returns-else-line-gt256
returns-else-line-gt256 c = rw (take_all 256 c.args.line.now (omega arith)) c.any_strange-else-line-gt256.ensures
