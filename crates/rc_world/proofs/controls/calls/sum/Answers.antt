use Rattle.std.proofs.Common.{rules}
use Rattle.std.proofs.lemmas.Int.{wraps}
use Rattle.rc_world.proofs.controls.calls.sum.Goals as goal

pub returns : goal.returns
returns c = search (rules, wraps)
