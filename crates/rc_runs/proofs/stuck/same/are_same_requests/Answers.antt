use Rattle.std.proofs.Common.{arith}
use Rattle.rc_runs.proofs.Sames.{same_requests}
use Rattle.rc_runs.proofs.stuck.same.are_same_requests.Goals as goal

pub returns : goal.returns
returns c = λ _. same_requests c.args.a.now c.args.b.now c.loop-place.invariant.many (λ k within. c.loop-place.invariant.same k (omega arith))
