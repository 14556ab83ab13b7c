use Rattle.std.proofs.Common.{ℕ, ◌<◌}
use Rattle.rc_command.specs.Logs.{IsStuckAt}
use Rattle.rc_command.proofs.departures.stuck.are_stuck.Given as goal

abbrev pub invariant-loop-place : goal.invariant-loop-place
invariant-loop-place l = (k : ℕ) → k < l.place → IsStuckAt l.fn.follower k
