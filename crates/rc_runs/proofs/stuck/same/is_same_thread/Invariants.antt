use Rattle.std.proofs.Common.{ℕ, ◌<◌}
use Rattle.rc_runs.specs.Closing.{IsSameVariable}
use Rattle.rc_runs.proofs.stuck.same.is_same_thread.Given as goal

abbrev pub invariant-loop-x : goal.invariant-loop-x
invariant-loop-x l = (x : ℕ) → x < l.x → IsSameVariable l.kept l.a l.b l.thread x
