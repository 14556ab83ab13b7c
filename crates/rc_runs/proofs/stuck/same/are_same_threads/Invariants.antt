use Rattle.std.proofs.Common.{ℕ, ◌<◌}
use Rattle.rc_runs.specs.Closing.{IsSameThread}
use Rattle.rc_runs.proofs.stuck.same.are_same_threads.Given as goal

abbrev pub invariant-loop-thread : goal.invariant-loop-thread
invariant-loop-thread l = (i : ℕ) → i < l.thread → IsSameThread l.kept l.a l.b i
