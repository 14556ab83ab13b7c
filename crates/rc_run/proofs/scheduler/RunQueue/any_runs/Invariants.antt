use Rattle.std.proofs.Common.{◌≡◌, ◌≢◌, ℕ, ◌<◌, true}
use Rattle.rc_run.specs.declared.scheduler.State.TheVariants.{Running}
use Rattle.rc_run.specs.Lives.{can_move}
use Rattle.rc_run.specs.Scheduler.{state_at}
use Rattle.rc_run.proofs.scheduler.RunQueue.any_runs.Given as goal

abbrev pub invariant-loop-thread : goal.invariant-loop-thread
invariant-loop-thread l = (j : ℕ) → j < l.thread → state_at l.self.states j ≡ Running → can_move l.live.world j ≢ true
