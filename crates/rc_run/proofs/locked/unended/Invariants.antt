use Rattle.std.proofs.Common.{◌≡◌, ℕ, ◌<◌}
use Rattle.rc_world.specs.declared.controls.Next.TheVariants.{Ended}
use Rattle.rc_world.specs.Items.{next_of}
use Rattle.rc_run.proofs.locked.unended.Given as goal

abbrev pub invariant-loop-thread : goal.invariant-loop-thread
invariant-loop-thread l = (j : ℕ) → j < l.thread → next_of l.live.world.program l.live.world.controls j ≡ Ended
