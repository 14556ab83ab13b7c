use Rattle.std.proofs.Common.{ℕ, ◌<◌}
use Rattle.rc_world.specs.Harm.{IsHarmless}
use Rattle.rc_world.proofs.world.World.has_harmful_thread.Given as goal

abbrev pub invariant-loop-thread : goal.invariant-loop-thread
invariant-loop-thread l = (i : ℕ) → i < l.thread → IsHarmless l.self i
