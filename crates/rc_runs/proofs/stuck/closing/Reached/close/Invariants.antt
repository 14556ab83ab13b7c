use Rattle.std.proofs.Common.{◌≡◌, ◌<◌, ℕ, Some, slice_get}
use Rattle.rc_world.specs.Machine.{World}
use Rattle.rc_runs.specs.Closing.{IsGrown, IsThreadLed}
use Rattle.rc_runs.proofs.stuck.closing.Reached.close.Given as goal

abbrev pub invariant-loop-thread : goal.invariant-loop-thread
invariant-loop-thread l = record {
  grown : IsGrown l.fn.self.worlds.items l.self.worlds.items;
  led : (w : World) → slice_get l.fn.self.worlds.items l.number ≡ Some w → (i : ℕ) → i < l.thread → IsThreadLed l.kept w l.self.worlds.items i;
}
