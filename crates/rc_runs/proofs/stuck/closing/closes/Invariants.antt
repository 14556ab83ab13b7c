use Rattle.std.proofs.Common.{◌≡◌, ◌<◌, ℕ, Some, slice_get}
use Rattle.rc_world.specs.Machine.{World}
use Rattle.rc_runs.specs.Closing.{AreAlike, HasWorld, IsQuiet}
use Rattle.rc_runs.proofs.stuck.closing.closes.Given as goal

abbrev pub invariant-loop-number : goal.invariant-loop-number
invariant-loop-number l = record {
  there : HasWorld l.kept l.reached.worlds.items l.world;
  alike : AreAlike l.reached.worlds.items;
  quiet : (k : ℕ) (w : World) → k < l.number → slice_get l.reached.worlds.items k ≡ Some w → IsQuiet l.kept l.reached.worlds.items w;
}
