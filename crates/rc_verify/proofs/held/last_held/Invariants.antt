use Rattle.std.specs.Prelude.{◌≡◌, Some, slice_get}
use Rattle.rc_lang.specs.Views.{view_of}
use Rattle.rc_verify.specs.Held.{IsLastHeld}
use Rattle.rc_verify.proofs.held.last_held.Given as goal

abbrev pub invariant-loop-at : goal.invariant-loop-at
invariant-loop-at l = (l.labels.program ≡ l.program) × (slice_get l.program.threads l.thread ≡ Some l.labels.thread) × (l.labels.place ≡ l.at) × (l.labels.number ≡ l.thread) × IsLastHeld (view_of l.program l.thread) l.labels.thread l.at l.part l.last
