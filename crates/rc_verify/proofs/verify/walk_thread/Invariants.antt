use Rattle.std.specs.Prelude.{◌≡◌, ◌-◌, length}
use Rattle.rc_lang.specs.Parts.{view_thread}
use Rattle.rc_verify.proofs.verify.walk_thread.Given as goal

abbrev pub invariant-loop-cause : goal.invariant-loop-cause
invariant-loop-cause l = (l.labels.program ≡ l.program) × (l.labels.number ≡ l.thread) × (l.labels.thread ≡ view_thread l.part)

abbrev pub decreases-loop-cause : goal.decreases-loop-cause
decreases-loop-cause l = length l.labels.thread.lines - l.labels.place
