-- A summary of a run, in place of its trace.
use Rattle.std.specs.Prelude.{ℕ, ◌≡◌, List, ◌++◌, length}
use Rattle.rc_lang.specs.Program.{Program}
use Rattle.rc_world.specs.declared.event.Event.{Event}
use Rattle.rc_report.specs.declared.trace.End.{End}
use Rattle.rc_report.specs.Traces.{end_text}

-- Counts, of which nothing is said, and then how the run ended.
abbrev pub IsSummary : Program → List Event → End → List ℕ → Type 0
IsSummary program events end text = (counts : List ℕ) × (text ≡ counts ++ end_text program (length events) end)
