-- What a run into a fault is.
use Rattle.std.specs.Prelude.{ℕ, ◌≡◌, List, Option, Some, None, Ok, string_bytes}
use Rattle.std.specs.Global.{Vec}
use Rattle.rc_lang.specs.Program.{Program}
use Rattle.rc_world.specs.declared.event.Item.{Item}
use Rattle.rc_world.specs.Trace.{AtFault, trace_of}
use Rattle.rc_runs.specs.Moved.{moved_items}
use Rattle.rc_report.specs.Engine.{text_of_trace}
use Rattle.rc_runs.specs.declared.harm.Harm.{Harm}
use Rattle.rc_runs.specs.declared.harm.Harmful.{Harmful}

-- The moves are read in the program and spell the items; their run ends at the fault, and this is its trace, as it is printed
-- where the program is stepped.
pub record IsHarm (program : Program) (harm : Harm) : Type 0 where
  pub spelled : moved_items program (string_bytes harm.moves) ≡ Ok harm.items.items
  pub ends : (trace_of program harm.items.items).ending ≡ AtFault harm.fault
  pub trace : string_bytes harm.trace ≡ text_of_trace program (trace_of program harm.items.items)

abbrev pub IsHarmIfAny : Program → Option Harm → Type 0
IsHarmIfAny program None = Unit {0}
IsHarmIfAny program (Some harm) = IsHarm program harm

-- The items are those of the schedule that the moves spell.
abbrev pub IsSpelledBy : Program → List ℕ → Option (Vec Item) → Type 0
IsSpelledBy program moves None = Unit {0}
IsSpelledBy program moves (Some items) = moved_items program moves ≡ Ok items.items

-- The run of the items ends at this fault, and this is its trace.
abbrev pub IsHarmful : Program → List Item → Option Harmful → Type 0
IsHarmful program items None = Unit {0}
IsHarmful program items (Some run) = ((trace_of program items).ending ≡ AtFault run.fault) × (run.trace.items ≡ text_of_trace program (trace_of program items))
