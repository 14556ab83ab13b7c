-- What a run into a stuck world is, and what a search for one answers.
use Rattle.std.specs.Prelude.{ℕ, ◌≡◌, ◌≤◌, List, Option, Some, None, Result, Ok, Err, string_bytes}
use Rattle.std.specs.Global.{Vec}
use Rattle.rc_lang.specs.Program.{Program}
use Rattle.rc_world.specs.declared.event.Item.{Item}
use Rattle.rc_world.specs.Trace.{Stopped, trace_of}
use Rattle.rc_report.specs.Checks.{IsVerdict}
use Rattle.rc_report.specs.Engine.{text_of_trace}
use Rattle.rc_runs.specs.Moved.{moved_items}
use Rattle.rc_runs.specs.Stuck.{IsStuck}
use Rattle.rc_runs.specs.declared.stuck.StuckFound.{StuckFound}
use Rattle.rc_runs.specs.declared.stuck.StuckRun.{StuckRun}
use Rattle.rc_runs.specs.declared.stuck.StuckSearch.{StuckSearch}
use Rattle.rc_runs.specs.declared.stuck.StuckSearched.{StuckSearched}

-- The moves are read in the program and spell the items; their run ends in a stuck world, and this is its trace, as it is
-- printed where the program is stepped.
pub record IsStuckRun (program : Program) (run : StuckRun) : Type 0 where
  pub spelled : moved_items program (string_bytes run.moves) ≡ Ok run.items.items
  pub ends : (trace_of program run.items.items).ending ≡ Stopped
  pub stuck : IsStuck (trace_of program run.items.items).world
  pub trace : string_bytes run.trace ≡ text_of_trace program (trace_of program run.items.items)

abbrev pub IsStuckRunIfAny : Program → Option StuckRun → Type 0
IsStuckRunIfAny program None = Unit {0}
IsStuckRunIfAny program (Some run) = IsStuckRun program run

-- The run of the items ends in a stuck world, and this is its trace.
abbrev pub IsStuckTrace : Program → List Item → Option (Vec ℕ) → Type 0
IsStuckTrace program items None = Unit {0}
IsStuckTrace program items (Some trace) = ((trace_of program items).ending ≡ Stopped) × IsStuck (trace_of program items).world × (trace.items ≡ text_of_trace program (trace_of program items))

-- Where no run was found, all walks were made that were asked for.
abbrev pub IsWholeSearch : ℕ → ℕ → Option StuckRun → Type 0
IsWholeSearch made asked None = made ≡ asked
IsWholeSearch made asked (Some run) = made ≤ asked

abbrev pub IsStuckSearch : Program → ℕ → StuckSearch → Type 0
IsStuckSearch program walks s = IsStuckRunIfAny program s.run × IsWholeSearch s.walks walks s.run

-- What is a program is searched, and nothing else.
abbrev pub IsStuckSearched : Result Program (ℕ × ℕ) → ℕ → Option StuckSearched → Type 0
IsStuckSearched (Ok program) walks (Some s) = (program ≡ s.program) × IsStuckSearch s.program walks s.search
IsStuckSearched (Ok program) walks None = ⊥
IsStuckSearched (Err fault) walks (Some s) = ⊥
IsStuckSearched (Err fault) walks None = Unit {0}

-- The verdict on what a model reads as, and what so many walks found in it.
abbrev pub IsStuckFound : Result Program (ℕ × ℕ) → ℕ → StuckFound → Type 0
IsStuckFound answer walks f = IsVerdict answer f.verdict × IsStuckSearched answer walks f.searched
