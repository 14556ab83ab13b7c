-- What a script names: the items of a program's run, or what can't be read.
use Rattle.std.specs.Prelude.{ℕ, ◌≡◌, List, ◌++◌, false, Option, Some, None, Result, Ok, Err}
use Rattle.rc_lang.specs.Program.{Program}
use Rattle.rc_read.specs.Causes.{number_of_cause}
use Rattle.rc_read.specs.declared.fault.ReadCause.{ReadCause}
use Rattle.rc_read.specs.declared.fault.ReadFault.TheVariants as fault
use Rattle.rc_report.specs.declared.script.Script.{Script}
use Rattle.rc_report.specs.declared.script.Script.TheVariants as script
use Rattle.rc_report.specs.declared.step_engine.StepEnd.{StepEnd}
use Rattle.rc_report.specs.declared.step_engine.StepEnd.TheVariants.{Unreadable}
use Rattle.rc_report.specs.declared.step_engine.NoSteps.{NoSteps}
use Rattle.rc_report.specs.declared.step_engine.NoSteps.TheVariants.{Text, Schedule}
use Rattle.rc_report.specs.declared.verdict.Verdict.TheVariants.{Unreadable as NoModel}
use Rattle.rc_report.specs.Engine.{EndsItems, items_text}
use Rattle.rc_report.specs.Files.{printed, text_after_file}
use Rattle.rc_report.specs.Printed.{schedule_line}
use Rattle.rc_report.specs.Shown.{shown}
use Rattle.rc_report.specs.Verdicts.{unreadable, unreadable_text}
use Rattle.rc_world.specs.declared.event.Item.{Item}
use Rattle.rc_world.specs.Schedule.{items_of}
use Rattle.rc_world.specs.Trace.{Trace}
use Rattle.rc_runs.specs.declared.steps.Moved.{Moved}
use Rattle.rc_runs.specs.Moved.{moved_items}

-- The items of a schedule, or of the one that moves spell; or the number of the first that can't be read.
abbrev pub script_items : Program → Script → Result (List Item) ℕ
script_items program (script.Schedule schedule) = items_of program schedule.now
script_items program (script.Moves moves) = moved_items program moves.items

-- This can't be read, of the model or of what names the steps.
abbrev pub IsNotRead : (Program → Result (List Item) ℕ) → Result Program (ℕ × ℕ) → NoSteps → Type 0
IsNotRead items (Ok program) (Text line cause) = ⊥
IsNotRead items (Ok program) (Schedule i) = items program ≡ Err i
IsNotRead items (Err (line, number)) (Text l cause) = (l ≡ line) × (number_of_cause cause ≡ number)
IsNotRead items (Err (line, number)) (Schedule i) = ⊥

-- The program is the model's, and the items are these of it; or one of them can't be read.
abbrev pub ReadsItems : (Program → Result (List Item) ℕ) → Result Program (ℕ × ℕ) → Result Moved NoSteps → Type 0
ReadsItems items answer (Ok moved) = (answer ≡ Ok moved.steps.program) × (items moved.steps.program ≡ Ok moved.steps.items.items)
ReadsItems items answer (Err unread) = IsNotRead items answer unread

abbrev pub ReadsScript : Result Program (ℕ × ℕ) → Script → Result Moved NoSteps → Type 0
ReadsScript answer script read = ReadsItems (λ program. script_items program script) answer read

-- ---- what a program that is stepped so is answered with

-- the verdict on a model that can't be read, with its file's name if it is that of a file
abbrev pub unread_model : Option (List ℕ) → ℕ → ℕ → List ℕ
unread_model None line number = unreadable_text line number
unread_model (Some file) line number = shown file ++ text_after_file (Some (unreadable line number))

-- The text for what a model reads as: an unreadable one is answered with its verdict.
abbrev pub script_text : Option (List ℕ) → (Program → Trace → List ℕ) → Result Program (ℕ × ℕ) → Script → List ℕ
script_text file traced (Ok program) script = items_text traced program (script_items program script)
script_text file traced (Err (line, number)) script = unread_model file line number

-- the line that says what can't be read
abbrev pub not_read_text : Option (List ℕ) → NoSteps → List ℕ
not_read_text file (Text line cause) = printed file false (NoModel line cause)
not_read_text file (Schedule i) = schedule_line i

-- The answer says which text was written.
abbrev pub EndsScript : Result Program (ℕ × ℕ) → Script → StepEnd → Type 0
EndsScript (Ok program) script end = EndsItems program (script_items program script) end
EndsScript (Err (line, number)) script end = (cause : ReadCause) × (end ≡ Unreadable (fault.Text line cause)) × (number_of_cause cause ≡ number)
