-- What a model and a schedule name: the steps of a program, or what can't be read.
use Rattle.std.specs.Prelude.{ℕ, ◌≡◌, List, Result, Ok, Err}
use Rattle.rc_lang.specs.Program.{Program}
use Rattle.rc_read.specs.Causes.{number_of_cause}
use Rattle.rc_read.specs.declared.fault.ReadFault.TheVariants as fault
use Rattle.rc_world.specs.Schedule.{items_of}
use Rattle.rc_world.specs.Trace.{Trace, trace_of}
use Rattle.rc_report.specs.declared.step_engine.StepEnd.{StepEnd}
use Rattle.rc_report.specs.declared.step_engine.StepEnd.TheVariants as end
use Rattle.rc_report.specs.declared.step_engine.Steps.{Steps}
use Rattle.rc_report.specs.declared.step_engine.NoSteps.{NoSteps}
use Rattle.rc_report.specs.declared.step_engine.NoSteps.TheVariants.{Text, Schedule}
use Rattle.rc_report.specs.declared.verdict.Verdict.TheVariants.{Unreadable}
use Rattle.rc_report.specs.Engine.{text_of_trace}
use Rattle.rc_report.specs.Printed.{schedule_line}
use Rattle.rc_report.specs.Verdicts.{verdict_text}

-- This can't be read, of the model or of the schedule.
abbrev pub IsUnread : Result Program (ℕ × ℕ) → List ℕ → NoSteps → Type 0
IsUnread (Ok program) schedule (Text line cause) = ⊥
IsUnread (Ok program) schedule (Schedule i) = items_of program schedule ≡ Err i
IsUnread (Err (line, number)) schedule (Text l cause) = (l ≡ line) × (number_of_cause cause ≡ number)
IsUnread (Err (line, number)) schedule (Schedule i) = ⊥

-- The program is the model's, and the items are the schedule's; or one of them can't be read.
abbrev pub ReadsSteps : Result Program (ℕ × ℕ) → List ℕ → Result Steps NoSteps → Type 0
ReadsSteps answer schedule (Ok steps) = (answer ≡ Ok steps.program) × (items_of steps.program schedule ≡ Ok steps.items.items)
ReadsSteps answer schedule (Err unread) = IsUnread answer schedule unread

-- the trace of a program through its items, and its text
abbrev pub traced : Steps → Trace
traced steps = trace_of steps.program steps.items.items

abbrev pub steps_text : Steps → List ℕ
steps_text steps = text_of_trace steps.program (traced steps)

-- the line that says what can't be read
abbrev pub unread_text : NoSteps → List ℕ
unread_text (Text line cause) = verdict_text (Unreadable line cause)
unread_text (Schedule i) = schedule_line i

abbrev pub end_of_unread : NoSteps → StepEnd
end_of_unread (Text line cause) = end.Unreadable (fault.Text line cause)
end_of_unread (Schedule i) = end.Schedule i
