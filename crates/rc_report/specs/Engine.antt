-- What a stepped program is answered with.
use Rattle.std.specs.Prelude.{ℕ, ◌≡◌, IfOk, List, Result, Ok, Err}
use Rattle.rc_lang.specs.Program.{Program}
use Rattle.rc_read.specs.Answer.{answer_of}
use Rattle.rc_read.specs.Causes.{number_of_cause}
use Rattle.rc_read.specs.declared.fault.ReadCause.{ReadCause}
use Rattle.rc_read.specs.declared.fault.ReadFault.TheVariants.{Text}
use Rattle.rc_world.specs.declared.event.Item.{Item}
use Rattle.rc_world.specs.Schedule.{items_of}
use Rattle.rc_world.specs.Trace.{AllEnded, AtFault, AtItem, Ending, Stopped as StoppedThere, Trace, trace_of}
use Rattle.rc_report.specs.declared.engine_fault.EngineFault.{EngineFault}
use Rattle.rc_report.specs.declared.step_engine.StepEnd.{StepEnd}
use Rattle.rc_report.specs.declared.step_engine.StepEnd.TheVariants.{Unreadable, Schedule, Trace as OfTrace}
use Rattle.rc_report.specs.declared.trace.End.{End}
use Rattle.rc_report.specs.declared.trace.End.TheVariants.{Fault, NotEnabled, Ended, Stopped}
use Rattle.rc_report.specs.Printed.{schedule_line}
use Rattle.rc_report.specs.Streams.{Given, OfSource, Taken, WritesOrGrows}
use Rattle.rc_report.specs.Traces.{trace_text}
use Rattle.rc_report.specs.Verdicts.{unreadable_text}

-- How a stepped trace ends.
abbrev pub end_of : Ending → End
end_of (AtFault f) = Fault f
end_of (AtItem i) = NotEnabled i
end_of AllEnded = Ended
end_of StoppedThere = Stopped

abbrev pub text_of_trace : Program → Trace → List ℕ
text_of_trace program t = trace_text program t.events (end_of t.ending)

-- The text for a program and what its schedule reads as: this text of the trace, or the line that says which item can't be
-- read.
abbrev pub items_text : (Program → Trace → List ℕ) → Program → Result (List Item) ℕ → List ℕ
items_text traced program (Ok items) = traced program (trace_of program items)
items_text traced program (Err i) = schedule_line i

-- The text for what a model reads as: an unreadable one is answered with its verdict.
abbrev pub answer_text : (Program → Trace → List ℕ) → Result Program (ℕ × ℕ) → List ℕ → List ℕ
answer_text traced (Ok program) schedule = items_text traced program (items_of program schedule)
answer_text traced (Err (line, number)) schedule = unreadable_text line number

-- The text that is written for the bytes of a program and a schedule.
abbrev pub stepped_text : List ℕ → List ℕ → List ℕ
stepped_text bytes schedule = answer_text text_of_trace (answer_of bytes) schedule

-- The answer says which text was written.
abbrev pub EndsItems : Program → Result (List Item) ℕ → StepEnd → Type 0
EndsItems program (Ok items) end = end ≡ OfTrace (end_of (trace_of program items).ending)
EndsItems program (Err i) end = end ≡ Schedule i

abbrev pub EndsBy : Result Program (ℕ × ℕ) → List ℕ → StepEnd → Type 0
EndsBy (Ok program) schedule end = EndsItems program (items_of program schedule) end
EndsBy (Err (line, number)) schedule end = (cause : ReadCause) × (end ≡ Unreadable (Text line cause)) × (number_of_cause cause ≡ number)

-- This text is written for the bytes, and the answer says which.
abbrev pub AnswersSteps : {S : Type 0} → (List ℕ → List ℕ → List ℕ) → List ℕ → List ℕ → (S → Taken) → S → S → Result StepEnd EngineFault → Type 0
AnswersSteps text bytes schedule state old new r = WritesOrGrows state old new (text bytes schedule) r × IfOk r (EndsBy (answer_of bytes) schedule)

-- The program of the source is stepped, and the trace is written.
abbrev pub StepsAs : {S : Type 0} → Given → List ℕ → (S → Taken) → S → S → Result StepEnd EngineFault → Type 0
StepsAs source schedule state old new r = OfSource source state old new r (λ bytes. AnswersSteps stepped_text bytes schedule state old new r)
