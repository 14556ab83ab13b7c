-- What a program that is stepped is answered with: the trace of its run, with the world in which it ends or without, or its
-- picture.
use Rattle.std.specs.Prelude.{ℕ, ◌≡◌, IfOk, List, ◌++◌, Option, Result}
use Rattle.rc_lang.specs.Program.{Program}
use Rattle.rc_read.specs.Answer.{answer_of}
use Rattle.rc_report.specs.declared.engine_fault.EngineFault.{EngineFault}
use Rattle.rc_report.specs.declared.script.Script.{Script}
use Rattle.rc_report.specs.declared.script.Show.{Show}
use Rattle.rc_report.specs.declared.script.Show.TheVariants as shown
use Rattle.rc_report.specs.declared.step_engine.StepEnd.{StepEnd}
use Rattle.rc_report.specs.declared.step_engine.StepEnd.TheVariants.{Trace as OfTrace}
use Rattle.rc_report.specs.declared.step_engine.Steps.{Steps}
use Rattle.rc_report.specs.Engine.{end_of, text_of_trace}
use Rattle.rc_report.specs.Steps as steps
use Rattle.rc_report.specs.Streams.{Taken, WritesOrGrows}
use Rattle.rc_world.specs.Trace.{Trace}
use Rattle.rc_runs.specs.Scripts.{EndsScript, script_text}

-- the text of a trace, and some text after it
abbrev pub trace_before : List ℕ → Program → Trace → List ℕ
trace_before after program t = text_of_trace program t ++ after

-- some text in place of that of a trace
abbrev pub in_place : List ℕ → Program → Trace → List ℕ
in_place drawn program t = drawn

-- This holds of the text of traces. With the world some text comes after it, and a picture is some text in its place: no
-- contract says which.
abbrev pub OfShown : Show → ((Program → Trace → List ℕ) → Type 0) → Type 0
OfShown shown.Trace holds = holds text_of_trace
OfShown shown.State holds = (after : List ℕ) × holds (trace_before after)
OfShown (shown.Picture from) holds = (drawn : List ℕ) × holds (in_place drawn)

-- The text for the items that the script names is written, and the answer says which.
abbrev pub AnswersScript : {S : Type 0} → Option (List ℕ) → (Program → Trace → List ℕ) → List ℕ → Script → (S → Taken) → S → S → Result StepEnd EngineFault → Type 0
AnswersScript file traced text script taken old new r =
    WritesOrGrows taken old new (script_text file traced (answer_of text) script) r × IfOk r (EndsScript (answer_of text) script)

-- The text for this trace is written, and the answer is its end.
abbrev pub AnswersTrace : {S : Type 0} → (Program → Trace → List ℕ) → Program → Trace → (S → Taken) → S → S → Result StepEnd EngineFault → Type 0
AnswersTrace traced program run taken old new r =
    WritesOrGrows taken old new (traced program run) r × IfOk r (λ end. end ≡ OfTrace (end_of run.ending))

-- The trace of the steps is written and some text after it, or some text alone.
abbrev pub IsTraced : {S X : Type 0} → Steps → (S → Taken) → S → S → Result X EngineFault → Type 0
IsTraced s taken old new r = (after : List ℕ) × WritesOrGrows taken old new (trace_before after s.program (steps.traced s)) r

abbrev pub IsDrawn : {S X : Type 0} → (S → Taken) → S → S → Result X EngineFault → Type 0
IsDrawn taken old new r = (drawn : List ℕ) × WritesOrGrows taken old new drawn r
