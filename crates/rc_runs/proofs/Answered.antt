-- What is answered where memory runs out, or where a model or its script can't be read.
use Rattle.std.proofs.Common.{◌≡◌, ℕ, List, Option, Some, None, Result, Ok, Err, ap, refl, subst, sym, ◌∙◌}
use Rattle.std.specs.Prelude.{IfOk, IsErrAnd}
use Rattle.rc_lang.specs.Program.{Program}
use Rattle.rc_read.specs.Answer.{answer_of}
use Rattle.rc_read.specs.Causes.{number_of_cause}
use Rattle.rc_read.specs.declared.fault.ReadFault.TheVariants as fault
use Rattle.rc_world.specs.Trace.{Trace}
use Rattle.rc_report.specs.declared.engine_fault.EngineFault.{EngineFault}
use Rattle.rc_report.specs.declared.engine_fault.EngineFault.TheVariants.{Read, OutOfMemory}
use Rattle.rc_report.specs.declared.script.Script.{Script}
use Rattle.rc_report.specs.declared.step_engine.StepEnd.{StepEnd}
use Rattle.rc_report.specs.declared.step_engine.StepEnd.TheVariants as end
use Rattle.rc_report.specs.declared.step_engine.NoSteps.{NoSteps}
use Rattle.rc_report.specs.declared.step_engine.NoSteps.TheVariants.{Text, Schedule}
use Rattle.rc_report.specs.Engine.{EndsItems, items_text}
use Rattle.rc_report.specs.Steps.{end_of_unread}
use Rattle.rc_report.specs.Streams.{Began, Taken, WritesOr}
use Rattle.rc_report.proofs.Pieces.{memory_stops, writes_along}
use Rattle.rc_runs.specs.Scripts.{EndsScript, IsNotRead, not_read_text, script_items, script_text, unread_model}

pub stopped : (a b : Taken) (t : List ℕ) (r : Result StepEnd EngineFault) (ends : StepEnd → Type 0) → IsErrAnd r (λ y. y ≡ OutOfMemory) → Began a b t OutOfMemory → WritesOr (λ e. ¬ (e ≡ Read)) a b t r × IfOk r ends
stopped a b t (Ok x) ends is h = absurd is
stopped a b t (Err e) ends is h = (memory_stops {X = StepEnd} a b t (Err e) is h, tt)

abbrev pub IsUnread : Result Program (ℕ × ℕ) → Script → NoSteps → Type 0
IsUnread answer script unread = IsNotRead (λ program. script_items program script) answer unread

unread_is_told : (file : Option (List ℕ)) (traced : Program → Trace → List ℕ) (answer : Result Program (ℕ × ℕ)) (script : Script) (unread : NoSteps) → IsUnread answer script unread → not_read_text file unread ≡ script_text file traced answer script
unread_is_told file traced (Ok program) script (Text line cause) h = absurd h
unread_is_told file traced (Ok program) script (Schedule i) h = sym (ap (items_text traced program) h)
unread_is_told None traced (Err (line, number)) script (Text l cause) h = ap (λ l. unread_model None l (number_of_cause cause)) h.0 ∙ ap (unread_model None line) h.1
unread_is_told (Some file) traced (Err (line, number)) script (Text l cause) h = ap (λ l. unread_model (Some file) l (number_of_cause cause)) h.0 ∙ ap (unread_model (Some file) line) h.1
unread_is_told file traced (Err (line, number)) script (Schedule i) h = absurd h

ends_unread : (answer : Result Program (ℕ × ℕ)) (script : Script) (unread : NoSteps) → IsUnread answer script unread → EndsScript answer script (end_of_unread unread)
ends_unread (Ok program) script (Text line cause) h = absurd h
ends_unread (Ok program) script (Schedule i) h = subst (λ read. EndsItems program read (end.Schedule i)) (sym h) refl
ends_unread (Err (line, number)) script (Text l cause) h = (cause, ap (λ l. end.Unreadable (fault.Text l cause)) h.0, h.1)
ends_unread (Err (line, number)) script (Schedule i) h = absurd h

-- The line that says what can't be read is the answer.
pub unread_is_answered : (file : Option (List ℕ)) (traced : Program → Trace → List ℕ) (bytes : List ℕ) (script : Script) (a b : Taken) (unread : NoSteps) (r : Result StepEnd EngineFault) → IsUnread (answer_of bytes) script unread →
    WritesOr (λ e. ¬ (e ≡ Read)) a b (not_read_text file unread) r → IfOk r (λ end. end ≡ end_of_unread unread) →
    WritesOr (λ e. ¬ (e ≡ Read)) a b (script_text file traced (answer_of bytes) script) r × IfOk r (EndsScript (answer_of bytes) script)
unread_is_answered file traced bytes script a b unread (Ok end) h w is =
    (writes_along (λ e. ¬ (e ≡ Read)) a b _ _ (Ok end) (unread_is_told file traced (answer_of bytes) script unread h) w, subst (EndsScript (answer_of bytes) script) (sym is) (ends_unread (answer_of bytes) script unread h))
unread_is_answered file traced bytes script a b unread (Err e) h w is = (writes_along {X = StepEnd} (λ e. ¬ (e ≡ Read)) a b _ _ (Err e) (unread_is_told file traced (answer_of bytes) script unread h) w, tt)
