-- What is written where a model or a schedule can't be read.
use Rattle.std.proofs.Common.{◌≡◌, ℕ, List, Result, Ok, Err, ap, refl, subst, sym, ◌∙◌}
use Rattle.std.specs.Prelude.{IfOk}
use Rattle.rc_lang.specs.Program.{Program}
use Rattle.rc_read.specs.Answer.{answer_of}
use Rattle.rc_read.specs.Causes.{number_of_cause}
use Rattle.rc_read.specs.declared.fault.ReadFault.TheVariants as fault
use Rattle.rc_world.specs.Trace.{Trace}
use Rattle.rc_report.specs.declared.engine_fault.EngineFault.{EngineFault}
use Rattle.rc_report.specs.declared.engine_fault.EngineFault.TheVariants.{Read, Write}
use Rattle.rc_report.specs.declared.step_engine.StepEnd.{StepEnd}
use Rattle.rc_report.specs.declared.step_engine.StepEnd.TheVariants as end
use Rattle.rc_report.specs.declared.step_engine.NoSteps.{NoSteps}
use Rattle.rc_report.specs.declared.step_engine.NoSteps.TheVariants.{Text, Schedule}
use Rattle.rc_report.specs.Engine.{EndsBy, EndsItems, answer_text, items_text}
use Rattle.rc_report.specs.Steps.{IsUnread, end_of_unread, unread_text}
use Rattle.rc_report.specs.Streams.{Taken, WritesOr}
use Rattle.rc_report.specs.Verdicts.{unreadable_text}
use Rattle.rc_report.proofs.Pieces.{grows_or_writes, writes_along}

-- whatever is written of a trace
pub unread_is_told : (traced : Program → Trace → List ℕ) (answer : Result Program (ℕ × ℕ)) (schedule : List ℕ) (unread : NoSteps) → IsUnread answer schedule unread → unread_text unread ≡ answer_text traced answer schedule
unread_is_told traced (Ok program) schedule (Text line cause) h = absurd h
unread_is_told traced (Ok program) schedule (Schedule i) h = sym (ap (items_text traced program) h)
unread_is_told traced (Err (line, number)) schedule (Text l cause) h = ap (λ l. unreadable_text l (number_of_cause cause)) h.0 ∙ ap (unreadable_text line) h.1
unread_is_told traced (Err (line, number)) schedule (Schedule i) h = absurd h

ends_unread : (answer : Result Program (ℕ × ℕ)) (schedule : List ℕ) (unread : NoSteps) → IsUnread answer schedule unread → EndsBy answer schedule (end_of_unread unread)
ends_unread (Ok program) schedule (Text line cause) h = absurd h
ends_unread (Ok program) schedule (Schedule i) h = subst (λ items. EndsItems program items (end.Schedule i)) (sym h) refl
ends_unread (Err (line, number)) schedule (Text l cause) h = (cause, ap (λ l. end.Unreadable (fault.Text l cause)) h.0, h.1)
ends_unread (Err (line, number)) schedule (Schedule i) h = absurd h

-- The line that says what can't be read is the answer.
pub unread_is_answered : (traced : Program → Trace → List ℕ) (bytes schedule : List ℕ) (a b : Taken) (unread : NoSteps) (r : Result StepEnd EngineFault) → IsUnread (answer_of bytes) schedule unread →
    WritesOr (λ e. e ≡ Write) a b (unread_text unread) r → IfOk r (λ end. end ≡ end_of_unread unread) →
    WritesOr (λ e. ¬ (e ≡ Read)) a b (answer_text traced (answer_of bytes) schedule) r × IfOk r (EndsBy (answer_of bytes) schedule)
unread_is_answered traced bytes schedule a b unread (Ok end) h w is = (
  grows_or_writes a b _ (Ok end) (writes_along (λ e. e ≡ Write) a b _ _ (Ok end) (unread_is_told traced (answer_of bytes) schedule unread h) w),
  subst (EndsBy (answer_of bytes) schedule) (sym is) (ends_unread (answer_of bytes) schedule unread h),
)
unread_is_answered traced bytes schedule a b unread (Err e) h w is =
    (grows_or_writes {X = StepEnd} a b _ (Err e) (writes_along {X = StepEnd} (λ e. e ≡ Write) a b _ _ (Err e) (unread_is_told traced (answer_of bytes) schedule unread h) w), tt)
