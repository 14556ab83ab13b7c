use Rattle.std.proofs.Common.{◌≡◌, ℕ, List, refl, subst}
use Rattle.std.specs.Prelude.{option_copied as named}
use Rattle.rc_lang.specs.Program.{Program}
use Rattle.rc_read.specs.Answer.{answer_of}
use Rattle.rc_report.specs.Checks.{GivesVerdict}
use Rattle.rc_command.specs.Answers.{SaysAdmitted}
use Rattle.rc_console.proofs.Answers.{does_as, does_nothing}
use Rattle.rc_command.proofs.Commands.{does_admitted, does_refused}
use Rattle.rc_command.proofs.emitting.emit_text.Goals as goal

in_c : Program → ℕ → List ℕ → Type 0
in_c = λ program status text. status ≡ 0

pub returns-in_err-admitted : goal.returns-in_err-admitted
unfolding in_c
returns-in_err-admitted g c =
    does_nothing g.S.Sink.state c.args.sink.now c.args.sink.now (SaysAdmitted (named c.args.file) c.args.text.now in_c) c.from_residual.result c.from_residual.ensures.1 refl

pub returns-in_err-answer-in-Ok : goal.returns-in_err-answer-in-Ok
unfolding in_c
returns-in_err-answer-in-Ok g c =
    does_nothing g.S.Sink.state c.args.sink.now c.args.sink.now (SaysAdmitted (named c.args.file) c.args.text.now in_c) c.from_residual-in_err-answer-in-Ok.result c.from_residual-in_err-answer-in-Ok.ensures.1 refl

pub returns-in_ok-answer-in-Ok : goal.returns-in_ok-answer-in-Ok
unfolding in_c
returns-in_ok-answer-in-Ok g c =
    let r = c.write_answer.result in
    let given = subst (GivesVerdict (answer_of c.args.text.now)) c.in-Ok.is c.in_ok-admitted.ensures in
    does_admitted g.S.Sink.state c.args.sink.now c.write_answer.new.sink (named c.args.file) c.args.text.now in_c c.in-Ok.admitted r given
    (does_as g.S.Sink.state c.args.sink.now c.write_answer.new.sink (λ (s : ℕ) (text : List ℕ). (s ≡ 0) × (text ≡ c.deref.result.now)) (in_c c.in-Ok.admitted) r (λ s text both. both.0) c.write_answer.ensures)

pub returns-in-Err : goal.returns-in-Err
unfolding in_c
returns-in-Err g c =
    let given = subst (GivesVerdict (answer_of c.args.text.now)) c.in-Err.is c.in_ok-admitted.ensures in
    does_refused g.S.Sink.state c.args.sink.now c.tell_verdict.new.sink (named c.args.file) c.args.text.now in_c c.in-Err.verdict c.tell_verdict.result given c.tell_verdict.ensures
