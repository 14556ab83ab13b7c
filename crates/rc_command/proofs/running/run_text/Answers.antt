use Rattle.std.proofs.Common.{refl, subst}
use Rattle.std.specs.Prelude.{option_copied as named}
use Rattle.rc_lang.specs.Program.{Program}
use Rattle.rc_read.specs.Answer.{answer_of}
use Rattle.rc_report.specs.Checks.{GivesVerdict}
use Rattle.rc_command.specs.Answers.{SaysAdmitted, SaysRun}
use Rattle.rc_console.proofs.Answers.{does_nothing}
use Rattle.rc_command.proofs.Commands.{does_admitted, does_refused}
use Rattle.rc_command.proofs.running.run_text.Goals as goal

pub returns-in_err-admitted : goal.returns-in_err-admitted
returns-in_err-admitted g c =
    does_nothing g.S.Sink.state c.args.sink.now c.args.sink.now (SaysAdmitted (named c.args.file) c.args.text.now (λ (program : Program). SaysRun program c.args.limit c.args.summary))
    c.from_residual.result c.from_residual.ensures.1 refl

pub returns-in-Ok : goal.returns-in-Ok
returns-in-Ok g c =
    let given = subst (GivesVerdict (answer_of c.args.text.now)) c.in-Ok.is c.in_ok-admitted.ensures in
    does_admitted g.S.Sink.state c.args.sink.now c.run_admitted.new.sink (named c.args.file) c.args.text.now (λ (program : Program). SaysRun program c.args.limit c.args.summary) c.in-Ok.admitted
    c.run_admitted.result given c.run_admitted.ensures

pub returns-in-Err : goal.returns-in-Err
returns-in-Err g c =
    let given = subst (GivesVerdict (answer_of c.args.text.now)) c.in-Err.is c.in_ok-admitted.ensures in
    does_refused g.S.Sink.state c.args.sink.now c.tell_verdict.new.sink (named c.args.file) c.args.text.now (λ (program : Program). SaysRun program c.args.limit c.args.summary) c.in-Err.verdict
    c.tell_verdict.result given c.tell_verdict.ensures
