use Rattle.std.proofs.Common.{refl}
use Rattle.std.specs.Prelude.{option_copied as named}
use Rattle.rc_read.specs.Answer.{answer_of}
use Rattle.rc_report.specs.Streams.{Wrote}
use Rattle.rc_runs.specs.Scripts.{script_text}
use Rattle.rc_runs.proofs.Stepped.{of_some, of_text}
use Rattle.rc_command.specs.Answers.{SaysScript, SaysSteps}
use Rattle.rc_console.proofs.Answers.{steps_fault}
use Rattle.rc_command.proofs.performing.stepped.Goals as goal

pub returns-in_err-end : goal.returns-in_err-end
returns-in_err-end g c =
    let text = c.args.text.now in
    let stepping = c.args.stepping.now in
    of_some stepping.show _ _
    (λ traced w. steps_fault g.S.Sink.state c.args.sink.now c.step.new.writer (SaysSteps (named c.args.file) text stepping) (script_text (named c.args.file) traced (answer_of text) stepping.script) _ c.from_residual.result c.from_residual.ensures.1 w.0)
    c.in_err-end.ensures

pub returns : goal.returns
returns g c =
    let text = c.args.text.now in
    let stepping = c.args.stepping.now in
    of_text stepping.show _ (λ traced said. SaysScript (named c.args.file) traced (answer_of text) stepping.script c.status.result said)
    (λ said. Wrote (g.S.Sink.state c.args.sink.now) (g.S.Sink.state c.step.new.writer) said) (λ traced. script_text (named c.args.file) traced (answer_of text) stepping.script)
    (λ traced w. ((c.in_ok-end.end, w.1, refl, c.status.ensures.status), w.0)) c.in_ok-end.ensures
