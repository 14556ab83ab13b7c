use Rattle.std.proofs.Common.{◌≡◌, Err, Ok, subst}
use Rattle.std.specs.Prelude.{option_copied as named}
use Rattle.rc_read.specs.Answer.{answer_of}
use Rattle.rc_report.specs.declared.step_engine.StepEnd.TheVariants.{Trace}
use Rattle.rc_report.specs.Engine.{end_of}
use Rattle.rc_report.specs.Steps.{traced}
use Rattle.rc_runs.specs.Scripts.{EndsScript, ReadsScript, script_text}
use Rattle.rc_runs.proofs.Answered.{unread_is_answered}
use Rattle.rc_runs.proofs.Stepped.{answers_as, end_of_script, of_any, stops_before, trace_of_script}
use Rattle.rc_runs.proofs.stepping.step.Goals as goal

pub returns-in_err-read : goal.returns-in_err-read
returns-in_err-read g c =
    let text = c.args.text.now in
    let script = c.args.stepping.now.script in
    stops_before c.args.stepping.now.show (EndsScript (answer_of text) script) (g.W.Sink.state c.args.writer.now) (λ traced. script_text (named c.args.file) traced (answer_of text) script) c.from_residual.result c.from_residual.ensures.1

pub returns-in-Ok : goal.returns-in-Ok
returns-in-Ok g c =
    let text = c.args.text.now in
    let script = c.args.stepping.now.script in
    let steps = c.in-Ok.moved.steps in
    let read : ReadsScript (answer_of text) script (Ok c.in-Ok.moved) =
    subst (λ read. ReadsScript (answer_of text) script read) c.in-Ok.is c.in_ok-read.ensures in
    answers_as c.args.stepping.now.show (λ end. end ≡ Trace (end_of (traced steps).ending)) (EndsScript (answer_of text) script) (g.W.Sink.state c.args.writer.now) (g.W.Sink.state c.show_run.new.writer) steps.program (traced steps) (λ traced. script_text (named c.args.file) traced (answer_of text) script) c.show_run.result
    (trace_of_script text script steps.program steps.items.items read.0 read.1 (named c.args.file)) (end_of_script text script steps.program steps.items.items read.0 read.1) c.show_run.ensures

pub returns-in_err-put_of_unread-in-Err : goal.returns-in_err-put_of_unread-in-Err
returns-in_err-put_of_unread-in-Err g c =
    let text = c.args.text.now in
    let script = c.args.stepping.now.script in
    let result = c.from_residual-in_err-put_of_unread-in-Err in
    stops_before c.args.stepping.now.show (EndsScript (answer_of text) script) (g.W.Sink.state c.args.writer.now) (λ traced. script_text (named c.args.file) traced (answer_of text) script) result.result result.ensures.1

pub returns-in_ok-put_of_unread-in-Err : goal.returns-in_ok-put_of_unread-in-Err
returns-in_ok-put_of_unread-in-Err g c =
    let text = c.args.text.now in
    let script = c.args.stepping.now.script in
    let unread : ReadsScript (answer_of text) script (Err c.in-Err.unread) =
    subst (λ read. ReadsScript (answer_of text) script read) c.in-Err.is c.in_ok-read.ensures in
    of_any c.args.stepping.now.show _
    (λ traced. unread_is_answered (named c.args.file) traced text script (g.W.Sink.state c.args.writer.now) (g.W.Sink.state c.write_not_read.new.writer) c.in-Err.unread c.write_not_read.result unread c.write_not_read.ensures.text c.write_not_read.ensures.end)
