use Rattle.std.proofs.Common.{◌≡◌}
use Rattle.rc_report.specs.declared.step_engine.StepEnd.TheVariants.{Trace}
use Rattle.rc_report.specs.Engine.{end_of}
use Rattle.rc_report.specs.Steps.{traced}
use Rattle.rc_runs.proofs.Stepped.{stops_after, stops_within}
use Rattle.rc_runs.proofs.stepping.show_run.Goals as goal

pub returns-in_err-end : goal.returns-in_err-end
returns-in_err-end g c =
    let steps = c.args.moved.now.steps in
    stops_within c.args.show (λ end. end ≡ Trace (end_of (traced steps).ending)) (g.W.Sink.state c.args.writer.now) (g.W.Sink.state c.show_steps.new.writer) steps.program (traced steps) c.in_err-end.field-0.0
    c.from_residual-in_err-end.result c.from_residual-in_err-end.ensures.1 c.in_err-end.ensures.text

pub returns-in_err-put_of_steps : goal.returns-in_err-put_of_steps
returns-in_err-put_of_steps g c =
    let steps = c.args.moved.now.steps in
    stops_after c.args.show (λ end. end ≡ Trace (end_of (traced steps).ending)) (g.W.Sink.state c.args.writer.now) (g.W.Sink.state c.show_steps.new.writer) steps.program (traced steps)
    c.from_residual-in_err-put_of_steps.result c.from_residual-in_err-put_of_steps.ensures.1 c.in_ok-end.ensures.text
