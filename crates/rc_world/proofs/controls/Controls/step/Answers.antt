use Rattle.std.proofs.Common.{sym, ◌∙◌}
use Rattle.rc_world.proofs.StepParts.{found_at, stands, step_made}
use Rattle.rc_world.proofs.controls.Controls.step.Goals as goal

pub act-action-requires-clause-here : goal.act-action-requires-clause-here
act-action-requires-clause-here c =
    stands _ c.line.ensures.made c.args.self.now c.args.thread c.in-Some.place c.in-Some-line.line (found_at _ _ _ (sym c.place.ensures ∙ c.in-Some.is)) (sym c.line.ensures.value ∙ c.in-Some-line.is)

pub returns : goal.returns
returns c =
    step_made c.args.program.now c.args.self.now c.act-action.new.self c.args.thread c.in-Some.place c.number_of_event.result c.args.answer c.in-Some-line.line c.act-action.result
    (found_at _ _ _ (sym c.place.ensures ∙ c.in-Some.is)) (sym c.line.ensures.value ∙ c.in-Some-line.is) c.number_of_event.ensures c.act-action.ensures
