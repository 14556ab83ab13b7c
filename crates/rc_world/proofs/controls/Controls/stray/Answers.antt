use Rattle.std.proofs.Common.{sym, ◌∙◌}
use Rattle.rc_world.proofs.StepParts.{found_at, stands}
use Rattle.rc_world.proofs.Straying.{stray_made, stray_with}
use Rattle.rc_world.proofs.controls.Controls.stray.Goals as goal

pub go_astray-action-requires-clause-here : goal.go_astray-action-requires-clause-here
go_astray-action-requires-clause-here c =
    stands _ c.line.ensures.made c.args.self.now c.args.thread c.in-Some.place c.in-Some-line.line (found_at _ _ _ (sym c.place.ensures ∙ c.in-Some.is)) (sym c.line.ensures.value ∙ c.in-Some-line.is)

pub go_astray-action-requires-clause-step : goal.go_astray-action-requires-clause-step
go_astray-action-requires-clause-step c = stray_with c.args.program.now c.args.self.now c.args.thread c.args.byte c.in-Some-line.line (sym c.line.ensures.value ∙ c.in-Some-line.is) c.requires

pub returns : goal.returns
returns c =
    let found = found_at c.args.self.now c.args.thread c.in-Some.place (sym c.place.ensures ∙ c.in-Some.is) in
    let line = sym c.line.ensures.value ∙ c.in-Some-line.is in
    let some = stray_with c.args.program.now c.args.self.now c.args.thread c.args.byte c.in-Some-line.line line c.requires in
    stray_made c.args.program.now c.args.self.now c.args.thread c.in-Some.place c.args.byte c.in-Some-line.line c.go_astray-action.result c.go_astray-action.new.self found line some c.go_astray-action.ensures
