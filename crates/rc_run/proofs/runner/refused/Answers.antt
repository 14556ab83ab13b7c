use Rattle.std.proofs.Common.{List, refl, sym, subst, rules}
use Rattle.rc_world.specs.declared.event.Event.{Event}
use Rattle.rc_world.specs.Machine.{start_world}
use Rattle.rc_world.specs.Runs.{IsRun}
use Rattle.rc_run.specs.Reports.{AllGiven}
use Rattle.rc_run.proofs.runner.refused.Goals as goal

pub returns : goal.returns
returns g c =
    let none = c.new.ensures.items in
    let P = c.args.admitted.now in
    let F : List Event → Type 0 = λ x. AllGiven g.D.Device.gives x in
    let H : List Event → Type 0 = λ x. IsRun (start_world P) x (start_world P) in
    (start_world P, record { run = subst H (sym none) refl; safe = c.program.ensures.safe; given = subst F (sym none) tt; few = search rules; counted = search rules })
