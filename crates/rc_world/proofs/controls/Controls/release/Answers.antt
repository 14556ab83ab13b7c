use Rattle.std.proofs.Common.{None, ap, ◌∙◌}
use Rattle.rc_world.specs.Changes.{with_holders}
use Rattle.rc_world.specs.Controls.{Controls, held_by}
use Rattle.rc_world.proofs.Locking.{releases_is}
use Rattle.rc_world.proofs.controls.Controls.release.Goals as goal

pub returns : goal.returns
returns c =
    let old = c.args.self.now in
    let holders = c.held_by-self-inside.ensures ∙ ap (λ (d : Controls). held_by None c.args.released d.holders) c.self.view_is in
    let there = ap (λ (d : Controls). with_holders d c.held_by-self-inside.result) c.self.view_is ∙ ap (with_holders old) holders in
    releases_is c.args.program.now old c.args.thread c.args.answer c.args.released c.requires.step _ there ∙ c.pass.ensures
