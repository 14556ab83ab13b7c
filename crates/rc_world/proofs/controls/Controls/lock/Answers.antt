use Rattle.std.proofs.Common.{Some, ap, ◌∙◌}
use Rattle.rc_world.specs.Changes.{with_holders}
use Rattle.rc_world.specs.Controls.{Controls, held_by}
use Rattle.rc_world.proofs.Locking.{locks_is}
use Rattle.rc_world.proofs.controls.Controls.lock.Goals as goal

pub returns : goal.returns
returns c =
    let old = c.args.self.now in
    let holders = c.held_by-self-inside.ensures ∙ ap (λ (d : Controls). held_by (Some c.args.thread) c.args.wanted d.holders) c.self.view_is in
    let there = ap (λ (d : Controls). with_holders d c.held_by-self-inside.result) c.self.view_is ∙ ap (with_holders old) holders in
    locks_is c.args.program.now old c.args.thread c.args.answer c.args.wanted c.requires.step _ there ∙ c.pass.ensures
