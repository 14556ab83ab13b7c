use Rattle.std.proofs.Common.{ap, ◌∙◌}
use Rattle.rc_split.specs.Pools.{all_pooled, overfills, put_into}
use Rattle.rc_world.specs.Changes.{standing_at, with_pools}
use Rattle.rc_world.specs.Controls.{Controls, list_at}
use Rattle.rc_world.proofs.Jumps.{put_small}
use Rattle.rc_world.proofs.Pooling.{has_room, puts_is}
use Rattle.rc_world.proofs.controls.Controls.put.Goals as goal

pub list-items-requires : goal.list-items-requires
list-items-requires c = put_small _ _ _ _ _ _ c.requires.here

pub put-requires : goal.put-requires
put-requires c =
    let P = c.args.program.now in
    let items = list_at P c.args.thread (standing_at c.args.self.now c.args.thread) c.args.k in
    ap (overfills P (all_pooled P c.self.inside.pools)) c.list-items.ensures
    ∙ ap (λ (d : Controls). overfills P (all_pooled P d.pools) items) c.self.view_is
    ∙ has_room P c.args.self.now c.args.thread c.args.pool items c.args.answer c.requires.step

pub returns : goal.returns
returns c =
    let P = c.args.program.now in
    let old = c.args.self.now in
    let items = list_at P c.args.thread (standing_at old c.args.thread) c.args.k in
    let pools = c.put.ensures ∙ ap (λ xs. put_into P c.args.pool xs c.self.inside.pools) c.list-items.ensures ∙ ap (λ (d : Controls). put_into P c.args.pool items d.pools) c.self.view_is in
    let there = ap (λ (d : Controls). with_pools d c.put.new.self) c.self.view_is ∙ ap (with_pools old) pools in
    puts_is P old c.args.thread c.args.pool items c.args.answer c.requires.step _ there ∙ c.pass.ensures
