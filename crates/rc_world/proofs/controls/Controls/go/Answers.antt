use Rattle.std.proofs.Common.{if◌then◌else◌, ap, sym}
use Rattle.rc_world.specs.declared.controls.Look.TheVariants.{Unseen}
use Rattle.rc_world.specs.Controls.{Controls}
use Rattle.rc_world.proofs.Threads.{gone_is, within_items}
use Rattle.rc_world.proofs.controls.Controls.go.Goals as goal

pub returns-then-ends_arm : goal.returns-then-ends_arm
returns-then-ends_arm c =
    let lt = within_items c.self.inside.threads.items c.args.self.now c.args.thread (ap (λ (k : Controls). k.threads) c.self.view_is) c.requires.exists in
    rw (← c.self.view_is)
    (gone_is c.args.program.now c.self.inside.threads.items c.self.inside.holders c.self.inside.look c.self.inside.pools c.args.thread c.args.start c.rest-place.result.0 c.rest-place.result.1 _ c.index_mut.result.now lt
    c.index_mut.ensures.value c.rest-place.ensures.place c.rest-place.ensures.arm (ap (λ x. if x then Unseen else c.self.inside.look) (sym c.if-ends_arm.true)))

pub returns-else-ends_arm : goal.returns-else-ends_arm
returns-else-ends_arm c =
    let lt = within_items c.self.inside.threads.items c.args.self.now c.args.thread (ap (λ (k : Controls). k.threads) c.self.view_is) c.requires.exists in
    rw (← c.self.view_is)
    (gone_is c.args.program.now c.self.inside.threads.items c.self.inside.holders c.self.inside.look c.self.inside.pools c.args.thread c.args.start c.rest-place.result.0 c.rest-place.result.1 _ c.index_mut.result.now lt
    c.index_mut.ensures.value c.rest-place.ensures.place c.rest-place.ensures.arm (ap (λ x. if x then Unseen else c.self.inside.look) (sym c.if-ends_arm.false)))
