use Rattle.std.proofs.Common.{List, refl, ap, slice_set, w64}
use Rattle.std.proofs.lemmas.Int.{to_z-of_z}
use Rattle.rc_world.specs.declared.controls.Control.{Control}
use Rattle.rc_world.specs.Controls.{Controls, Standing}
use Rattle.rc_world.proofs.Threads.{put_is, within_items}
use Rattle.rc_world.proofs.controls.Controls.set.Goals as goal

pub returns : goal.returns
returns c =
    let lt = within_items c.self.inside.threads.items c.args.self.now c.args.thread (ap (λ (k : Controls). k.threads) c.self.view_is) c.requires.exists in
    let read = to_z-of_z w64 c.args.value c.ranges.value in
    let controls : List Standing → Controls = λ ts. record { threads = ts; holders = c.self.inside.holders; look = c.self.inside.look; pools = c.self.inside.pools } in
    let change : Standing → Standing = λ t. record { place = t.place; variables = slice_set t.variables c.args.x c.args.value } in
    let there : Control = record { place = c.index_mut.result.now.place; variables = slice_set c.index_mut.result.now.variables c.args.x c.args.value } in
    rw (read, ← c.self.view_is) (ap controls (put_is c.self.inside.threads.items c.args.thread c.index_mut.result.now there change lt c.index_mut.ensures.value refl))
