use Rattle.std.proofs.Common.{◌≡◌, w32, rules, drop, map, take, ap, ◌∙◌}
use Rattle.std.proofs.lemmas.Int.{to_z-of_z}
use Rattle.rc_world.specs.Machine.{count_in, hands_over}
use Rattle.rc_world.specs.WorldParts.{begun_buffers, begun_pending, view_pending, view_world}
use Rattle.rc_world.proofs.Keeping.{handed_as, kept_handed_is}
use Rattle.rc_world.proofs.world.World.hand_over.Goals as goal

pub invariant_of-self-2 : goal.invariant_of-self-2
invariant_of-self-2 c =
    let n = c.count_in-count.result in
    let bs = c.self.inside.buffers.items in
    let q : c.drop.new.self.0.items ≡ drop n c.self.inside.queued.items = search rules in
    let p = c.begin_all-self-inside.ensures.pending ∙ ap (λ xs. begun_pending (map view_pending xs) bs (take n c.deref.result.now)) c.reserve.ensures.items ∙ ap (λ xs. begun_pending (map view_pending c.self.inside.pending.items) bs (take n xs)) c.deref.ensures.value in
    let b = c.begin_all-self-inside.ensures.buffers ∙ ap (λ xs. begun_buffers bs (take n xs)) c.deref.ensures.value in
    (kept_handed_is (view_world c.self.inside) c.self.invariant.0 n _ _ _ q p b, c.begin_all-self-inside.ensures.clash)

pub returns : goal.returns
returns c =
    let n = c.count_in-count.result in
    let bs = c.self.inside.buffers.items in
    let q : c.drop.new.self.0.items ≡ drop n c.self.inside.queued.items = search rules in
    let p = c.begin_all-self-inside.ensures.pending ∙ ap (λ xs. begun_pending (map view_pending xs) bs (take n c.deref.result.now)) c.reserve.ensures.items ∙ ap (λ xs. begun_pending (map view_pending c.self.inside.pending.items) bs (take n xs)) c.deref.ensures.value in
    let b = c.begin_all-self-inside.ensures.buffers ∙ ap (λ xs. begun_buffers bs (take n xs)) c.deref.ensures.value in
    let count = c.count_in-count.ensures ∙ ap count_in (to_z-of_z w32 c.args.taken c.ranges.taken) in
    rw (← c.self.view_is) (handed_as (view_world c.self.inside) n _ _ _ q p b ∙ ap (hands_over (view_world c.self.inside)) count)
