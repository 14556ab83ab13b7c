use Rattle.std.specs.Result.{is_ok}
use Rattle.std.proofs.Common.{◌≡◌, ◌<◌, ◌++◌, ◌∷◌, [], if◌then◌else◌, rules, length, map, option_map, nat_eq, false, of_z, to_z, w32, IsSome, sym, ap, subst, ◌∙◌}
use Rattle.std.specs.List.{position}
use Rattle.std.proofs.lemmas.Int.{to_z-of_z}
use Rattle.rc_lang.specs.declared.request.Request.{Request}
use Rattle.rc_world.specs.declared.event.Completion.{Completion}
use Rattle.rc_world.specs.declared.world.Pending.{Pending as PendingPart}
use Rattle.rc_world.specs.Faults.{clashes}
use Rattle.rc_world.specs.Items.{kernel_item, pending_place}
use Rattle.rc_world.specs.Machine.{World, count_in}
use Rattle.rc_world.specs.Parts.{refilled}
use Rattle.rc_world.specs.WorldParts.{given_in, view_pending, view_world}
use Rattle.rc_world.proofs.Lists.{map_without}
use Rattle.rc_world.proofs.Kernel.{completed_by, enough, kept_completed, there}
use Rattle.rc_world.proofs.Memory.{calm_without}
use Rattle.rc_world.proofs.Removing.{asks_place, asks_stood, left_as, no_item, place_is, removed_as, removed_is}
use Rattle.rc_world.proofs.world.World.complete.Goals as goal

pub unreachable-requires : goal.unreachable-requires
unreachable-requires c =
    let u = c.self.inside in
    let w = view_world u in
    let some = subst (λ (x : World). IsSome (kernel_item x c.args.res c.args.fill (pending_place x c.args.user_data))) (sym c.self.view_is) c.requires.step in
    let place = place_is u c.args.user_data ∙ sym (ap (position (λ (p : PendingPart). nat_eq p.request.user_data c.args.user_data)) c.deref.ensures.value) ∙ sym c.place_of_pending.ensures.value ∙ c.in_default.is in
    no_item w c.args.res c.args.fill (pending_place w c.args.user_data) place some

pub refill-requires : goal.refill-requires
refill-requires c =
    let u = c.self.inside in
    let w = view_world u in
    let some = subst (λ (x : World). IsSome (kernel_item x c.args.res c.args.fill (pending_place x c.args.user_data))) (sym c.self.view_is) c.requires.step in
    let place = place_is u c.args.user_data ∙ sym (ap (position (λ (p : PendingPart). nat_eq p.request.user_data c.args.user_data)) c.deref.ensures.value) ∙ sym c.place_of_pending.ensures.value ∙ c.in-Some.is in
    let lt : c.in-Some.place < length u.pending.items = search rules in
    let p = c.index_mut.result.now in
    let here = removed_is u c.in-Some.place p lt c.index_mut.ensures.value in
    let read = to_z-of_z w32 c.args.res c.ranges.res in
    let count = c.count_in.ensures ∙ ap count_in read in
    asks_stood p.bytes c.count_in.result (count_in c.args.res) count
    (enough w c.self.invariant.0 c.args.user_data c.in-Some.place c.args.res c.args.fill (view_pending p) place here some)

pub give_back-requires : goal.give_back-requires
give_back-requires c =
    let u = c.self.inside in
    let w = view_world u in
    let some = subst (λ (x : World). IsSome (kernel_item x c.args.res c.args.fill (pending_place x c.args.user_data))) (sym c.self.view_is) c.requires.step in
    let place = place_is u c.args.user_data ∙ sym (ap (position (λ (p : PendingPart). nat_eq p.request.user_data c.args.user_data)) c.deref.ensures.value) ∙ sym c.place_of_pending.ensures.value ∙ c.in-Some.is in
    let lt : c.in-Some.place < length u.pending.items = search rules in
    let p = c.index_mut.result.now in
    let here = removed_is u c.in-Some.place p lt c.index_mut.ensures.value in
    let got = removed_as u.pending.items c.in-Some.place p c.remove-bytes.result c.refill.new.bytes lt c.remove-bytes.ensures.value in
    let bytes = ap (λ (x : PendingPart). x.bytes) got ∙ c.in_ok-refill.ensures in
    let request = ap (λ (x : PendingPart). x.request) got in
    asks_place p.bytes c.remove-bytes.result.bytes (refilled c.count_in.result c.args.fill) c.remove-bytes.result.request.buffer (length u.buffers.items) bytes
    (λ stood e. subst (λ (r : Request). r.buffer < length u.buffers.items) (sym request) (there w c.self.invariant.0 c.args.user_data c.in-Some.place c.args.res c.args.fill (view_pending p) place here some stood e))

pub invariant_of-self-2 : goal.invariant_of-self-2
invariant_of-self-2 c =
    let u = c.self.inside in
    let w = view_world u in
    let some = subst (λ (x : World). IsSome (kernel_item x c.args.res c.args.fill (pending_place x c.args.user_data))) (sym c.self.view_is) c.requires.step in
    let place = place_is u c.args.user_data ∙ sym (ap (position (λ (p : PendingPart). nat_eq p.request.user_data c.args.user_data)) c.deref.ensures.value) ∙ sym c.place_of_pending.ensures.value ∙ c.in-Some.is in
    let lt : c.in-Some.place < length u.pending.items = search rules in
    let p = c.index_mut.result.now in
    let here = removed_is u c.in-Some.place p lt c.index_mut.ensures.value in
    let read = to_z-of_z w32 c.args.res c.ranges.res in
    let count = c.count_in.ensures ∙ ap count_in read in
    let got = removed_as u.pending.items c.in-Some.place p c.remove-bytes.result c.refill.new.bytes lt c.remove-bytes.ensures.value in
    let bytes = ap (λ (x : PendingPart). x.bytes) got ∙ c.in_ok-refill.ensures in
    let request = ap (λ (x : PendingPart). x.request) got in
    let old = u.buffers.items in
    let pending = ap (map view_pending) (c.remove-bytes.ensures.items ∙ left_as u.pending.items c.in-Some.place _) ∙ map_without view_pending c.in-Some.place u.pending.items in
    let buffers =
    c.give_back.ensures
    ∙ ap (λ (r : Request). given_in old r.buffer c.remove-bytes.result.bytes) request
    ∙ ap (given_in old p.request.buffer) bytes
    ∙ ap (λ n. given_in old p.request.buffer (option_map (refilled n c.args.fill) p.bytes)) count in
    let calm = subst (λ (x : World). clashes x.pending ≡ false) (sym c.self.view_is) c.requires.calm in (
      kept_completed w c.self.invariant.0 c.args.user_data c.in-Some.place c.args.res c.args.fill (view_pending p) place here some calm _ _ _ _ pending buffers,
      c.self.invariant.1 ∙ calm ∙ sym (calm_without c.in-Some.place w.pending calm) ∙ sym (ap clashes pending),
    )

pub returns : goal.returns
returns c =
    let u = c.self.inside in
    let w = view_world u in
    let some = subst (λ (x : World). IsSome (kernel_item x c.args.res c.args.fill (pending_place x c.args.user_data))) (sym c.self.view_is) c.requires.step in
    let place = place_is u c.args.user_data ∙ sym (ap (position (λ (p : PendingPart). nat_eq p.request.user_data c.args.user_data)) c.deref.ensures.value) ∙ sym c.place_of_pending.ensures.value ∙ c.in-Some.is in
    let lt : c.in-Some.place < length u.pending.items = search rules in
    let p = c.index_mut.result.now in
    let here = removed_is u c.in-Some.place p lt c.index_mut.ensures.value in
    let read = to_z-of_z w32 c.args.res c.ranges.res in
    let count = c.count_in.ensures ∙ ap count_in read in
    let got = removed_as u.pending.items c.in-Some.place p c.remove-bytes.result c.refill.new.bytes lt c.remove-bytes.ensures.value in
    let bytes = ap (λ (x : PendingPart). x.bytes) got ∙ c.in_ok-refill.ensures in
    let request = ap (λ (x : PendingPart). x.request) got in
    let old = u.buffers.items in
    let pending = ap (map view_pending) (c.remove-bytes.ensures.items ∙ left_as u.pending.items c.in-Some.place _) ∙ map_without view_pending c.in-Some.place u.pending.items in
    let buffers =
    c.give_back.ensures
    ∙ ap (λ (r : Request). given_in old r.buffer c.remove-bytes.result.bytes) request
    ∙ ap (given_in old p.request.buffer) bytes
    ∙ ap (λ n. given_in old p.request.buffer (option_map (refilled n c.args.fill) p.bytes)) count in
    let r = c.remove-bytes.result.request in
    let completed =
    c.push-2.ensures.items ∙ ap (λ x. if is_ok x then c.reserve.new.self.items ++ r ∷ [] else c.reserve.new.self.items) c.unwrap-2.ensures
    ∙ ap (λ rs. rs ++ r ∷ []) c.reserve.ensures.items
    ∙ ap (λ x. u.completed.items ++ x ∷ []) request in
    let completion : Completion = record { user_data = c.args.user_data; res = to_z w32 (of_z w32 c.args.res) } in
    let completions =
    c.push.ensures.items ∙ ap (λ x. if is_ok x then c.reserve-2.new.self.items ++ completion ∷ [] else c.reserve-2.new.self.items) c.unwrap.ensures
    ∙ ap (λ qs. qs ++ completion ∷ []) c.reserve-2.ensures.items
    ∙ ap (λ z. u.completions.items ++ record { user_data = c.args.user_data; res = z } ∷ []) read in
    rw (read, ← c.self.view_is)
    (completed_by w c.self.invariant.0 c.args.user_data c.in-Some.place c.args.res c.args.fill (view_pending p) place here some _ _ _ _ pending completed completions buffers)
