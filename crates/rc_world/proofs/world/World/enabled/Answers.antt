use Rattle.std.proofs.Common.{◌<◌, FitsSigned, Some, w32, rules, length, nat_eq, sym, ap, ◌∙◌}
use Rattle.std.specs.List.{position}
use Rattle.std.proofs.lemmas.Int.{to_z-of_z}
use Rattle.rc_world.specs.declared.world.Pending.{Pending as PendingPart}
use Rattle.rc_world.specs.Items.{kernel_may, pending_at}
use Rattle.rc_world.specs.WorldParts.{view_pending, view_world}
use Rattle.rc_world.proofs.Removing.{place_is, removed_is}
use Rattle.rc_world.proofs.world.World.enabled.Goals as goal

pub returns-in-Some : goal.returns-in-Some
returns-in-Some c =
    let u = c.self.inside in
    let w = view_world u in
    let place = place_is u c.in-Kernel.user_data ∙ sym (ap (position (λ (p : PendingPart). nat_eq p.request.user_data c.in-Kernel.user_data)) c.deref.ensures.value) ∙ sym c.place_of_pending.ensures.value ∙ c.in-Some.is in
    let lt : c.in-Some.place < length u.pending.items = search rules in
    let here = removed_is u c.in-Some.place c.index.result.now lt c.index.ensures in
    let e = ap (kernel_may c.in-Kernel.res c.in-Kernel.fill) (ap (pending_at w) place ∙ here) in
    let fits : FitsSigned w32 c.in-Kernel.res = search rules in
    let read = ap (λ z. kernel_may z c.in-Kernel.fill (Some (view_pending c.index.result.now))) (to_z-of_z w32 c.in-Kernel.res fits) in
    rw (c.in-Kernel.is, ← c.self.view_is) (c.kernel_may.ensures ∙ read ∙ sym e)

pub returns-in-None : goal.returns-in-None
returns-in-None c =
    let u = c.self.inside in
    let w = view_world u in
    let place = place_is u c.in-Kernel.user_data ∙ sym (ap (position (λ (p : PendingPart). nat_eq p.request.user_data c.in-Kernel.user_data)) c.deref.ensures.value) ∙ sym c.place_of_pending.ensures.value ∙ c.in-None.is in
    let e = ap (kernel_may c.in-Kernel.res c.in-Kernel.fill) (ap (pending_at w) place) in
    rw (c.in-Kernel.is, ← c.self.view_is) (sym e)
