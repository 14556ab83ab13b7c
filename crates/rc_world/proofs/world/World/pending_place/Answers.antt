use Rattle.std.proofs.Common.{nat_eq, sym, ap, ◌∙◌}
use Rattle.std.specs.List.{position}
use Rattle.rc_world.specs.declared.world.Pending.{Pending as PendingPart}
use Rattle.rc_world.proofs.Removing.{place_is}
use Rattle.rc_world.proofs.world.World.pending_place.Goals as goal

pub returns : goal.returns
returns c =
    let place = place_is c.self.inside c.args.user_data ∙ sym (ap (position (λ (p : PendingPart). nat_eq p.request.user_data c.args.user_data)) c.deref.ensures.value) ∙ sym c.place_of_pending.ensures.value in
    rw (← c.self.view_is) (sym place)
