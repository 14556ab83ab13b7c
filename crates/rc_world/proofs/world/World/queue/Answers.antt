use Rattle.std.proofs.Common.{◌+◌, ◌++◌, ◌∷◌, [], FitsSigned, w32, rules, ap, subst, sym, ◌∙◌}
use Rattle.std.proofs.lemmas.Int.{to_z-of_z}
use Rattle.rc_world.specs.declared.world.Slot.TheVariants.{Closed}
use Rattle.rc_world.specs.Kept.{IsKept}
use Rattle.rc_world.specs.WorldParts.{view_world}
use Rattle.rc_world.proofs.Keeping.{kept_queued}
use Rattle.rc_world.proofs.world.World.queue.Goals as goal

pub invariant_of-self-2 : goal.invariant_of-self-2
invariant_of-self-2 c =
    let w = view_world c.self.inside in
    let made = c.self.inside.made + 1 in
    let r = c.in-Prepared.request in
    let fits : FitsSigned w32 r.fd = search rules in
    let items = c.in_ok-push.ensures.items ∙ ap (λ fd. w.queued ++ record r { serial = made; fd = fd; user_data = c.args.user_data } ∷ []) (to_z-of_z w32 r.fd fits) in
    (subst (λ q. IsKept (record w { slot = Closed; queued = q; made = made })) (sym items) (kept_queued w c.self.invariant.0 r made c.args.user_data made c.in-Prepared.is), c.self.invariant.1)
