use Rattle.std.proofs.Common.{◌+◌, ◌++◌, ◌∷◌, [], List, ap, subst, sym, ◌∙◌}
use Rattle.rc_run.specs.declared.request_ring.Serial.{Serial}
use Rattle.rc_run.specs.Held.{AreDistinct, IsHeld, ring_of}
use Rattle.rc_run.specs.Requests.{RequestRing, after_data, data_of}
use Rattle.rc_run.proofs.Entries.{queued_held, queued_is, queued_so}
use Rattle.rc_run.proofs.request_ring.RequestRing.queue.Goals as goal

pub invariant_of-self-2 : goal.invariant_of-self-2
invariant_of-self-2 c =
    let q = c.requires.prepared.0 in
    let is = ap (λ (r : RequestRing). r.slot) c.self.view_is ∙ c.requires.prepared.1 in
    let s = queued_so c.self.inside.ring c.resume_prepared-slot.new.self c.set_data64.new.ring c.args.user_data c.resume_prepared-slot.ensures.after c.set_data64.ensures.after c.set_data64.ensures.spells in
    subst (λ (xs : List Serial). IsHeld c.set_data64.new.ring xs) (sym c.in_ok-push.ensures.items)
    (queued_held c.self.inside.ring c.set_data64.new.ring c.self.inside.serials.items c.self.inside.other c.args.user_data (c.self.inside.made + 1) q c.self.invariant is c.queued_sqe-held.ensures.law s.after s.spells)

pub returns-clause-ok : goal.returns-clause-ok
returns-clause-ok c q prepared =
    let is = ap (λ (r : RequestRing). r.slot) c.self.view_is ∙ prepared in
    let s = queued_so c.self.inside.ring c.resume_prepared-slot.new.self c.set_data64.new.ring c.args.user_data c.resume_prepared-slot.ensures.after c.set_data64.ensures.after c.set_data64.ensures.spells in
    let fresh = subst (λ (r : RequestRing). AreDistinct (data_of r.queued ++ c.args.user_data ∷ [])) (sym c.self.view_is) c.requires.fresh in
    ap (λ (xs : List Serial). ring_of c.set_data64.new.ring xs c.self.inside.other (c.self.inside.made + 1)) c.in_ok-push.ensures.items
    ∙ queued_is c.self.inside.ring c.set_data64.new.ring c.self.inside.serials.items c.self.inside.other c.args.user_data c.self.inside.made q c.self.invariant is c.queued_sqe-held.ensures.law fresh s.after s.spells
    ∙ ap (λ (r : RequestRing). after_data r c.args.user_data q) c.self.view_is
