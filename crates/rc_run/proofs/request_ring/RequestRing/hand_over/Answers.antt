use Rattle.std.proofs.Common.{◌≡◌, drop, rules, ap, subst, sym, ◌∙◌}
use Rattle.rc_run.specs.Held.{AreDistinct}
use Rattle.rc_run.specs.Requests.{RequestRing, data_of}
use Rattle.rc_run.proofs.Entries.{handed_held, handed_is}
use Rattle.rc_run.proofs.request_ring.RequestRing.hand_over.Goals as goal

pub invariant_of-self : goal.invariant_of-self
invariant_of-self c =
    let rest : c.drop.new.self.0.items ≡ drop c.args.count c.self.inside.serials.items = search rules in
    handed_held _ _ _ _ c.args.count c.self.invariant rest c.submit.ensures.after

pub returns : goal.returns
returns c =
    let rest : c.drop.new.self.0.items ≡ drop c.args.count c.self.inside.serials.items = search rules in
    let distinct = subst (λ (r : RequestRing). AreDistinct (data_of r.queued)) (sym c.self.view_is) c.requires.distinct in
    handed_is _ _ _ _ c.self.inside.other c.self.inside.made c.args.count c.self.invariant distinct rest c.submit.ensures.after
    ∙ ap (λ (r : RequestRing). record r { queued = drop c.args.count r.queued }) c.self.view_is
