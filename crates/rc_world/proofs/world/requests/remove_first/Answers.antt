use Rattle.std.proofs.Common.{nat_eq, sym, ap, ◌∙◌}
use Rattle.std.specs.List.{position}
use Rattle.rc_lang.specs.declared.request.Request.{Request}
use Rattle.rc_world.proofs.Requests.{without_data-some, without_data-none}
use Rattle.rc_world.proofs.world.requests.remove_first.Goals as goal

pub returns-in-Some-clause-items : goal.returns-in-Some-clause-items
returns-in-Some-clause-items c =
    let e = sym (ap (position (λ (r : Request). nat_eq r.user_data c.args.user_data)) c.deref.ensures.value) ∙ sym c.place_of.ensures ∙ c.in-Some.is in
    c.remove.ensures.by_index.2 ∙ sym (without_data-some c.args.user_data c.args.requests.now.items c.in-Some.place e)

pub returns-in_default-clause-items : goal.returns-in_default-clause-items
returns-in_default-clause-items c =
    let e = sym (ap (position (λ (r : Request). nat_eq r.user_data c.args.user_data)) c.deref.ensures.value) ∙ sym c.place_of.ensures ∙ c.in_default.is in
    sym (without_data-none c.args.user_data c.args.requests.now.items e)
