use Rattle.std.proofs.Common.{rules, ◌≡◌, nat_eq, sym, ◌∙◌}
use Rattle.std.specs.List.{count_by}
use Rattle.rc_lang.specs.declared.request.Request.{Request}
use Rattle.rc_world.proofs.Requests.{count_of-count_by}
use Rattle.rc_world.proofs.world.faults.count_of.Goals as goal

pub returns : goal.returns
returns c =
    let e : c.count.result ≡ count_by (λ (r : Request). nat_eq r.user_data c.args.user_data) c.args.requests.now = search rules in
    e ∙ sym (count_of-count_by c.args.user_data c.args.requests.now)
