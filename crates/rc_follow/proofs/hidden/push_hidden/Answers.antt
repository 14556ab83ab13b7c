use Rattle.std.proofs.Common.{subst}
use Rattle.rc_follow.specs.Follower.{Adds}
use Rattle.rc_follow.specs.Ways.{Leads, Way}
use Rattle.rc_follow.proofs.Added.{adds_both}
use Rattle.rc_follow.proofs.hidden.push_hidden.Goals as goal

pub returns-in_ok-push_gone-in-Both-2 : goal.returns-in_ok-push_gone-in-Both-2
returns-in_ok-push_gone-in-Both-2 c =
    adds_both (Leads c.args.ground.noted.now c.args.node) c.args.fresh.now.items c.push_gone-in-Both.new.fresh.items c.push_gone-in-Both-2.new.fresh.items
    (subst (λ (w : Way). Adds (Leads c.args.ground.noted.now w) c.args.fresh.now.items c.push_gone-in-Both.new.fresh.items) c.in_ok-again-in-Both.ensures c.in_ok-push_gone-in-Both.ensures)
    c.in_ok-push_gone-in-Both-2.ensures
