use Rattle.rc_follow.specs.Ways.{Leads}
use Rattle.rc_follow.proofs.Added.{adds_push, leads_one}
use Rattle.rc_follow.proofs.hidden.push_gone.Goals as goal

pub returns-in_ok-push : goal.returns-in_ok-push
returns-in_ok-push c =
    adds_push (Leads c.args.ground.noted.now c.args.node) c.go.new.node c.args.fresh.now.items c.push.new.self.items
    (leads_one c.args.ground.noted.now c.args.node c.go.new.node (c.in_ok-go.ensures c.if-branch.true))
    c.in_ok-push.ensures.items
