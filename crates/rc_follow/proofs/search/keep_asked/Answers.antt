use Rattle.std.proofs.Common.{sym, subst}
use Rattle.rc_follow.specs.Follower.{LeadsBy}
use Rattle.rc_follow.specs.Ways.{Leads, Way}
use Rattle.rc_follow.proofs.Added.{adds_none, adds_push, asked}
use Rattle.rc_follow.proofs.search.keep_asked.Goals as goal

pub returns : goal.returns
returns c P = (
  adds_push (LeadsBy P c.args.ground.noted.now c.args.node.now c.args.ground.thread c.args.ground.call) c.in_ok-again.again c.args.found.now.worlds.items c.push.new.self.items
      (subst (λ (v : Way). LeadsBy P c.args.ground.noted.now c.args.node.now c.args.ground.thread c.args.ground.call v) (sym c.in_ok-again.ensures) (asked P c.args.ground.noted.now c.args.node.now c.args.ground.thread c.args.ground.call (c.asks.ensures (cc) P)))
      c.in_ok-push.ensures.items,
  adds_none (Leads c.args.ground.noted.now c.args.node.now) c.args.found.now.todo.items,
)
