use Rattle.std.proofs.Common.{subst}
use Rattle.rc_follow.specs.Follower.{Adds}
use Rattle.rc_follow.specs.Ways.{Leads, Way}
use Rattle.rc_follow.proofs.Added.{adds_both, adds_none}
use Rattle.rc_follow.proofs.hidden.push_loads.Goals as goal

pub loop-byte-init : goal.loop-byte-init
loop-byte-init c = adds_none (Leads c.args.ground.noted.now c.args.node.now) c.args.fresh.now.items

pub loop-byte-preserved : goal.loop-byte-preserved
loop-byte-preserved c =
    adds_both (Leads c.args.ground.noted.now c.args.node.now) c.args.fresh.now.items c.loop-byte.fresh.items c.push_gone.new.fresh.items c.loop-byte.invariant
    (subst (λ (w : Way). Adds (Leads c.args.ground.noted.now w) c.loop-byte.fresh.items c.push_gone.new.fresh.items) c.in_ok-again.ensures c.in_ok-push_gone.ensures)
