use Rattle.rc_follow.specs.Follower.{LeadsBy}
use Rattle.rc_follow.proofs.Added.{adds_none, visits_none}
use Rattle.rc_follow.proofs.onward.look_on.Goals as goal

pub returns-in_ok-give : goal.returns-in_ok-give
returns-in_ok-give c P = visits_none P c.args.ground.noted.now c.args.node c.args.ground.thread c.args.ground.call c.args.found.now

pub returns-in_ok-push_hidden : goal.returns-in_ok-push_hidden
returns-in_ok-push_hidden c P = (adds_none (LeadsBy P c.args.ground.noted.now c.args.node c.args.ground.thread c.args.ground.call) c.args.found.now.worlds.items, c.in_ok-push_hidden.ensures)
