use Rattle.rc_follow.proofs.Added.{leads_one, visits_from, visits_none}
use Rattle.rc_follow.proofs.kept.keep_peeked.Goals as goal

pub returns-in_ok-keep_called : goal.returns-in_ok-keep_called
returns-in_ok-keep_called c P =
    visits_from P c.args.ground.noted.now c.args.node c.complete.new.node c.args.ground.thread c.args.ground.call c.args.found.now c.keep_called.new.found (leads_one c.args.ground.noted.now c.args.node c.complete.new.node (c.in_ok-complete.ensures c.if-branch.true)) (c.in_ok-keep_called.ensures P)

pub returns-in_ok-give : goal.returns-in_ok-give
returns-in_ok-give c P = visits_none P c.args.ground.noted.now c.args.node c.args.ground.thread c.args.ground.call c.args.found.now
