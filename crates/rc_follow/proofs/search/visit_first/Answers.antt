use Rattle.std.proofs.Common.{subst}
use Rattle.rc_follow.specs.Ways.{Way}
use Rattle.rc_follow.specs.Searches.{Visits}
use Rattle.rc_follow.proofs.Added.{visits_both}
use Rattle.rc_follow.proofs.search.visit_first.Goals as goal

pub returns-clause-visits : goal.returns-clause-visits
returns-clause-visits c =
    visits_both c.args.rights.now c.args.ground.noted.now c.args.node.now c.args.ground.thread c.args.ground.call c.args.found.now c.keep_unlocked.new.found c.visit.new.found (c.in_ok-keep_unlocked.ensures c.args.rights.now)
    (subst (λ (v : Way). Visits c.args.rights.now c.args.ground.noted.now v c.args.ground.thread c.args.ground.call c.keep_unlocked.new.found c.visit.new.found) c.in_ok-again.ensures c.in_ok-visit.ensures.visits)
