use Rattle.rc_lang.specs.Program.{Program}
use Rattle.rc_follow.specs.Ways.{Leads}
use Rattle.rc_follow.specs.Searches.{Visits}
use Rattle.rc_follow.proofs.Added.{visits_both, visits_from}
use Rattle.rc_follow.proofs.search.look_at_unlock.Goals as goal

pub returns-then-branch-clause-visits : goal.returns-then-branch-clause-visits
returns-then-branch-clause-visits c P =
    let leads : Leads c.args.ground.noted.now c.args.node c.in-Some.next = rw c.in-Some.is at c.in_ok-next.ensures.leads in
    visits_both P c.args.ground.noted.now c.args.node c.args.ground.thread c.args.ground.call c.args.found.now c.go_on.new.found c.keep_asked.new.found (c.in_ok-next.ensures.visits P)
    (visits_from P c.args.ground.noted.now c.args.node c.in-Some.next c.args.ground.thread c.args.ground.call c.go_on.new.found c.keep_asked.new.found leads (c.in_ok-keep_asked.ensures P))

pub returns-clause-visits : goal.returns-clause-visits
returns-clause-visits c P =
    let leads : Leads c.args.ground.noted.now c.args.node c.in-Some.next = rw c.in-Some.is at c.in_ok-next.ensures.leads in
    visits_both P c.args.ground.noted.now c.args.node c.args.ground.thread c.args.ground.call c.args.found.now c.go_on.new.found c.keep_asked.new.found (c.in_ok-next.ensures.visits P)
    (visits_from P c.args.ground.noted.now c.args.node c.in-Some.next c.args.ground.thread c.args.ground.call c.go_on.new.found c.keep_asked.new.found leads (c.in_ok-keep_asked.ensures P))
