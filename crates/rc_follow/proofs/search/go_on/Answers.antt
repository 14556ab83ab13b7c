use Rattle.rc_follow.proofs.Added.{leads_one}
use Rattle.rc_follow.proofs.search.go_on.Goals as goal

pub returns-then-branch-clause-leads : goal.returns-then-branch-clause-leads
returns-then-branch-clause-leads c = leads_one c.args.ground.noted.now c.args.node c.go.new.node (c.in_ok-go.ensures c.if-branch.true)
