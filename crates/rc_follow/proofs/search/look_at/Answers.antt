use Rattle.rc_lang.specs.Program.{Program}
use Rattle.rc_follow.specs.Searches.{Visits}
use Rattle.rc_follow.proofs.Added.{asked, of_one, visits_one}
use Rattle.rc_follow.proofs.search.look_at.Goals as goal

pub returns-then-branch-clause-visits : goal.returns-then-branch-clause-visits
returns-then-branch-clause-visits c =
    visits_one c.args.rights.now c.args.ground.noted.now c.args.node c.args.node c.args.ground.thread c.args.ground.call c.args.found.now c.keep.new.found
    (asked c.args.rights.now c.args.ground.noted.now c.args.node c.args.ground.thread c.args.ground.call (c.in_ok-stays.ensures.asks c.if-branch.true))
    c.in_ok-keep.ensures.worlds c.in_ok-keep.ensures.todo

pub returns-in-Unlock-clause-visits : goal.returns-in-Unlock-clause-visits
returns-in-Unlock-clause-visits c = of_one (λ (P : Program). Visits P c.args.ground.noted.now c.args.node c.args.ground.thread c.args.ground.call c.args.found.now c.look_at_unlock.new.found) c.args.rights.now c.look_at_unlock.result c.look_at_unlock.ensures.visits

pub returns-in_default : goal.returns-in_default
returns-in_default c = record {
  same = c.stays.ensures.same;
  visits = of_one (λ (P : Program). Visits P c.args.ground.noted.now c.args.node c.args.ground.thread c.args.ground.call c.args.found.now c.look_at_call.new.found) c.args.rights.now c.look_at_call.result c.look_at_call.ensures.visits;
  leads = c.look_at_call.ensures.leads;
}
