use Rattle.std.proofs.Common.{◌∙◌, subst, refl}
use Rattle.rc_lang.specs.Program.{Program}
use Rattle.rc_follow.specs.Ways.{Leads}
use Rattle.rc_follow.specs.Searches.{Visits}
use Rattle.rc_follow.proofs.Added.{leads_both, leads_none, visits_both, visits_from, visits_none}
use Rattle.rc_follow.proofs.search.visit.Goals as goal

pub loop-step-init : goal.loop-step-init
loop-step-init c = record {
  same = refl;
  leads = leads_none c.args.ground.noted.now c.args.node;
  visits = visits_none c.args.rights.now c.args.ground.noted.now c.args.node c.args.ground.thread c.args.ground.call c.args.found.now;
}

pub returns-in-None-clause-visits : goal.returns-in-None-clause-visits
returns-in-None-clause-visits c =
    visits_both c.args.rights.now c.args.ground.noted.now c.args.node c.args.ground.thread c.args.ground.call c.args.found.now c.loop-step.found c.look_at.new.found c.loop-step.invariant.visits
    (visits_from c.args.rights.now c.args.ground.noted.now c.args.node c.loop-step.node c.args.ground.thread c.args.ground.call c.loop-step.found c.look_at.new.found c.loop-step.invariant.leads
    (subst (λ (P : Program). Visits P c.args.ground.noted.now c.loop-step.node c.args.ground.thread c.args.ground.call c.loop-step.found c.look_at.new.found) c.loop-step.invariant.same c.in_ok-next.ensures.visits))

pub loop-step-preserved : goal.loop-step-preserved
loop-step-preserved c =
    let leads : Leads c.args.ground.noted.now c.loop-step.node c.in-Some.next = rw c.in-Some.is at c.in_ok-next.ensures.leads in
    record {
      same = c.in_ok-next.ensures.same ∙ c.loop-step.invariant.same;
      leads = leads_both c.args.ground.noted.now c.args.node c.loop-step.node c.in-Some.next c.loop-step.invariant.leads leads;
      visits = visits_both c.args.rights.now c.args.ground.noted.now c.args.node c.args.ground.thread c.args.ground.call c.args.found.now c.loop-step.found c.look_at.new.found c.loop-step.invariant.visits
          (visits_from c.args.rights.now c.args.ground.noted.now c.args.node c.loop-step.node c.args.ground.thread c.args.ground.call c.loop-step.found c.look_at.new.found c.loop-step.invariant.leads
          (subst (λ (P : Program). Visits P c.args.ground.noted.now c.loop-step.node c.args.ground.thread c.args.ground.call c.loop-step.found c.look_at.new.found) c.loop-step.invariant.same c.in_ok-next.ensures.visits));
    }

pub returns-clause-visits : goal.returns-clause-visits
returns-clause-visits c =
    visits_both c.args.rights.now c.args.ground.noted.now c.args.node c.args.ground.thread c.args.ground.call c.args.found.now c.loop-step.found c.look_further.new.found c.loop-step.invariant.visits
    (visits_from c.args.rights.now c.args.ground.noted.now c.args.node c.loop-step.node c.args.ground.thread c.args.ground.call c.loop-step.found c.look_further.new.found c.loop-step.invariant.leads
    (c.in_ok-look_further.ensures c.args.rights.now))
