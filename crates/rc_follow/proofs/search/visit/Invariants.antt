use Rattle.std.proofs.Common.{◌≡◌}
use Rattle.rc_follow.specs.Ways.{Leads}
use Rattle.rc_follow.specs.Searches.{Visits}
use Rattle.rc_follow.proofs.search.visit.Given as goal

abbrev pub invariant-loop-step : goal.invariant-loop-step
invariant-loop-step l = record {
  same : l.rights ≡ l.fn.rights;
  leads : Leads l.fn.ground.noted.now l.fn.node l.node;
  visits : Visits l.fn.rights l.fn.ground.noted.now l.fn.node l.fn.ground.thread l.fn.ground.call l.fn.found l.found;
}
