use Rattle.rc_run.proofs.Dispatching.{moves_on}
use Rattle.rc_run.proofs.scheduler.Scheduler.suspend.Goals as goal

pub invariant_of-self : goal.invariant_of-self
invariant_of-self g c = moves_on c.self.inside.run c.live.result.now c.set.new.self c.dispatch.new.self c.dispatch.result c.live.ensures c.dispatch.ensures.holders_go c.dispatch.ensures.next
