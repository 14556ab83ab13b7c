use Rattle.rc_run.proofs.Dispatching.{moves_on}
use Rattle.rc_run.proofs.scheduler.Scheduler.turn.Goals as goal

pub invariant_of-self : goal.invariant_of-self
invariant_of-self g c = moves_on c.turn-turn.new.self c.live-2.result.now c.note.new.self c.dispatch.new.self c.dispatch.result c.live-2.ensures c.dispatch.ensures.holders_go c.dispatch.ensures.next
