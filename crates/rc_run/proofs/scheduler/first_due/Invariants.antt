use Rattle.rc_run.specs.Scheduler.{NobodyIn, due}
use Rattle.rc_run.proofs.scheduler.first_due.Given as goal

abbrev pub invariant-loop-thread : goal.invariant-loop-thread
invariant-loop-thread l = NobodyIn (due l.live l.queue) l.from l.thread
