use Rattle.std.proofs.Common.{sym, ◌∙◌}
use Rattle.rc_run.specs.Scheduler.{due}
use Rattle.rc_run.proofs.Dispatching.{nobody_more}
use Rattle.rc_run.proofs.scheduler.first_due.Goals as goal

pub loop-thread-preserved : goal.loop-thread-preserved
loop-thread-preserved c =
    nobody_more (due c.args.live.now c.args.queue.now) c.args.from c.loop-thread.thread c.loop-thread.invariant (sym c.is_due.ensures ∙ c.if-is_due.false)
