use Rattle.std.proofs.Common.{subst}
use Rattle.std.specs.Prelude.{OnErr}
use Rattle.rc_run.specs.Lives.{IsNotOut}
use Rattle.rc_run.specs.Scheduler.{Scheduler}
use Rattle.rc_run.proofs.Dispatching.{moves_on}
use Rattle.rc_run.proofs.scheduler.Scheduler.post.Goals as goal

pub invariant_of-self : goal.invariant_of-self
invariant_of-self g c = moves_on c.post-posted.new.self c.live.result.now c.self.inside.queue c.dispatch.new.self c.dispatch.result c.live.ensures c.dispatch.ensures.holders_go c.dispatch.ensures.next

pub returns-clause-not_out : goal.returns-clause-not_out
returns-clause-not_out g c = subst (λ (s : Scheduler). OnErr c.post-posted.result (IsNotOut s.run.run c.args.job.request)) c.self.view_is c.post-posted.ensures.not_out
