use Rattle.std.proofs.Common.{subst}
use Rattle.std.specs.Prelude.{IfOk, IfSome}
use Rattle.rc_world.specs.Machine.{World}
use Rattle.rc_world.specs.WeakRuns.{IsWeakStep}
use Rattle.rc_follow.proofs.node.Node.step.Goals as goal

pub returns-clause-step : goal.returns-clause-step
returns-clause-step c =
    let made : IfOk c.step.result (λ event. IfSome event (λ e. IsWeakStep c.self.inside.world.value e c.step.new.world)) =
    subst (λ (w : World). IfOk c.step.result (λ event. IfSome event (λ e. IsWeakStep w e c.step.new.world))) c.deref_mut.ensures.value c.step.ensures in
    rw (← c.self.view_is) made
