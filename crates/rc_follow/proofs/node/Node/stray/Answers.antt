use Rattle.std.proofs.Common.{subst}
use Rattle.std.specs.Prelude.{IfSome}
use Rattle.rc_world.specs.Machine.{World}
use Rattle.rc_world.specs.WeakRuns.{IsWeakStep}
use Rattle.rc_follow.proofs.node.Node.stray.Goals as goal

pub returns-clause-step : goal.returns-clause-step
returns-clause-step c =
    let made : IfSome c.stray.result (λ e. IsWeakStep c.self.inside.world.value e c.stray.new.world) =
    subst (λ (w : World). IfSome c.stray.result (λ e. IsWeakStep w e c.stray.new.world)) c.deref_mut.ensures.value c.stray.ensures in
    rw (← c.self.view_is) made
