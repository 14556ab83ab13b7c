use Rattle.std.proofs.Common.{FitsSigned, IsSome, w32, refl, rules, sym, ap, subst, ◌∙◌}
use Rattle.std.proofs.lemmas.Int.{to_z-of_z}
use Rattle.rc_world.specs.Harm.{DoesNoHarm}
use Rattle.rc_world.specs.Items.{is_enabled, kernel_item, pending_place}
use Rattle.rc_world.specs.Kept.{IsKept}
use Rattle.rc_world.proofs.LawTraces.{kernel_steps, thread_steps}
use Rattle.rc_world.proofs.world.World.make.Goals as goal

pub step-requires-clause-step : goal.step-requires-clause-step
step-requires-clause-step c =
    let w = c.args.self.now in
    let kept = subst IsKept c.self.view_is c.self.invariant.0 in
    let harmless = subst (DoesNoHarm w) c.in-Thread.is c.requires.harmless in
    let s = thread_steps w kept c.in-Thread.thread harmless c.in-Thread.take (sym (ap (is_enabled w) c.in-Thread.is) ∙ c.requires.enabled) in
    subst IsSome (sym s.1) refl

pub complete-requires-clause-calm : goal.complete-requires-clause-calm
complete-requires-clause-calm c = subst (DoesNoHarm c.args.self.now) c.in-Kernel.is c.requires.harmless

pub complete-requires-clause-step : goal.complete-requires-clause-step
complete-requires-clause-step c =
    let w = c.args.self.now in
    let kept = subst IsKept c.self.view_is c.self.invariant.0 in
    let calm = subst (DoesNoHarm w) c.in-Kernel.is c.requires.harmless in
    let place = pending_place w c.in-Kernel.user_data in
    let s = kernel_steps w calm kept c.in-Kernel.res c.in-Kernel.fill place (sym (ap (is_enabled w) c.in-Kernel.is) ∙ c.requires.enabled) in
    let fits : FitsSigned w32 c.in-Kernel.res = search rules in
    let read = to_z-of_z w32 c.in-Kernel.res fits in
    subst IsSome (sym (ap (λ z. kernel_item w z c.in-Kernel.fill place) read ∙ s.1)) refl
