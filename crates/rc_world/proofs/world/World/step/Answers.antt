use Rattle.std.proofs.Common.{ℤ, w32, Some, IsSome, sym, ap, subst, ◌∙◌}
use Rattle.std.proofs.lemmas.Int.{to_z-of_z}
use Rattle.rc_world.specs.Changes.{StmtIsSmall, standing_at}
use Rattle.rc_world.specs.Controls.{next_line}
use Rattle.rc_world.specs.Items.{given_at}
use Rattle.rc_world.specs.Kept.{IsKept}
use Rattle.rc_world.specs.Machine.{World, in_rings, stmt_answer, thread_step}
use Rattle.rc_world.specs.WorldParts.{ring_step, view_world}
use Rattle.rc_world.proofs.WorldSteps.{small_here, step_done, step_ready, step_some}
use Rattle.rc_world.proofs.world.World.step.Goals as goal

pub rings-requires-clause-small : goal.rings-requires-clause-small
rings-requires-clause-small c =
    let line = sym c.line.ensures.value ∙ c.in-Some.is in
    subst (λ (w : World). StmtIsSmall w.program c.in-Some.line.stmt) c.self.view_is (small_here (view_world c.self.inside) c.self.invariant.0 c.args.thread c.given-given.result c.in-Some.line line)

pub rings-requires-clause-step : goal.rings-requires-clause-step
rings-requires-clause-step c =
    let old = c.args.self.now in
    let l = c.in-Some.line in
    let read = to_z-of_z w32 c.given-given.result (record { sfits = c.given-given.type_inv }) in
    let kept = subst IsKept c.self.view_is c.self.invariant.0 in
    let line = ap (λ (w : World). next_line w.program w.controls c.args.thread) (sym c.self.view_is) ∙ sym c.line.ensures.value ∙ c.in-Some.is in
    let number = ap (given_at old c.args.take) line ∙ sym c.given-given.ensures in
    let some = subst (λ (r : ℤ). IsSome (thread_step old c.args.thread r)) number c.requires.step in
    subst (λ (r : ℤ). IsSome (ring_step old c.args.thread r l.stmt)) (sym read) (step_some old kept c.args.thread c.given-given.result l line some).0

pub step-requires : goal.step-requires
step-requires c =
    let old = c.args.self.now in
    let l = c.in-Some.line in
    let read = to_z-of_z w32 c.given-given.result (record { sfits = c.given-given.type_inv }) in
    let kept = subst IsKept c.self.view_is c.self.invariant.0 in
    let line = ap (λ (w : World). next_line w.program w.controls c.args.thread) (sym c.self.view_is) ∙ sym c.line.ensures.value ∙ c.in-Some.is in
    let rings = ap (λ z. in_rings old (standing_at old.controls c.args.thread) z l.stmt) (sym read) ∙ c.in_ok-rings.ensures ∙ ap (λ (w : World). Some w) (sym c.self-2.view_is) in
    let answer = c.answer-answer.ensures ∙ ap (λ z. stmt_answer old z l.stmt) read in
    let number = ap (given_at old c.args.take) line ∙ sym c.given-given.ensures in
    let some = subst (λ (r : ℤ). IsSome (thread_step old c.args.thread r)) number c.requires.step in
    step_ready old kept c.args.thread c.given-given.result l line (view_world c.self-2.inside) rings c.answer-answer.result answer some

pub returns : goal.returns
returns c =
    let old = c.args.self.now in
    let l = c.in-Some.line in
    let read = to_z-of_z w32 c.given-given.result (record { sfits = c.given-given.type_inv }) in
    let kept = subst IsKept c.self.view_is c.self.invariant.0 in
    let line = ap (λ (w : World). next_line w.program w.controls c.args.thread) (sym c.self.view_is) ∙ sym c.line.ensures.value ∙ c.in-Some.is in
    let rings = ap (λ z. in_rings old (standing_at old.controls c.args.thread) z l.stmt) (sym read) ∙ c.in_ok-rings.ensures ∙ ap (λ (w : World). Some w) (sym c.self-2.view_is) in
    let answer = c.answer-answer.ensures ∙ ap (λ z. stmt_answer old z l.stmt) read in
    ap (thread_step old c.args.thread) (ap (given_at old c.args.take) line ∙ sym c.given-given.ensures)
    ∙ step_done old kept c.args.thread c.given-given.result l line (view_world c.self-2.inside) rings c.answer-answer.result answer c.step.result c.step.new.self c.step.ensures
