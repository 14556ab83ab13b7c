use Rattle.std.proofs.Common.{◌≡◌, ◌+◌, Some, inl, inr, sym, ap, subst, ◌∙◌, arith}
use Rattle.rc_lang.specs.Views.{view_of}
use Rattle.rc_verify.specs.Held.{IsLastHeld}
use Rattle.rc_verify.proofs.Having.{goes_further, has_here, held_to, next_held, no_refusal}
use Rattle.rc_verify.proofs.Told.{named}
use Rattle.rc_verify.proofs.held.last_held.Goals.{then-holds, else-holds}
use Rattle.rc_verify.proofs.held.last_held.Goals as goal

pub returns-in-Err : goal.returns-in-Err
returns-in-Err c = λ t that le h. absurd (no_refusal c.args.program.now t c.args.thread c.loop-at.at c.args.place c.loop-at.labels c.in-Err.field-0 (named c.args.program.now c.args.thread c.loop-at.labels c.loop-at.invariant.0 c.loop-at.invariant.3) c.loop-at.invariant.1 that c.loop-at.invariant.2 c.loop-at-test.true h c.in-Err.ensures.goes.1)

pub loop-at-preserved : goal.loop-at-preserved
loop-at-preserved c =
    let i = c.loop-at.invariant in
    let further = goes_further _ _ c.in-Ok-true.field-0 c.in-Ok-true.field-0-test c.in-Ok-true.ensures.goes in
    let view = view_of c.args.program.now c.args.thread in
    let here = has_here view c.loop-at.labels c.state.result.now c.loop-at.at c.args.part c.holds.result (named c.args.program.now c.args.thread c.loop-at.labels i.0 i.3) i.2 c.state.ensures.value c.holds.ensures c.state.ensures.strongest in
    let last = next_held view c.loop-at.labels.thread c.loop-at.at c.args.part c.holds.result c.loop-at.last c.if-holds.last here i.4 (elim c.if-holds.branch [ then-holds w ↦ inl (w.if-holds.true, w.last-is) | else-holds w ↦ inr (w.if-holds.false, w.last-is) ]) in (
      c.in-Ok-true.ensures.of ∙ i.0,
      i.1 ∙ ap Some (sym c.in-Ok-true.ensures.thread),
      further ∙ ap (λ k. k + 1) i.2,
      c.in-Ok-true.ensures.number ∙ i.3,
      subst (λ t. IsLastHeld view t (c.loop-at.at + 1) c.args.part c.if-holds.last) (sym c.in-Ok-true.ensures.thread) last,
    )

pub returns : goal.returns
returns c = λ t that le h. held_to c.args.program.now t c.loop-at.labels.thread c.args.thread c.loop-at.at c.args.place c.args.part c.loop-at.last c.loop-at.invariant.1 that (let e : c.loop-at.at ≡ c.args.place = omega (arith, c.loop-at-test.false, c.loop-at.auto.at-end) in e) c.loop-at.invariant.4
