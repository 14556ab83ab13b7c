use Rattle.std.proofs.Common.{◌≡◌, ◌∙◌, ap, arith, get_or, inl, inr, sym}
use Rattle.std.specs.Prelude.{bit_and}
use Rattle.std.proofs.lemmas.Bool.{cases_lt}
use Rattle.std.proofs.lemmas.List.{get_or_past}
use Rattle.rc_split.proofs.Marks.{marks_met, none_and}
use Rattle.rc_split.proofs.rows.least_marks.Goals as goal

pub returns : goal.returns
returns c =
    let mine = c.args.mine.now in
    marks_met c.loop-word.mine mine c.args.theirs.now
    (λ j. elim (cases_lt j 4) [
      | inl lt ↦ c.loop-word.invariant.done j (omega (arith, lt, c.loop-word-test.false))
      | inr le ↦
          let none : get_or mine j 0 ≡ 0 = get_or_past mine j 0 (omega (arith, le, c.told-mine)) in
          c.loop-word.invariant.rest j (omega (arith, le, c.loop-word.auto.word-end)) ∙ none ∙ sym (ap (λ x. bit_and x (get_or c.args.theirs.now j 0)) none ∙ none_and (get_or c.args.theirs.now j 0))
    ])
