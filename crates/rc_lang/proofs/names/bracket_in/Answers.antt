use Rattle.std.proofs.Common.{arith, sym, ◌∙◌}
use Rattle.std.proofs.lemmas.List.Sums.{position_or_len_is}
use Rattle.rc_lang.specs.Names.{is_bracket}
use Rattle.rc_lang.proofs.names.bracket_in.Goals as goal

pub returns-then-is_bracket-clause-value : goal.returns-then-is_bracket-clause-value
returns-then-is_bracket-clause-value c = sym (position_or_len_is is_bracket c.args.word.now c.loop-place.place 0 (omega (arith, c.loop-place-test.true)) c.loop-place.invariant (λ lt. sym c.is_bracket.ensures ∙ c.if-is_bracket.true))

pub returns-clause-value : goal.returns-clause-value
returns-clause-value c = sym (position_or_len_is is_bracket c.args.word.now _ 0 (omega arith) (λ k lt. c.loop-place.invariant k (omega (arith, lt, c.loop-place-test.false))) (λ lt. absurd (omega (arith, lt))))
