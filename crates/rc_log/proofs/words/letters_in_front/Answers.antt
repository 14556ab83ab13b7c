use Rattle.std.proofs.Common.{length, sym, arith}
use Rattle.std.proofs.lemmas.Bool.{eq-eqb}
use Rattle.std.proofs.lemmas.List.Sums.{position_or_len_is}
use Rattle.rc_log.specs.Said.{is_blank}
use Rattle.rc_log.proofs.words.letters_in_front.Goals as goal

pub returns-then-line-i-eq32-clause-value : goal.returns-then-line-i-eq32-clause-value
returns-then-line-i-eq32-clause-value c =
    sym (position_or_len_is is_blank c.args.line.now c.loop-i.i 0 (omega (arith, c.loop-i-test.true)) c.loop-i.invariant (λ _. eq-eqb _ _ c.if-line-i-eq32.true))

pub returns-clause-value : goal.returns-clause-value
returns-clause-value c =
    let line = c.args.line.now in
    sym (position_or_len_is is_blank line (length line) 0 (omega arith) (λ k lt. c.loop-i.invariant k (omega (arith, lt, c.loop-i-test.false))) (λ lt. absurd (omega (arith, lt))))
