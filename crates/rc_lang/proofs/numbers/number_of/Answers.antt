use Rattle.std.proofs.Common.{◌+◌, drop, get_or, arith}
use Rattle.std.proofs.lemmas.List.{drop_more}
use Rattle.rc_lang.proofs.Digits.{too_large}
use Rattle.rc_lang.proofs.numbers.number_of.Goals as goal

pub returns-then-n-digit-clause-value : goal.returns-then-n-digit-clause-value
returns-then-n-digit-clause-value c =
    let i = c.loop-b.b-index in
    let word = c.args.word.now in
    let e = rw (drop_more word i 0 c.loop-b-test.true) at c.loop-b.invariant.0 in
    too_large c.args.low c.args.high c.loop-b.n (get_or word i 0) (drop (i + 1) word) word (omega arith) e
