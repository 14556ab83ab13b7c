use Rattle.std.proofs.Common.{get_or, sym, ◌∙◌, arith}
use Rattle.std.proofs.lemmas.Bool.{ne_eqb}
use Rattle.rc_read.specs.Texts.{texts_of}
use Rattle.rc_read.proofs.Cuts.{at_blank, at_letter, at_rest, at_comment}
use Rattle.rc_read.proofs.words.put_words.Goals as goal
use Rattle.rc_read.proofs.words.put_words.Goals.{then-is_blank+in_ok-push_word-2 as blank, else-is_blank as letter}

pub returns-then-line-i-eq35 : goal.returns-then-line-i-eq35
returns-then-line-i-eq35 c =
    at_comment c.args.line.now c.loop-i.start c.loop-i.i (texts_of c.loop-i.words.items) (texts_of c.push_word.new.words.items) c.loop-i-test.true c.if-line-i-eq35.true c.in_ok-push_word.ensures c.loop-i.invariant.cut

pub loop-i-preserved : goal.loop-i-preserved
loop-i-preserved c =
    let line = c.args.line.now in
    let i = c.loop-i.i in
    let b = get_or line i 0 in
    let texts = texts_of c.loop-i.words.items in
    let cut = c.loop-i.invariant.cut in
    elim c.if-is_blank.branch [
      | blank w ↦ record {
        above = omega (arith, w.start-is);
        cut =
            rw (w.start-is, w.words-is)
            (at_blank line c.loop-i.start i texts (texts_of w.push_word-then-is_blank.new.words.items) c.loop-i-test.true (ne_eqb b 35 c.if-line-i-eq35.false) (sym c.is_blank.ensures ∙ w.if-is_blank.true) w.in_ok-push_word-2.ensures cut);
      }
      | letter w ↦ record {
        above = omega (arith, w.start-is, c.loop-i.invariant.above);
        cut =
            rw (w.start-is, w.words-is)
            (at_letter line c.loop-i.start i texts c.loop-i.invariant.above c.loop-i-test.true (ne_eqb b 35 c.if-line-i-eq35.false) (sym c.is_blank.ensures ∙ w.if-is_blank.false) cut);
      }
    ]

pub returns : goal.returns
returns c =
    at_rest c.args.line.now c.loop-i.start c.loop-i.i (texts_of c.loop-i.words.items) (texts_of c.push_word-2.new.words.items) (omega (arith, c.loop-i-test.false)) c.in_ok-push_word-3.ensures c.loop-i.invariant.cut
