use Rattle.std.proofs.Common.{◌∷◌, drop, sym, ap, ◌∙◌}
use Rattle.std.proofs.lemmas.List.{drop-drop}
use Rattle.rc_log.specs.Cuts.{words_after}
use Rattle.rc_log.specs.Said.{words_of}
use Rattle.rc_log.proofs.Blanks.{no_word_here, word_here}
use Rattle.rc_log.proofs.words.word_at.Goals as goal

pub returns-in-None : goal.returns-in-None
returns-in-None c =
    let ends = ap (λ ws. c.loop.word.now ∷ ws) (sym c.in-None.ensures) ∙ c.loop.invariant in
    no_word_here (words_of c.args.line.now) c.loop.counter c.args.number c.loop.word.now ends c.loop-test.true

pub loop-preserved : goal.loop-preserved
loop-preserved c =
    sym c.in-Some.ensures ∙ ap (λ ws. drop 1 ws) c.loop.invariant ∙ drop-drop 1 c.loop.counter (words_of c.args.line.now)
