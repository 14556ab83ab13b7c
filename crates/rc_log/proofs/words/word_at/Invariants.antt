use Rattle.std.proofs.Common.{◌≡◌, ◌∷◌, drop}
use Rattle.rc_log.specs.Cuts.{words_after}
use Rattle.rc_log.specs.Said.{words_of}
use Rattle.rc_log.proofs.words.word_at.Given as goal

abbrev pub invariant-loop : goal.invariant-loop
invariant-loop l = l.word ∷ words_after l.rest ≡ drop l.counter (words_of l.line)
