use Rattle.std.proofs.Common.{◌≡◌, ◌++◌, length}
use Rattle.rc_read.specs.Words.{words_of}
use Rattle.rc_read.specs.Source.{behind_blanks}
use Rattle.rc_read.proofs.source.put_after_blanks.Given as goal

abbrev pub invariant-loop-word : goal.invariant-loop-word
invariant-loop-word l = l.initial.text.items ++ behind_blanks (words_of l.line) ≡ l.text.items ++ behind_blanks (words_of l.rest)

abbrev pub decreases-loop-word : goal.decreases-loop-word
decreases-loop-word l = length l.rest
