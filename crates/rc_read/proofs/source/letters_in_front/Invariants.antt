use Rattle.std.proofs.Common.{◌≡◌, take, drop}
use Rattle.rc_read.specs.Words.{without_comment, words_after, words_of}
use Rattle.rc_read.proofs.source.letters_in_front.Given as goal

abbrev pub invariant-loop-count : goal.invariant-loop-count
invariant-loop-count l = words_after (take l.count l.line) (without_comment (drop l.count l.line)) ≡ words_of l.line
