use Rattle.std.proofs.Common.{◌≡◌, drop}
use Rattle.rc_read.specs.Words.{words_of}
use Rattle.rc_read.proofs.source.blanks_in_front.Given as goal

abbrev pub invariant-loop-count : goal.invariant-loop-count
invariant-loop-count l = words_of l.line ≡ words_of (drop l.count l.line)
