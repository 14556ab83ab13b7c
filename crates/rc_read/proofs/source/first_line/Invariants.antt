use Rattle.std.proofs.Common.{◌≡◌, take, drop}
use Rattle.rc_read.specs.Words.{text_lines}
use Rattle.rc_read.proofs.TextWords.{in_front}
use Rattle.rc_read.proofs.source.first_line.Given as goal

abbrev pub invariant-loop-i : goal.invariant-loop-i
invariant-loop-i l = text_lines l.text ≡ in_front (take l.i l.text) (text_lines (drop l.i l.text))
