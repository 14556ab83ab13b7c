use Rattle.std.proofs.Common.{◌≡◌, ◌++◌, length, map}
use Rattle.rc_read.specs.Words.{text_lines}
use Rattle.rc_read.proofs.source.Lines.of.Given as goal

abbrev pub invariant-loop-rest : goal.invariant-loop-rest
invariant-loop-rest l = text_lines l.text ≡ map (λ line. line.now) l.lines.items ++ text_lines l.rest

abbrev pub decreases-loop-rest : goal.decreases-loop-rest
decreases-loop-rest l = length l.rest
