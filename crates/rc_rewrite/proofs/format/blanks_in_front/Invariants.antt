use Rattle.std.proofs.Common.{◌≡◌, true, take}
use Rattle.rc_rewrite.specs.LaidOut.{are_blanks}
use Rattle.rc_rewrite.proofs.format.blanks_in_front.Given as goal

abbrev pub invariant-loop-count : goal.invariant-loop-count
invariant-loop-count l = are_blanks (take l.count l.bytes) ≡ true
