use Rattle.std.proofs.Common.{◌≡◌, false, take}
use Rattle.rc_rewrite.specs.Keeps.{has_byte}
use Rattle.rc_rewrite.proofs.parted.cut_at.Given as goal

abbrev pub invariant-loop-i : goal.invariant-loop-i
invariant-loop-i l = has_byte l.byte (take l.i l.bytes) ≡ false
