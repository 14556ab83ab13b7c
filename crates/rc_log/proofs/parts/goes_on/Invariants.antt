use Rattle.std.proofs.Common.{◌≡◌, drop}
use Rattle.rc_log.specs.Said.{goes_on}
use Rattle.rc_log.proofs.parts.goes_on.Given as goal

abbrev pub invariant-loop-i : goal.invariant-loop-i
invariant-loop-i l = goes_on (drop l.i l.bytes) ≡ goes_on l.bytes
