use Rattle.std.proofs.Common.{◌≡◌, ◌≤◌, true, drop, length}
use Rattle.rc_rewrite.specs.LaidOut.{are_blanks}
use Rattle.rc_rewrite.proofs.format.end_of.Given as goal

abbrev pub invariant-loop-end : goal.invariant-loop-end
invariant-loop-end l = record { within : l.end ≤ length l.bytes; blank : are_blanks (drop l.end l.bytes) ≡ true }

abbrev pub decreases-loop-end : goal.decreases-loop-end
decreases-loop-end l = l.end
