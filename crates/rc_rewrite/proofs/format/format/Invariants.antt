use Rattle.std.proofs.Common.{length}
use Rattle.rc_rewrite.proofs.LaidOut.{GoesOn}
use Rattle.rc_rewrite.proofs.format.format.Given as goal

abbrev pub invariant-loop-line : goal.invariant-loop-line
invariant-loop-line l = GoesOn l.text l.rest l.laid.items

abbrev pub decreases-loop-line : goal.decreases-loop-line
decreases-loop-line l = length l.rest
