use Rattle.std.proofs.Common.{length}
use Rattle.rc_rewrite.proofs.Lines.{GoesOn}
use Rattle.rc_rewrite.proofs.refill.refilled.Given as goal

abbrev pub invariant-loop-line : goal.invariant-loop-line
invariant-loop-line l = GoesOn l.source l.rest l.text.items

abbrev pub decreases-loop-line : goal.decreases-loop-line
decreases-loop-line l = length l.rest
