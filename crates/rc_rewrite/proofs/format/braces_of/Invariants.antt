use Rattle.std.proofs.Common.{length}
use Rattle.rc_rewrite.proofs.format.braces_of.Given as goal

abbrev pub decreases-loop-word : goal.decreases-loop-word
decreases-loop-word l = length l.rest
