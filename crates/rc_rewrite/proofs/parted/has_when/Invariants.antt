use Rattle.std.proofs.Common.{length}
use Rattle.rc_rewrite.proofs.parted.has_when.Given as goal

abbrev pub decreases-loop-word : goal.decreases-loop-word
decreases-loop-word l = length l.rest
