use Rattle.std.proofs.Common.{length}
use Rattle.rc_rewrite.proofs.around.Around.put_items.Given as goal

abbrev pub decreases-loop-item : goal.decreases-loop-item
decreases-loop-item l = length l.rest
