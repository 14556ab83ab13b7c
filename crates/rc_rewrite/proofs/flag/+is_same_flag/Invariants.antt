use Rattle.std.proofs.Common.{length}
use Rattle.rc_rewrite.proofs.flag.+is_same_flag.Given as goal

abbrev pub decreases-is_same_flag : goal.decreases-is_same_flag
decreases-is_same_flag l = length l.items.now
