use Rattle.std.proofs.Common.{length}
use Rattle.rc_rules.proofs.kinds.+least.Given as goal

abbrev pub decreases-least : goal.decreases-least
decreases-least l = length l.kinds.now
