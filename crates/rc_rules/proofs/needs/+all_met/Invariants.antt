use Rattle.std.proofs.Common.{length}
use Rattle.rc_rules.proofs.needs.+all_met.Given as goal

abbrev pub decreases-all_met : goal.decreases-all_met
decreases-all_met l = length l.needs.now
