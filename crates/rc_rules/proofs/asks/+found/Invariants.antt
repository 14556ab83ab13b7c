use Rattle.std.proofs.Common.{length}
use Rattle.rc_rules.proofs.asks.+found.Given as goal

abbrev pub decreases-found : goal.decreases-found
decreases-found l = length l.needs.now
