use Rattle.rc_rules.proofs.Growth.{rules_grow}
use Rattle.rc_rules.proofs.laws.rules_grow.Goals as goal

pub returns : goal.returns
returns c = rules_grow
