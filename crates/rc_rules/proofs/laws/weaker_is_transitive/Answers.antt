use Rattle.rc_rules.proofs.Weaker.{weaker_trans}
use Rattle.rc_rules.proofs.laws.weaker_is_transitive.Goals as goal

pub returns : goal.returns
returns c = weaker_trans
