use Rattle.rc_rules.proofs.Weaker.{weaker_refl}
use Rattle.rc_rules.proofs.laws.weaker_is_reflexive.Goals as goal

pub returns : goal.returns
returns c = weaker_refl
