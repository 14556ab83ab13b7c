use Rattle.rc_verify.proofs.Best.{one_is_strongest}
use Rattle.rc_verify.proofs.laws.one_is_strongest.Goals as goal

pub returns : goal.returns
returns c = one_is_strongest
