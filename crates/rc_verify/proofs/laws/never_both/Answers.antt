use Rattle.rc_verify.proofs.Refusals.{never_both}
use Rattle.rc_verify.proofs.laws.never_both.Goals as goal

pub returns : goal.returns
returns c = never_both
