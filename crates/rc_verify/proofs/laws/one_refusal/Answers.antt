use Rattle.rc_verify.proofs.Refusals.{one_refusal}
use Rattle.rc_verify.proofs.laws.one_refusal.Goals as goal

pub returns : goal.returns
returns c = one_refusal
