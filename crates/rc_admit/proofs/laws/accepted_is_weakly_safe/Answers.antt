use Rattle.rc_admit.proofs.Safe.{accepted_is_weakly_safe}
use Rattle.rc_admit.proofs.laws.accepted_is_weakly_safe.Goals as goal

pub returns : goal.returns
returns c = accepted_is_weakly_safe
