use Rattle.rc_verify.proofs.Best.{read_off}
use Rattle.rc_verify.proofs.laws.refusals_are_read_off.Goals as goal

pub returns : goal.returns
returns c = read_off
