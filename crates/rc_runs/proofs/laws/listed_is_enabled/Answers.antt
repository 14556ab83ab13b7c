use Rattle.rc_runs.proofs.Listed.{listed_is_enabled}
use Rattle.rc_runs.proofs.laws.listed_is_enabled.Goals as goal

pub returns : goal.returns
returns c = listed_is_enabled
