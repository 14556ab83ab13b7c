use Rattle.rc_world.proofs.LawTraces.{traces_run}
use Rattle.rc_world.proofs.laws.traces_are_runs.Goals as goal

pub returns : goal.returns
returns c = traces_run
