use Rattle.rc_world.proofs.LawLeast.{least}
use Rattle.rc_world.proofs.laws.faults_are_least.Goals as goal

pub returns : goal.returns
returns c = least
