use Rattle.rc_world.proofs.LawWaits.{none_deadlocked}
use Rattle.rc_world.proofs.laws.no_deadlock.Goals as goal

pub returns : goal.returns
returns c = none_deadlocked
