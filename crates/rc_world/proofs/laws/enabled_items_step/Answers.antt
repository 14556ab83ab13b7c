use Rattle.rc_world.proofs.LawTraces.{enabled_steps}
use Rattle.rc_world.proofs.laws.enabled_items_step.Goals as goal

pub returns : goal.returns
returns c = enabled_steps
