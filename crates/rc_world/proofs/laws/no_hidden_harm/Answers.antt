use Rattle.rc_world.proofs.LawGoes.{no_harm_hides}
use Rattle.rc_world.proofs.laws.no_hidden_harm.Goals as goal

pub returns : goal.returns
returns c = no_harm_hides
