use Rattle.std.proofs.Common.{sym}
use Rattle.std.proofs.lemmas.Bool.{OnFalse_at}
use Rattle.rc_world.proofs.world.World.fault.Goals as goal

pub returns-else-has_harm : goal.returns-else-has_harm
returns-else-has_harm c = sym (OnFalse_at c.if-has_harm.false c.has_harm.ensures)
