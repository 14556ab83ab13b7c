use Rattle.std.proofs.Common.{sym, ◌∙◌}
use Rattle.rc_world.proofs.LawFaultless.{no_harm_in}
use Rattle.rc_world.proofs.world.World.apply.Goals as goal

pub make-requires-clause-harmless : goal.make-requires-clause-harmless
make-requires-clause-harmless c = no_harm_in c.args.self.now (sym c.fault.ensures ∙ c.in_default.is) c.args.item.now
