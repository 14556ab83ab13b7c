use Rattle.std.proofs.Common.{sym, ◌∙◌}
use Rattle.rc_world.proofs.Harmless.{does_no_harm}
use Rattle.rc_world.proofs.world.World.advance.Goals as goal

pub make-requires-clause-harmless : goal.make-requires-clause-harmless
make-requires-clause-harmless c = does_no_harm c.args.self.now c.args.item.now (sym c.does_harm.ensures ∙ c.if-does_harm.false)
