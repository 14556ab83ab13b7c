use Rattle.std.proofs.Common.{None, refl}
use Rattle.rc_runs.specs.Repeats.{is_there}
use Rattle.rc_runs.proofs.Repeats.{once_is}
use Rattle.rc_runs.proofs.spelling.spell_move.Goals as goal

pub returns-in-One-clause-items : goal.returns-in-One-clause-items
returns-in-One-clause-items c = rw c.in-One.is (rw (once_is (is_there None) c.in-One.item c.args.world.now refl) at c.repeat.ensures.items)

pub returns-in-One-clause-world : goal.returns-in-One-clause-world
returns-in-One-clause-world c = rw c.in-One.is (rw (once_is (is_there None) c.in-One.item c.args.world.now refl) at c.repeat.ensures.world)
