use Rattle.std.proofs.Common.{subst}
use Rattle.rc_rules.specs.States.{IsLine}
use Rattle.rc_rules.proofs.ops.give_line.Goals as goal

pub give_shares-requires-clause-declared : goal.give_shares-requires-clause-declared
give_shares-requires-clause-declared c = subst (IsLine c.args.holding.now.program) c.in-Some.is c.requires.declared
