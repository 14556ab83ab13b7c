use Rattle.std.proofs.Common.{arith}
use Rattle.rc_rules.proofs.Lines.{got_few, one_credit}
use Rattle.rc_rules.specs.declared.mode.Peeked.TheVariants.{Sees}
use Rattle.rc_rules.proofs.ops.reap_request.Goals as goal

pub give-requires-clause-small : goal.give-requires-clause-small
give-requires-clause-small c = λ p. omega (arith, c.give_request.ensures.gained.each p, c.requires.small p, got_few c.args.holding.now.program (Sees c.args.user_data) p c.give_request.ensures.made, one_credit p)
