use Rattle.std.proofs.Common.{subst, sym, get_or}
use Rattle.rc_lang.specs.Resolved.{DeclaresToken}
use Rattle.rc_split.specs.Holdings.{bag}
use Rattle.rc_split.proofs.Held.{not_yet}
use Rattle.rc_split.proofs.holding.Holding.give_tokens.Goals as goal

pub give-requires-clause-declared : goal.give-requires-clause-declared
give-requires-clause-declared c = subst (λ P. DeclaresToken P (get_or c.args.tokens.now c.loop-user_data.user_data-index 0)) (sym c.loop-user_data.invariant.of) (c.requires.names c.loop-user_data.user_data-index 0 c.loop-user_data-test.true)

pub give-requires-clause-fresh : goal.give-requires-clause-fresh
give-requires-clause-fresh c = not_yet c.args.tokens.now c.loop-user_data.user_data-index (bag c.args.self.now) (bag c.loop-user_data.self) c.loop-user_data-test.true c.loop-user_data.invariant.each c.requires.once
