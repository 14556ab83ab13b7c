use Rattle.std.proofs.Common.{subst, sym, All}
use Rattle.rc_lang.specs.Resolved.{DeclaresToken}
use Rattle.rc_split.proofs.holding.Holding.give_parts.Goals as goal

pub give_tokens-requires-clause-names : goal.give_tokens-requires-clause-names
give_tokens-requires-clause-names c = subst (λ P. All (DeclaresToken P) c.args.tokens.now) (sym c.give_shares.ensures.of) c.requires.names.tokens
