use Rattle.rc_split.proofs.Turns.{all_taken}
use Rattle.rc_split.proofs.holding.Holding.take_parts.Goals as goal

pub returns : goal.returns
returns c = all_taken c.args.shares.now c.args.tokens.now c.args.credits c.args.self.now c.take_shares.new.self c.take_tokens.new.self c.take.new.self c.take_shares.result c.take_tokens.result c.is_some.result c.take.result c.take_shares.ensures c.if-not-take_shares.false c.take_tokens.ensures c.if-not-take_tokens.false c.take.ensures c.is_some.ensures
