use Rattle.std.proofs.Common.{take, get_or}
use Rattle.rc_split.specs.declared.part.Part.TheVariants.{Token}
use Rattle.rc_split.specs.Bags.{bag_of, tokens_alone}
use Rattle.rc_split.specs.Holdings.{bag}
use Rattle.rc_split.proofs.Turns.{refused, tokens_more_le}
use Rattle.rc_split.proofs.holding.Holding.take_tokens.Goals as goal

pub returns-then-is_none : goal.returns-then-is_none
returns-then-is_none c =
    let xs = c.args.tokens.now in
    let i = c.loop-user_data.user_data-index in
    refused (Token (get_or xs i 0)) c.loop-user_data.self c.take_token.new.self (bag_of (tokens_alone (take i xs))) (bag c.args.self.now) (bag_of (tokens_alone xs)) c.take_token.result c.loop-user_data.invariant.each c.take_token.ensures c.is_none.ensures c.if-is_none.true (λ p. tokens_more_le xs i p c.loop-user_data-test.true)
