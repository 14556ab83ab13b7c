use Rattle.std.proofs.Common.{take, get_or}
use Rattle.rc_lang.specs.declared.program.Share.{Share}
use Rattle.rc_split.specs.declared.part.Part.TheVariants.{Shares}
use Rattle.rc_split.specs.Bags.{bag_of, shares_alone}
use Rattle.rc_split.specs.Holdings.{bag}
use Rattle.rc_split.proofs.Turns.{refused, shares_more_le}
use Rattle.rc_split.proofs.holding.Holding.take_shares.Goals as goal

pub returns-then-is_none : goal.returns-then-is_none
returns-then-is_none c =
    let xs = c.args.shares.now in
    let i = c.loop-share.share-index in
    let d : Share = record { buffer = 0; count = 0 } in
    let share = get_or xs i d in
    refused (Shares share.buffer share.count) c.loop-share.self c.take.new.self (bag_of (shares_alone (take i xs))) (bag c.args.self.now) (bag_of (shares_alone xs)) c.take.result c.loop-share.invariant.each c.take.ensures c.is_none.ensures c.if-is_none.true (λ p. shares_more_le xs i d p c.loop-share-test.true)
