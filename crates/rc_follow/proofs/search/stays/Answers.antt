use Rattle.std.proofs.Common.{refl}
use Rattle.rc_follow.proofs.search.stays.Goals as goal

pub returns-in_ok-is-in-Reads-clause-asks : goal.returns-in_ok-is-in-Reads-clause-asks
returns-in_ok-is-in-Reads-clause-asks c h = c.in_ok-is-in-Reads.ensures.right h c.args.ground.noted.now

pub returns-in_default : goal.returns-in_default
returns-in_default c = record { same = refl; asks = λ h. c.asks.ensures h c.args.rights.now }
