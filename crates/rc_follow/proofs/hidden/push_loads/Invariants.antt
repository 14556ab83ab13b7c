use Rattle.rc_follow.specs.Follower.{Adds}
use Rattle.rc_follow.specs.Ways.{Leads}
use Rattle.rc_follow.proofs.hidden.push_loads.Given as goal

abbrev pub invariant-loop-byte : goal.invariant-loop-byte
invariant-loop-byte l = Adds (Leads l.fn.ground.noted.now l.fn.node) l.fn.fresh.items l.fresh.items
