use Rattle.std.proofs.Common.{◌≡◌}
use Rattle.rc_follow.specs.Follower.{reached_below}
use Rattle.rc_follow.proofs.follower.reach.Given as goal

abbrev pub invariant-loop-number : goal.invariant-loop-number
invariant-loop-number l = l.reached.items ≡ reached_below l.number l.fn.reached.items l.fn.ways
