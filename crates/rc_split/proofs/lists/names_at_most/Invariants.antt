use Rattle.std.proofs.Common.{◌≡◌, ◌+◌, take}
use Rattle.rc_split.specs.Bags.{ShareOf, bag_of, shares_alone}
use Rattle.rc_split.proofs.lists.names_at_most.Given as goal

-- what is left, and what was named so far
abbrev pub invariant-loop-share : goal.invariant-loop-share
invariant-loop-share l = l.left + bag_of (shares_alone (take l.share-index l.shares)) (ShareOf l.buffer) ≡ l.most
