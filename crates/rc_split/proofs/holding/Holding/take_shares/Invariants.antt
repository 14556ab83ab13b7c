use Rattle.std.proofs.Common.{◌≡◌, ◌+◌, take}
use Rattle.rc_split.specs.Bags as bags
use Rattle.rc_split.specs.Holdings as spec
use Rattle.rc_split.proofs.holding.Holding.take_shares.Given as goal

-- what is left, and what was taken so far, are what was held
abbrev pub invariant-loop-share : goal.invariant-loop-share
invariant-loop-share l = record {
  of : l.self.program ≡ l.initial.self.program;
  each : (p : bags.Part) → spec.bag l.self p + bags.bag_of (bags.shares_alone (take l.share-index l.shares)) p ≡ spec.bag l.initial.self p;
}
