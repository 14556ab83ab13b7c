use Rattle.std.proofs.Common.{◌≡◌, ◌+◌, take}
use Rattle.rc_split.specs.Bags as bags
use Rattle.rc_split.specs.Holdings as spec
use Rattle.rc_split.proofs.holding.Holding.take_tokens.Given as goal

-- what is left, and what was taken so far, are what was held
abbrev pub invariant-loop-user_data : goal.invariant-loop-user_data
invariant-loop-user_data l = record {
  of : l.self.program ≡ l.initial.self.program;
  each : (p : bags.Part) → spec.bag l.self p + bags.bag_of (bags.tokens_alone (take l.user_data-index l.tokens)) p ≡ spec.bag l.initial.self p;
}
