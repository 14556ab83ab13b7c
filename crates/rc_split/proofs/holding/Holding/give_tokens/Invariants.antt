use Rattle.std.proofs.Common.{◌≡◌, ◌+◌, take}
use Rattle.rc_split.specs.Bags as bags
use Rattle.rc_split.specs.Holdings as spec
use Rattle.rc_split.proofs.holding.Holding.give_tokens.Given as goal

-- what was held, and what was given so far, are what is held
abbrev pub invariant-loop-user_data : goal.invariant-loop-user_data
invariant-loop-user_data l = record {
  of : l.self.program ≡ l.initial.self.program;
  each : (p : bags.Part) → spec.bag l.self p ≡ spec.bag l.initial.self p + bags.bag_of (bags.tokens_alone (take l.user_data-index l.tokens)) p;
}
