use Rattle.std.proofs.Common.{◌≡◌, ◌+◌, ◌*◌, ◌<◌, ◌≤◌, ◌^◌, length, take}
use Rattle.std.specs.Prelude.{sum_by}
use Rattle.rc_split.specs.Bags.{TokenOf}
use Rattle.rc_split.specs.Pools.{Pool, pooled}
use Rattle.rc_split.proofs.pools.Pools.tokens_of.Given as goal

-- what is in the pools so far
abbrev pub invariant-loop-pool : goal.invariant-loop-pool
invariant-loop-pool l = record {
  sum : l.sum ≡ pooled l.program l.self.unnamed (TokenOf l.user_data) + sum_by (λ (p : Pool). pooled l.program p (TokenOf l.user_data)) (take l.pool-index l.self.named);
  few : l.sum < (l.pool-index + 1) * 2 ^ 32;
  many : length l.self.named ≤ 16;
}
