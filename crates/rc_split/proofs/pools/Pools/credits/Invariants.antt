use Rattle.std.proofs.Common.{◌≡◌, ◌+◌, ◌*◌, ◌<◌, ◌≤◌, ◌^◌, length, take}
use Rattle.std.specs.Prelude.{sum_by}
use Rattle.rc_split.specs.Pools.{Pool}
use Rattle.rc_split.proofs.pools.Pools.credits.Given as goal

-- what is in the pools so far
abbrev pub invariant-loop-pool : goal.invariant-loop-pool
invariant-loop-pool l = record {
  sum : l.sum ≡ l.self.unnamed.credits + sum_by (λ (p : Pool). p.credits) (take l.pool-index l.self.named);
  few : l.sum < (l.pool-index + 1) * 2 ^ 32;
  many : length l.self.named ≤ 16;
}
