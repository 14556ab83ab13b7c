use Rattle.std.proofs.Common.{◌≡◌, ◌+◌, ◌*◌, ◌<◌, ◌≤◌, ◌^◌, length, take}
use Rattle.std.specs.Prelude.{slice_index, sum_by}
use Rattle.rc_split.specs.Pools.{Pool}
use Rattle.rc_split.proofs.pools.Pools.shares_of.Given as goal

-- what is in the pools so far
abbrev pub invariant-loop-pool : goal.invariant-loop-pool
invariant-loop-pool l = record {
  sum : l.sum ≡ slice_index l.self.unnamed.shares l.buffer + sum_by (λ (p : Pool). slice_index p.shares l.buffer) (take l.pool-index l.self.named);
  few : l.sum < (l.pool-index + 1) * 2 ^ 32;
  many : length l.self.named ≤ 16;
}
