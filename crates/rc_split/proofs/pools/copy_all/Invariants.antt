use Rattle.std.proofs.Common.{◌≡◌, ℕ, ◌<◌, length, get_or}
use Rattle.rc_split.specs.Pools.{no_pool}
use Rattle.rc_split.proofs.pools.copy_all.Given as goal

-- as many pools as there are others, and those so far are the same
abbrev pub invariant-loop-place : goal.invariant-loop-place
invariant-loop-place l = record {
  many : length l.pools.items ≡ length l.others;
  done : (k : ℕ) → k < l.place → get_or l.pools.items k no_pool ≡ get_or l.others k no_pool;
}
