-- What `Indices` keeps of its counters. No public clause names it.
use Rattle.std.specs.Prelude.{ℕ, ◌^◌, ◌<◌, ◌≤◌}
use Rattle.std.specs.Int.{IsPowerOfTwo}
use Rattle.rc_index.specs.RingList.{counters_between}

-- a power of two of entries, two counters of 32 bits, and at most as many items as entries
pub record AreCounters (n head tail : ℕ) : Type 0 where
  pub power : IsPowerOfTwo n
  pub small : n ≤ 2048
  pub head_fits : head < 2 ^ 32
  pub tail_fits : tail < 2 ^ 32
  pub room : counters_between head tail ≤ n
