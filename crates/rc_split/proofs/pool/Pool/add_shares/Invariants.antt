use Rattle.std.proofs.Common.{◌≡◌, ℕ, ◌+◌, ◌<◌, ◌^◌, ◌⊎◌, drop, slice_index}
use Rattle.rc_split.specs.Pools.{more_shares}
use Rattle.rc_split.proofs.PoolBags.{shares_in}
use Rattle.rc_split.proofs.pool.Pool.add_shares.Given as goal

-- what is to come of the shares that are left, for which there is room
abbrev pub invariant-loop-share : goal.invariant-loop-share
invariant-loop-share l = record {
  shares : more_shares l.self-inside.shares.items (drop l.share-index l.shares) ≡ more_shares l.initial.self-inside.shares.items l.shares;
  small : (b : ℕ) → (shares_in (drop l.share-index l.shares) b ≡ 0) ⊎ (slice_index l.self-inside.shares.items b + shares_in (drop l.share-index l.shares) b < 2 ^ 32);
  marks : l.self-inside.marks ≡ l.initial.self-inside.marks;
  credits : l.self-inside.credits ≡ l.initial.self-inside.credits;
}
