use Rattle.std.proofs.Common.{◌≡◌, drop}
use Rattle.rc_split.specs.Pools.{fewer_shares}
use Rattle.rc_split.proofs.pool.Pool.lessen_shares.Given as goal

-- what is to come of the shares that are left
abbrev pub invariant-loop-share : goal.invariant-loop-share
invariant-loop-share l = record {
  shares : fewer_shares l.self-inside.shares.items (drop l.share-index l.shares) ≡ fewer_shares l.initial.self-inside.shares.items l.shares;
  marks : l.self-inside.marks ≡ l.initial.self-inside.marks;
  credits : l.self-inside.credits ≡ l.initial.self-inside.credits;
}
