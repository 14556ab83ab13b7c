use Rattle.std.proofs.Common.{◌≡◌, drop}
use Rattle.rc_split.specs.Pools.{with_marks}
use Rattle.rc_split.proofs.pool.Pool.mark_all.Given as goal

-- what is to come of the tokens that are left
abbrev pub invariant-loop-token : goal.invariant-loop-token
invariant-loop-token l = record {
  marks : with_marks l.program l.is l.self.marks (drop l.token-index l.tokens) ≡ with_marks l.program l.is l.initial.self.marks l.tokens;
  shares : l.self.shares ≡ l.initial.self.shares;
  credits : l.self.credits ≡ l.initial.self.credits;
}
