use Rattle.std.proofs.Common.{ℕ, ◌<◌}
use Rattle.rc_run.specs.Lives.{IsPendingAt}
use Rattle.rc_run.proofs.live.pending_place.Given as goal

abbrev pub invariant-loop-k : goal.invariant-loop-k
invariant-loop-k l = (j : ℕ) → j < l.k → IsPendingAt l.pending l.request j → ⊥
