use Rattle.std.proofs.Common.{◌≡◌, ℕ, ◌<◌, ◌≤◌, min, get_or}
use Rattle.rc_split.proofs.rows.least_counts.Given as goal

abbrev pub invariant-loop-place : goal.invariant-loop-place
invariant-loop-place l = record {
  done : (k : ℕ) → k < l.place → get_or l.mine k 0 ≡ min (get_or l.initial.mine k 0) (get_or l.theirs k 0);
  rest : (k : ℕ) → l.place ≤ k → get_or l.mine k 0 ≡ get_or l.initial.mine k 0;
}
