use Rattle.std.proofs.Common.{◌≡◌, ℕ, ◌<◌, ◌≤◌, get_or}
use Rattle.std.specs.Prelude.{bit_and}
use Rattle.rc_split.proofs.rows.least_marks.Given as goal

abbrev pub invariant-loop-word : goal.invariant-loop-word
invariant-loop-word l = record {
  done : (k : ℕ) → k < l.word → get_or l.mine k 0 ≡ bit_and (get_or l.initial.mine k 0) (get_or l.theirs k 0);
  rest : (k : ℕ) → l.word ≤ k → get_or l.mine k 0 ≡ get_or l.initial.mine k 0;
}
