use Rattle.std.proofs.Common.{◌≡◌, ℕ, ◌<◌, length, slice_get}
use Rattle.rc_runs.proofs.stuck.same.are_same_requests.Given as goal

abbrev pub invariant-loop-place : goal.invariant-loop-place
invariant-loop-place l = record {
  many : length l.a ≡ length l.b;
  same : (k : ℕ) → k < l.place → slice_get l.a k ≡ slice_get l.b k;
}
