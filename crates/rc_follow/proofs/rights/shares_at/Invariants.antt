use Rattle.std.proofs.Common.{◌≡◌}
use Rattle.std.specs.Prelude.{Some, slice_get}
use Rattle.rc_follow.proofs.rights.shares_at.Given as goal

abbrev pub invariant-loop-step : goal.invariant-loop-step
invariant-loop-step l = record {
  program : l.labels.program ≡ l.fn.program;
  number : l.labels.number ≡ l.fn.spot.thread;
  thread : slice_get l.fn.program.threads l.fn.spot.thread ≡ Some l.labels.thread;
  place : l.labels.place ≡ l._step;
}
