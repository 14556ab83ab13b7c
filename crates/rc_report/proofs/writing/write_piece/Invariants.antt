use Rattle.std.proofs.Common.{length, ◌-◌, ◌≤◌, take}
use Rattle.rc_report.specs.Streams.{Wrote}
use Rattle.rc_report.proofs.writing.write_piece.Given as goal

abbrev pub invariant-loop-at : goal.invariant-loop-at
invariant-loop-at g l = record {
  written : Wrote (g.W.Sink.state l.initial.writer) (g.W.Sink.state l.writer) (take l.at l.piece);
  within : l.at ≤ length l.piece;
}

abbrev pub decreases-loop-at : goal.decreases-loop-at
decreases-loop-at g l = length l.piece - l.at
