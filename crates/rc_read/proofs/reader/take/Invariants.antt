use Rattle.std.proofs.Common.{◌≤◌, ◌-◌, take, length}
use Rattle.rc_read.specs.Pieces.{ReadsMore}
use Rattle.rc_read.specs.Stream.{IsReached}
use Rattle.rc_read.specs.View.{view_sheet}
use Rattle.rc_read.proofs.Streams.{ok}
use Rattle.rc_read.proofs.reader.take.Given as goal

abbrev pub invariant-loop-i : goal.invariant-loop-i
invariant-loop-i l = record {
  within : l.at ≤ length l.piece;
  reads : ReadsMore (view_sheet l.initial.parts) l.initial.pending.items (take l.at l.piece) (view_sheet l.parts) l.pending.items ok;
  reached : IsReached (view_sheet l.initial.parts) → IsReached (view_sheet l.parts);
}

abbrev pub decreases-loop-i : goal.decreases-loop-i
decreases-loop-i l = length l.piece - l.at
