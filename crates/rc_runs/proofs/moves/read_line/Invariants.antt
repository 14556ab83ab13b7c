use Rattle.std.proofs.Common.{◌≡◌, length, drop}
use Rattle.std.specs.List.{slice_split}
use Rattle.rc_runs.specs.Moves.{is_separator, uncommented}
use Rattle.rc_runs.proofs.Reading.{read_some}
use Rattle.rc_runs.proofs.moves.read_line.Given as goal

abbrev pub invariant-loop-piece : goal.invariant-loop-piece
invariant-loop-piece l =
    read_some l.program l.read.items (drop (length l.yielded) (slice_split is_separator (uncommented l.line)))
    ≡ read_some l.program l.fn.read.items (slice_split is_separator (uncommented l.line))
