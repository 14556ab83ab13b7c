use Rattle.std.proofs.Common.{◌≡◌, drop}
use Rattle.rc_read.specs.Spots as spec
use Rattle.rc_read.specs.Texts.{texts_of}
use Rattle.rc_read.proofs.spots.first_row.Given as goal

abbrev pub invariant-loop-row : goal.invariant-loop-row
invariant-loop-row l = spec.first_row (drop l.row-index l.rows) (texts_of l.words) ≡ spec.first_row l.rows (texts_of l.words)
