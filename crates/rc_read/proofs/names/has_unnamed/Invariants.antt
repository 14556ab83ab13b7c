use Rattle.std.proofs.Common.{◌≡◌, drop, map}
use Rattle.rc_lang.specs.Parts.{view_stock}
use Rattle.rc_read.specs.Sheets as spec
use Rattle.rc_read.proofs.names.has_unnamed.Given as goal

abbrev pub invariant-loop-line : goal.invariant-loop-line
invariant-loop-line l = spec.has_unnamed (map view_stock (drop l.line-index l.stock)) ≡ spec.has_unnamed (map view_stock l.stock)
