use Rattle.std.proofs.Common.{◌≡◌, drop, slice_get}
use Rattle.rc_read.specs.Values as spec
use Rattle.rc_read.proofs.says.kind_at.Given as goal

abbrev pub invariant-loop-value : goal.invariant-loop-value
invariant-loop-value l = slice_get (spec.kinds_named (drop l.value-index l.values)) l.left ≡ slice_get (spec.kinds_named l.values) l.number
