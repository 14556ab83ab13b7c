use Rattle.std.proofs.Common.{◌≡◌, drop}
use Rattle.rc_read.specs.Values as spec
use Rattle.rc_read.proofs.lists.flag_in.Given as goal

abbrev pub invariant-loop-item : goal.invariant-loop-item
invariant-loop-item l = spec.flag_in (drop l.item-index l.items) ≡ spec.flag_in l.items
