use Rattle.std.proofs.Common.{◌≡◌, drop}
use Rattle.rc_read.specs.Sentences as spec
use Rattle.rc_read.proofs.lists.any_twice.Given as goal

abbrev pub invariant-loop-i : goal.invariant-loop-i
invariant-loop-i l = spec.any_twice (drop l.i l.items) ≡ spec.any_twice l.items
