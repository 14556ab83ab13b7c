use Rattle.std.proofs.Common.{◌≡◌, drop, filter_map}
use Rattle.rc_read.specs.Sentences as spec
use Rattle.rc_read.proofs.kinds.any_kind_twice.Given as goal

abbrev pub invariant-loop-i : goal.invariant-loop-i
invariant-loop-i l = spec.any_kind_twice (filter_map (λ other. other) (drop l.i l.others)) ≡ spec.any_kind_twice (filter_map (λ other. other) l.others)
