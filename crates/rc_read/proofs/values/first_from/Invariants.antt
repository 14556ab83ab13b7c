use Rattle.std.proofs.Common.{◌≡◌, drop}
use Rattle.rc_read.specs.Values as spec
use Rattle.rc_read.proofs.values.first_from.Given as goal

abbrev pub invariant-loop-power : goal.invariant-loop-power
invariant-loop-power l = spec.first_from l.n (drop l.power-index l.powers) ≡ spec.first_from l.n l.powers
