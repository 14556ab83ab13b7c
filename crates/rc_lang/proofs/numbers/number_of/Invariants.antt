use Rattle.std.proofs.Common.{◌≡◌, true, drop}
use Rattle.std.specs.List.{list_all}
use Rattle.rc_lang.specs.Numbers as spec
use Rattle.rc_lang.proofs.numbers.number_of.Given as goal

abbrev pub invariant-loop-b : goal.invariant-loop-b
invariant-loop-b l = (spec.value_behind l.n (drop l.b-index l.word) ≡ spec.value_of l.word) × (list_all spec.is_digit (drop l.b-index l.word) ≡ true)
