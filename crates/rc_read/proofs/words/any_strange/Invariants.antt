use Rattle.std.proofs.Common.{◌≡◌, ◌||◌, drop}
use Rattle.rc_read.specs.Sentences as spec
use Rattle.rc_read.proofs.words.any_strange.Given as goal

abbrev pub invariant-loop-b : goal.invariant-loop-b
invariant-loop-b l = (l.any || spec.any_strange (drop l.b-index l.bytes)) ≡ spec.any_strange l.bytes
