use Rattle.std.proofs.Common.{refl}
use Rattle.rc_core_tests.proofs.ring.counters_that_wrap_answer_the_same.Goals as goal

-- 4 is 2 to the second
pub opened_at-requires-clause-power : goal.opened_at-requires-clause-power
opened_at-requires-clause-power g c = (2, refl)
