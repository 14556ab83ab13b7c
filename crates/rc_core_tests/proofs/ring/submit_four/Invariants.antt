use Rattle.std.proofs.Common.{◌≡◌}
use Rattle.rc_ring.specs.Rings.{NoSlot}
use Rattle.rc_core_tests.proofs.ring.submit_four.Given as goal

-- no slot is open
abbrev pub invariant-loop-user_data : goal.invariant-loop-user_data
invariant-loop-user_data g l = l.ring.slot ≡ NoSlot
