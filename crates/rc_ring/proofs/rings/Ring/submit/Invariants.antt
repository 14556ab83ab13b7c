use Rattle.std.proofs.Common.{◌≡◌}
use Rattle.rc_ring.specs.Rings.{SubmitCall, after_call}
use Rattle.rc_ring.proofs.rings.Ring.submit.Given as goal

-- the queue without as many of its first entries
abbrev pub invariant-loop : goal.invariant-loop
invariant-loop l = l.self ≡ after_call (SubmitCall l.counter) l.initial.self
