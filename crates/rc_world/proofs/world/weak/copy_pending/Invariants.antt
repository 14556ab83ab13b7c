use Rattle.std.proofs.Common.{◌≡◌, take}
use Rattle.rc_world.proofs.world.weak.copy_pending.Given as goal

abbrev pub invariant-loop-request : goal.invariant-loop-request
invariant-loop-request l = l.copies.items ≡ take l.request-index l.pending
