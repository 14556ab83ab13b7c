use Rattle.std.proofs.Common.{◌≡◌, take}
use Rattle.rc_world.proofs.world.weak.copy_buffers.Given as goal

abbrev pub invariant-loop-bytes : goal.invariant-loop-bytes
invariant-loop-bytes l = l.copies.items ≡ take l.bytes-index l.buffers
