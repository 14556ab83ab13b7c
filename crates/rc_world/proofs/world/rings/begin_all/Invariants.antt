use Rattle.rc_world.proofs.Beginning.{IsBegun}
use Rattle.rc_world.proofs.world.rings.begin_all.Given as goal

abbrev pub invariant-loop-request : goal.invariant-loop-request
invariant-loop-request l = IsBegun l.initial.pending l.initial.buffers l.requests l.request-index l.pending l.buffers l.has_clash
