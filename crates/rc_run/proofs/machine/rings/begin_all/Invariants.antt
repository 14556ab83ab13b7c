use Rattle.std.proofs.Common.{take}
use Rattle.rc_run.proofs.Begins.{IsBegun}
use Rattle.rc_run.proofs.machine.rings.begin_all.Given as goal

abbrev pub invariant-loop-i : goal.invariant-loop-i
invariant-loop-i l = IsBegun l.initial.pending l.initial.buffers (take l.count l.ring.queued) l.i l.pending l.buffers
