use Rattle.std.proofs.Common.{◌-◌, length}
use Rattle.rc_lang.specs.Program.{lines_of}
use Rattle.rc_world.proofs.Settling.{IsOnTheWay}
use Rattle.rc_world.proofs.controls.places.rest.Given as goal

abbrev pub invariant-loop-next : goal.invariant-loop-next
invariant-loop-next l = IsOnTheWay l.program l.thread l.start l.place l.ends_arm

abbrev pub decreases-loop-next : goal.decreases-loop-next
decreases-loop-next l = length (lines_of l.program l.thread) - l.place
