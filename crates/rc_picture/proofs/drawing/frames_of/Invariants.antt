use Rattle.std.proofs.Common.{◌≤◌}
use Rattle.rc_picture.proofs.drawing.frames_of.Given as goal

abbrev pub invariant-loop-place : goal.invariant-loop-place
invariant-loop-place l = l.world.made ≤ l.place
