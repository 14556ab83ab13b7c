use Rattle.std.proofs.Common.{◌≤◌}
use Rattle.rc_runs.proofs.harm.reaches.Given as goal

abbrev pub invariant-loop-place : goal.invariant-loop-place
invariant-loop-place l = l.world.made ≤ l.place
