use Rattle.std.proofs.Common.{◌+◌, ◌≤◌}
use Rattle.rc_runs.proofs.walk.Walker.go_on.Given as goal

abbrev pub invariant-loop-index : goal.invariant-loop-index
invariant-loop-index l = l.self.world.made ≤ l.index + 4294967295
