use Rattle.std.proofs.Common.{subst}
use Rattle.rc_world.specs.Runs.{IsSafe}
use Rattle.rc_admit.proofs.Safe.{safe_from_weakly}
use Rattle.rc_admit.proofs.admitted.Admitted.program.Goals as goal

pub returns-clause-safe : goal.returns-clause-safe
returns-clause-safe c = subst IsSafe c.self.view_is (safe_from_weakly c.self.inside.program c.self.invariant)
