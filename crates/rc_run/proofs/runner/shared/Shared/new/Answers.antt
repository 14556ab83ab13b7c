use Rattle.std.proofs.Common.{sym, ◌∙◌, subst}
use Rattle.rc_world.specs.Runs.{IsSafe}
use Rattle.rc_run.proofs.runner.shared.Shared.new.Goals as goal

pub new-requires-2-clause-safe : goal.new-requires-2-clause-safe
new-requires-2-clause-safe g c = subst IsSafe (c.deref.ensures ∙ sym c.requires.program) c.program.ensures.safe
