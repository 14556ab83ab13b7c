use Rattle.std.proofs.Common.{rules}
use Rattle.rc_runs.proofs.Listed.{all_are_enabled}
use Rattle.rc_runs.proofs.choices.choices_of.Goals as goal

pub returns-clause-enabled : goal.returns-clause-enabled
returns-clause-enabled c = all_are_enabled c.args.world.now _ (search rules)
