use Rattle.rc_report.proofs.Grows.{step_grows}
use Rattle.rc_runs.proofs.step.make.Goals as goal

pub returns-in-Ok-clause-made : goal.returns-in-Ok-clause-made
returns-in-Ok-clause-made c = (step_grows c.args.world.now c.args.item.now c.in-Ok.field-0 c.apply.new.self c.in-Ok.ensures.1).made
