use Rattle.rc_runs.proofs.Closed.{pushed_grown, pushed_there}
use Rattle.rc_runs.proofs.stuck.closing.Reached.know.Goals as goal

pub returns-clause-grown : goal.returns-clause-grown
returns-clause-grown c = pushed_grown c.args.self.now.worlds.items c.args.world c.requires c.push.new.self.items c.in_ok-push.ensures.items

pub returns-clause-there : goal.returns-clause-there
returns-clause-there c = pushed_there c.args.self.now.worlds.items c.args.world c.requires c.args.kept.now c.push.new.self.items c.in_ok-push.ensures.items
