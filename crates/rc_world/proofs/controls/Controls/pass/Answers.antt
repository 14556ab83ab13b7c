use Rattle.rc_world.proofs.Threads.{passes}
use Rattle.rc_world.proofs.controls.Controls.pass.Goals as goal

pub returns : goal.returns
returns c = passes c.args.program.now c.args.self.now c.go.new.self c.args.thread c.args.place c.args.action c.requires.here c.go.ensures
