use Rattle.rc_report.proofs.Grows.{step_grows}
use Rattle.rc_picture.proofs.drawing.frame_by.Goals as goal

pub returns-in-Ok : goal.returns-in-Ok
returns-in-Ok c = (step_grows c.args.world.now c.args.item.now c.in-Ok.event c.apply.new.self c.in-Ok.ensures.1).made
