use Rattle.rc_follow.proofs.Added.{advance_is_weak}
use Rattle.rc_follow.proofs.step.step.Goals as goal

pub returns : goal.returns
returns c = advance_is_weak c.args.world.now c.advance.new.self c.args.item.now c.advance.result c.advance.ensures
