use Rattle.rc_follow.specs.Follower.{LeadsBy}
use Rattle.rc_follow.specs.Ways.{Leads}
use Rattle.rc_follow.proofs.Added.{adds_one, adds_same, is_call, visits_none}
use Rattle.rc_follow.proofs.kept.keep_called.Goals as goal

pub returns-in_ok-keep : goal.returns-in_ok-keep
returns-in_ok-keep c P = (
  adds_one (LeadsBy P c.args.ground.noted.now c.args.node c.args.ground.thread c.args.ground.call) c.make.new.node c.args.found.now.worlds.items c.keep.new.found.worlds.items
      (is_call P c.args.ground.noted.now c.args.node c.make.new.node c.args.ground.thread c.args.ground.call (c.in_ok-make.ensures c.if-branch.true P)) c.in_ok-keep.ensures.worlds,
  adds_same (Leads c.args.ground.noted.now c.args.node) c.args.found.now.todo.items c.keep.new.found.todo.items c.in_ok-keep.ensures.todo,
)

pub returns-in_ok-give : goal.returns-in_ok-give
returns-in_ok-give c P = visits_none P c.args.ground.noted.now c.args.node c.args.ground.thread c.args.ground.call c.args.found.now
