use Rattle.std.proofs.Common.{◌≤◌, subst, arith}
use Rattle.rc_world.specs.Changes.{StandsAt}
use Rattle.rc_world.proofs.Jumps.{break_small, if_below, loop_small, op_small, test_small}
use Rattle.rc_world.proofs.controls.Controls.act.Goals as goal

pub call-requires-clause-small : goal.call-requires-clause-small
call-requires-clause-small c = op_small _ _ _ _ _ (subst (StandsAt c.args.program.now c.args.self.now c.args.thread c.args.place) c.in-Do.is c.requires.here)

pub decide-holds-requires-clause-within : goal.decide-holds-requires-clause-within
decide-holds-requires-clause-within c = test_small _ _ _ _ _ (subst (StandsAt c.args.program.now c.args.self.now c.args.thread c.args.place) c.in-If.is c.requires.here)

pub branch-self-requires-clause-end : goal.branch-self-requires-clause-end
branch-self-requires-clause-end c = (if_below _ _ _ _ _ (subst (StandsAt c.args.program.now c.args.self.now c.args.thread c.args.place) c.in-If.is c.requires.here)).few

pub overflow_add-top : goal.overflow_add-top
overflow_add-top c =
    let few : c.in-EndLoop.top ≤ 4096 = loop_small _ _ _ _ _ _ (subst (StandsAt c.args.program.now c.args.self.now c.args.thread c.args.place) c.in-EndLoop.is c.requires.here) in
    omega arith

pub leave-requires-clause-end : goal.leave-requires-clause-end
leave-requires-clause-end c = break_small _ _ _ _ _ _ _ (subst (StandsAt c.args.program.now c.args.self.now c.args.thread c.args.place) c.in-Break.is c.requires.here)
