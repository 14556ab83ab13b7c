use Rattle.rc_verify.proofs.Joining.{arm_joins, arm_passes, joins}
use Rattle.rc_rules.specs.States.{label_of}
use Rattle.rc_verify.proofs.arms.join_end.Goals as goal

pub returns-then-arms-clause-of : goal.returns-then-arms-clause-of
returns-then-arms-clause-of c = (joins c.args.arms.now.ends c.meet.new.self (label_of c.args.end.now) c.meet.result c.meet.ensures).1

pub returns-then-arms-clause-joins : goal.returns-then-arms-clause-joins
returns-then-arms-clause-joins c = arm_joins c.args.arms.now (label_of c.args.end.now) c.meet.new.self c.meet.result c.is_ok-arms.result c.if-arms.true c.meet.ensures c.is_ok-arms.ensures.value

pub returns-else-arms-clause-joins : goal.returns-else-arms-clause-joins
returns-else-arms-clause-joins c = arm_passes c.args.arms.now (label_of c.args.end.now) c.if-arms.false
