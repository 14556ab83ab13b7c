use Rattle.rc_rules.proofs.rule.after.Goals as goal

pub returns-in-Take : goal.returns-in-Take
returns-in-Take c = rw c.in-Take.is c.take.ensures
