use Rattle.rc_explain.proofs.engine.put_judged.Goals as goal

pub returns : goal.returns
returns c = rw c.in_ok-explanation.ensures at c.put_drawn.ensures
