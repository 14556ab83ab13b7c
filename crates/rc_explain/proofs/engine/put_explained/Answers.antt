use Rattle.rc_explain.proofs.engine.put_explained.Goals as goal

pub returns : goal.returns
returns c =
    let told = c.in_ok-put_judged.ensures in
    (told.0, (c.verdict_of.ensures.verdict c.args.source.now c.in_ok-judged.ensures, rw c.verdict_of.ensures.value told.1), told.2)
