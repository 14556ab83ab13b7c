use Rattle.std.proofs.Common.{◌≡◌, subst}
use Rattle.rc_rules.specs.Rules.{joins_both}
use Rattle.rc_rules.specs.States.{State, Gives, label_of}
use Rattle.rc_verify.specs.Arms.{two}
use Rattle.rc_verify.proofs.branches.end_if.Goals as goal

pub returns-clause-gives : goal.returns-clause-gives
returns-clause-gives c = λ s e.
    let q : c.top.result.now ≡ s = cc (c.top.ensures, e) in
    subst (λ (t : State). Gives c.args.state.now c.meet-answer.new.self c.meet-answer.result (joins_both (two (label_of c.args.state.now) (label_of t))) (two (label_of c.args.state.now) (label_of t))) q c.meet-answer.ensures
