use Rattle.std.proofs.Common.{subst, arith}
use Rattle.rc_rules.specs.Causes.{premise_number}
use Rattle.rc_rules.specs.Premises.{Tests, FailsFirst, Meets}
use Rattle.rc_rules.proofs.Weaker.{meets_below, below_fewer, fails_left, fails_right, tests_append}
use Rattle.rc_rules.proofs.premises.lesser.Goals as goal

pub returns-then-number : goal.returns-then-number
returns-then-number c = λ ps qs f g.
    let f' : FailsFirst (premise_number c.in-Err-Err.a) ps = subst (λ r. Tests r ps) c.in-Err-Err.is-0 f in
    let g' : FailsFirst (premise_number c.in-Err-Err.b) qs = subst (λ r. Tests r qs) c.in-Err-Err.is-1 g in
    fails_right (premise_number c.in-Err-Err.b) ps qs (below_fewer (premise_number c.in-Err-Err.b) (premise_number c.in-Err-Err.a) ps (omega (arith, c.if-number.true, c.number.ensures, c.number-in-Err-Err.ensures)) f'.below) g'

pub returns-else-number : goal.returns-else-number
returns-else-number c = λ ps qs f g.
    let f' : FailsFirst (premise_number c.in-Err-Err.a) ps = subst (λ r. Tests r ps) c.in-Err-Err.is-0 f in
    let g' : FailsFirst (premise_number c.in-Err-Err.b) qs = subst (λ r. Tests r qs) c.in-Err-Err.is-1 g in
    fails_left (premise_number c.in-Err-Err.a) ps qs f' (below_fewer (premise_number c.in-Err-Err.a) (premise_number c.in-Err-Err.b) qs (omega (arith, c.if-number.false, c.number.ensures, c.number-in-Err-Err.ensures)) g'.below)

pub returns-in-Err-Ok : goal.returns-in-Err-Ok
returns-in-Err-Ok c = λ ps qs f g.
    let f' : FailsFirst (premise_number c.in-Err-Ok.a) ps = subst (λ r. Tests r ps) c.in-Err-Ok.is-0 f in
    let g' : Meets qs = subst (λ r. Tests r qs) c.in-Err-Ok.is-1 g in
    fails_left (premise_number c.in-Err-Ok.a) ps qs f' (meets_below _ qs g')

pub returns-in-Ok-default : goal.returns-in-Ok-default
returns-in-Ok-default c = λ ps qs f g.
    let f' : Meets ps = subst (λ r. Tests r ps) c.in-Ok-default.is-0 f in
    tests_append c.args.b ps qs f' g
