use Rattle.std.proofs.Common.{[], ◌∷◌, subst, sym}
use Rattle.rc_rules.specs.Premises.{Tests, Is}
use Rattle.rc_rules.proofs.Joins.{some_join, left_join, right_join}
use Rattle.rc_rules.proofs.state.State.may_meet.Goals as goal

pub returns-in-Some-Some : goal.returns-in-Some-Some
returns-in-Some-Some c = subst (λ b. Tests c.may_join.result ((15, Is b) ∷ [])) (sym (some_join c.args.self.now c.args.other.now c.mode.result c.mode-2.result c.in-Some-Some.mine c.in-Some-Some.theirs c.mode.ensures.alike c.mode-2.ensures.alike c.mode.ensures.value c.mode-2.ensures.value c.in-Some-Some.is-0 c.in-Some-Some.is-1)) c.may_join.ensures

pub returns-in_default : goal.returns-in_default
returns-in_default c = (right_join c.args.self.now c.args.other.now c.mode-2.result c.mode.ensures.alike c.mode-2.ensures.alike c.mode-2.ensures.value c.in_default.is-1, tt)

pub returns-in_default-2 : goal.returns-in_default-2
returns-in_default-2 c = (left_join c.args.self.now c.args.other.now c.mode.result c.mode.ensures.alike c.mode-2.ensures.alike c.mode.ensures.value c.in_default.is-0, tt)
