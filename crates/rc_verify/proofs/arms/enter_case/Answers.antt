use Rattle.std.proofs.Common.{◌∷◌, [], subst}
use Rattle.rc_lang.specs.declared.lines.Stmt.TheVariants.{Peek}
use Rattle.rc_rules.specs.Premises.{Meets}
use Rattle.rc_rules.specs.Rules.{case_at}
use Rattle.rc_rules.specs.States.{asked_alike, State, Becomes, label_of}
use Rattle.rc_verify.proofs.arms.enter_case.Goals as goal

pub returns : goal.returns
returns c = subst (λ (s : State). Meets (asked_alike s [] (Peek 0)) × Becomes s c.arm_case.new.self (λ z. case_at c.args.user_data (label_of s z) ∷ [])) c.copy_from.ensures c.in_ok-arm_case.ensures.gives
