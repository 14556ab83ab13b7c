use Rattle.std.proofs.Common.{FitsSigned, w64, rules, ◌∙◌, [], ◌∷◌, ap, sym, subst, int_eq}
use Rattle.std.specs.Prelude.{pos}
use Rattle.std.proofs.lemmas.Int.{to_z-of_z}
use Rattle.rc_rules.specs.States.{Side, side_label}
use Rattle.rc_rules.specs.Labels.{IsStrongest}
use Rattle.rc_rules.proofs.Both.{number_zero, number_other}
use Rattle.rc_rules.proofs.state.State.turn.Goals as goal

pub returns-then-is_zero : goal.returns-then-is_zero
returns-then-is_zero c =
    let fits : FitsSigned w64 c.in-Number.n = search rules in
    number_zero c.self.inside.flag c.self.inside.zero c.self.inside.other c.meet.new.self c.die.new.self c.args.self.now c.in-Number.n c.args.write c.self.view_is c.in-Number.is (ap (λ k. int_eq k (pos 0)) (sym (to_z-of_z w64 c.in-Number.n fits)) ∙ sym c.is_zero.ensures ∙ c.if-is_zero.true) c.meet.ensures.strongest c.meet.ensures.of (ap side_label c.die.ensures)

pub returns-else-is_zero : goal.returns-else-is_zero
returns-else-is_zero c =
    let fits : FitsSigned w64 c.in-Number.n = search rules in
    number_other c.self.inside.flag c.self.inside.zero c.self.inside.other c.copy_from.new.self c.die-else-is_zero.new.self c.args.self.now c.in-Number.n c.args.write c.self.view_is c.in-Number.is (ap (λ k. int_eq k (pos 0)) (sym (to_z-of_z w64 c.in-Number.n fits)) ∙ sym c.is_zero.ensures ∙ c.if-is_zero.false) (subst (λ s. IsStrongest (side_label s) (side_label c.self.inside.zero ∷ side_label c.self.inside.other ∷ [])) (sym c.copy_from.ensures) c.meet.ensures.strongest) (ap (λ (s : Side). s.program) c.die-else-is_zero.ensures ∙ c.meet.ensures.of) (ap side_label c.die-else-is_zero.ensures)
