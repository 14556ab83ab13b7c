use Rattle.std.proofs.Common.{◌≡◌, [], subst, ap, ◌∙◌}
use Rattle.rc_lang.specs.declared.lines.Stmt.TheVariants.{Do}
use Rattle.rc_rules.specs.Premises.{Meets}
use Rattle.rc_rules.specs.Needs.{line_premises}
use Rattle.rc_rules.specs.Rules.{asks_both, op_effect, goes}
use Rattle.rc_rules.specs.Sides.{brings, turns, write_of}
use Rattle.rc_rules.specs.States.{State, Becomes, label_of, program_of}
use Rattle.rc_rules.proofs.Both.{Turned, then_turned}
use Rattle.rc_rules.proofs.state.transfer.Goals as goal

pub returns : goal.returns
returns c = λ op e.
    let old = c.args.state.now in
    let q : c.in-Do.op ≡ op = cc (c.in-Do.is, e) in
    let w : c.write_of.result ≡ write_of old.flag c.in-Do.op = c.write_of.ensures ∙ ap (λ f. write_of f c.in-Do.op) (ap (λ (s : State). s.flag) c.turn.view_is ∙ c.in_ok-follow_op.ensures.1.of.flag) in
    subst (λ o. Meets (asks_both (label_of old) (λ z b m. line_premises (program_of old) [] b m (Do o))) × Becomes old c.turn-2.new.self (λ z. brings (λ y. turns (write_of old.flag o) y z) (λ s. goes s (λ b m. op_effect (program_of old) b m o)) (label_of old))) q
    (c.in_ok-follow_op.ensures.0, then_turned old c.follow_op.new.self c.turn-2.new.self (λ s. goes s (λ b m. op_effect (program_of old) b m c.in-Do.op)) (write_of old.flag c.in-Do.op) c.in_ok-follow_op.ensures.1 (subst (λ v. Turned v c.follow_op.new.self c.turn-2.new.self) w c.turn-2.ensures))
