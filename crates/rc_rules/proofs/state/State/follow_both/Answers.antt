use Rattle.std.proofs.Common.{Ok, subst, sym, ◌∙◌}
use Rattle.rc_rules.specs.States.{IsState}
use Rattle.rc_rules.specs.OneRule.{StateGoes}
use Rattle.rc_rules.proofs.Both.{may_zero, may_other, same_pair, both_went, both_kept}
use Rattle.rc_rules.proofs.state.State.follow_both.Goals as goal

pub follow-on_zero-requires : goal.follow-on_zero-requires
follow-on_zero-requires c = may_zero c.args.self.now c.self.inside.flag c.self.inside.zero c.self.inside.other _ c.args.rule c.self.view_is c.again-zero.ensures c.requires

pub follow-on_other-requires : goal.follow-on_other-requires
follow-on_other-requires c = may_other c.args.self.now c.self.inside.flag c.self.inside.zero c.self.inside.other _ c.args.rule c.self.view_is c.self.invariant.program c.again-other.ensures c.requires

pub invariant_of-self : goal.invariant_of-self
invariant_of-self c =
    let i = subst IsState (same_pair c.self.inside.flag c.self.inside.zero c.self.inside.other c.again-zero.result c.again-other.result c.again-zero.ensures c.again-other.ensures) c.self.invariant in
    both_kept c.self.inside.flag c.again-zero.result c.again-other.result c.follow-on_zero.new.self c.follow-on_other.new.self c.args.rule c.follow-on_zero.result c.follow-on_other.result c.lesser.result c.in_ok-lesser.field-0 i.program c.follow-on_zero.ensures c.follow-on_other.ensures c.lesser.ensures c.in_ok-lesser.was i

pub returns : goal.returns
returns c =
    let e = same_pair c.self.inside.flag c.self.inside.zero c.self.inside.other c.again-zero.result c.again-other.result c.again-zero.ensures c.again-other.ensures in
    let i = subst IsState e c.self.invariant in
    let g = both_went c.self.inside.flag c.again-zero.result c.again-other.result c.follow-on_zero.new.self c.follow-on_other.new.self c.args.rule c.follow-on_zero.result c.follow-on_other.result c.lesser.result c.in_ok-lesser.field-0 i.program c.follow-on_zero.ensures c.follow-on_other.ensures c.lesser.ensures c.in_ok-lesser.was in
    subst (λ y. StateGoes c.args.rule y (record { flag = c.self.inside.flag; zero = c.follow-on_zero.new.self; other = c.follow-on_other.new.self }) (Ok tt)) (sym e ∙ c.self.view_is) g
