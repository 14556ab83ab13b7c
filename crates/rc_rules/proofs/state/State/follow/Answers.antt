use Rattle.std.proofs.Common.{refl, subst, sym, ◌∙◌}
use Rattle.rc_rules.specs.OneRule.{StateGoes}
use Rattle.rc_rules.proofs.Both.{alone_zero, alone_other, dead_of, may_zero, may_other}
use Rattle.rc_rules.proofs.state.State.follow.Goals as goal

pub follow-requires : goal.follow-requires
follow-requires c = may_zero c.args.self.now c.self.inside.flag c.self.inside.zero c.self.inside.other _ c.args.rule c.self.view_is refl c.requires

pub returns-then-not-is_live : goal.returns-then-not-is_live
returns-then-not-is_live c =
    subst (λ y. StateGoes c.args.rule y (record { flag = c.self.inside.flag; zero = c.follow.new.self; other = c.self.inside.other }) c.follow.result) c.self.view_is
    (alone_zero c.self.inside.flag c.self.inside.zero c.self.inside.other c.follow.new.self c.args.rule c.follow.result (dead_of _ (sym c.is_live.ensures ∙ c.if-not-is_live.true)) c.follow.ensures)

pub follow-requires-then-not-is_live-2 : goal.follow-requires-then-not-is_live-2
follow-requires-then-not-is_live-2 c = may_other c.args.self.now c.self.inside.flag c.self.inside.zero c.self.inside.other _ c.args.rule c.self.view_is c.self.invariant.program refl c.requires

pub returns-then-not-is_live-2 : goal.returns-then-not-is_live-2
returns-then-not-is_live-2 c =
    subst (λ y. StateGoes c.args.rule y (record { flag = c.self.inside.flag; zero = c.self.inside.zero; other = c.follow-then-not-is_live-2.new.self }) c.follow-then-not-is_live-2.result) c.self.view_is
    (alone_other c.self.inside.flag c.self.inside.zero c.self.inside.other c.follow-then-not-is_live-2.new.self c.args.rule c.follow-then-not-is_live-2.result (dead_of _ (sym c.is_live-2.ensures ∙ c.if-not-is_live-2.true)) c.self.invariant.program c.follow-then-not-is_live-2.ensures)
