use Rattle.std.proofs.Common.{◌<◌, ◌^◌, ap, subst, sym, lit<}
use Rattle.rc_lang.specs.Views.{seen}
use Rattle.rc_split.specs.Holdings.{Holding}
use Rattle.rc_split.proofs.Alike.{all_alike, nothing_held}
use Rattle.rc_split.proofs.holding.Holding.clear.Goals as goal

pub invariant_of-self : goal.invariant_of-self
invariant_of-self c = record { made = c.self.invariant.made; shares = λ b. subst (λ x. x < 2 ^ 20) (sym (all_alike 64 b 0)) (lit< tt); credits = lit< tt }

pub returns : goal.returns
returns c = record { of = ap (λ (h : Holding). h.program) c.self.view_is; each = λ p. nothing_held (seen c.self.inside.view) 64 4 p }
