use Rattle.std.proofs.Common.{◌<◌, ◌^◌, subst, sym, refl, lit<}
use Rattle.rc_lang.specs.Views.{seen}
use Rattle.rc_split.proofs.Alike.{all_alike, nothing_held}
use Rattle.rc_split.proofs.holding.Holding.nothing.Goals as goal

pub invariant_of-result : goal.invariant_of-result
invariant_of-result c = record { made = c.entries.ensures.made; shares = λ b. subst (λ x. x < 2 ^ 20) (sym (all_alike 64 b 0)) (lit< tt); credits = lit< tt }

pub returns : goal.returns
returns c = record { of = refl; each = λ p. nothing_held (seen c.args.view) 64 4 p }
