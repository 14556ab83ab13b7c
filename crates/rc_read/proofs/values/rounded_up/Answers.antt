use Rattle.std.proofs.Common.{◌≤◌, ℕ, sym, subst}
use Rattle.rc_read.proofs.Sizes.{rounded_within}
use Rattle.rc_read.proofs.values.rounded_up.Goals as goal

pub returns-clause-within : goal.returns-clause-within
returns-clause-within c = subst (λ (x : ℕ). x ≤ 2048) (sym c.first_from.ensures) (rounded_within c.args.n)
