use Rattle.std.proofs.Common.{◌≡◌, ℕ, ◌<◌, false, get_or}
use Rattle.rc_lang.specs.Names.{is_bracket}
use Rattle.rc_lang.proofs.names.bracket_in.Given as goal

abbrev pub invariant-loop-place : goal.invariant-loop-place
invariant-loop-place l = (k : ℕ) → k < l.place → is_bracket (get_or l.word k 0) ≡ false
