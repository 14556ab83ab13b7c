-- Rows of one value.
use Rattle.std.proofs.Common.{◌≡◌, ℕ, ◌/◌, ◌%◌, ◌≤◌, Bool, true, false, cond, nat_eq, Option, Some, None, get_or, arith, ltb, refl, ap, ◌∙◌}
use Rattle.std.specs.Int.{bit_at}
use Rattle.std.proofs.Math.ListN.{replicate}
use Rattle.std.proofs.lemmas.Bool.{ltb-true, ltb-false}
use Rattle.std.proofs.lemmas.Nat.Bits.{bit_at-zero}
use Rattle.std.proofs.lemmas.List.{get_or-replicate, get_or_past, length-replicate}
use Rattle.rc_lang.specs.Program.{Program, token_place}
use Rattle.rc_split.specs.Bags.{Part, ShareOf, TokenOf, Credit}
use Rattle.rc_split.specs.Holdings.{bag, token_at}

pub all_alike : {X : Type 0} (n k : ℕ) (x : X) → get_or (replicate n x) k x ≡ x
all_alike n k x = go (ltb k n) refl
  where
    go : (b : Bool) → ltb k n ≡ b → get_or (replicate n x) k x ≡ x
    go true e = get_or-replicate n k x x (ltb-true k n e)
    go false e = get_or_past (replicate n x) k x (let h : n ≤ k = ltb-false k n e in omega (arith, length-replicate n x))

none_marked : (n : ℕ) (o : Option ℕ) → token_at (replicate n 0) o ≡ 0
none_marked n None = refl
none_marked n (Some place) = ap (λ x. cond (nat_eq x 1) 1 0) (ap (λ w. bit_at w (place / 4)) (all_alike n (place % 4) 0) ∙ bit_at-zero (place / 4))

pub nothing_held : (P : Program) (m n : ℕ) (p : Part) → bag (record { program = P; shares = replicate m 0; marks = replicate n 0; credits = 0 }) p ≡ 0
nothing_held P m n (ShareOf b) = all_alike m b 0
nothing_held P m n (TokenOf u) = none_marked n (token_place P.tokens u)
nothing_held P m n Credit = refl
