-- Digits that are read from the left.
use Rattle.std.proofs.Common.{◌≡◌, ℕ, ◌+◌, ◌-◌, ◌*◌, ◌<◌, ◌≤◌, List, [], ◌∷◌, Bool, true, false, cond, ◌&&◌, Some, None, refl, sym, arith, leb}
use Rattle.std.proofs.lemmas.Bool.{lt-leb}
use Rattle.rc_lang.specs.Numbers.{value_behind, value_of, is_number, number_of}

value_grows : (n : ℕ) (bytes : List ℕ) → n ≤ value_behind n bytes
value_grows n [] = omega arith
value_grows n (b ∷ bytes) = omega (arith, value_grows (10 * n + (b - 48)) bytes)

third_fails : (a b c : Bool) (n : ℕ) → c ≡ false → cond (a && b && c) (Some n) None ≡ None
third_fails true true true n e = absurd cc
third_fails true true false n e = refl
third_fails true false true n e = refl
third_fails true false false n e = refl
third_fails false true true n e = refl
third_fails false true false n e = refl
third_fails false false true n e = refl
third_fails false false false n e = refl

-- a value that is above the range already stays above it
pub too_large : (low high n b : ℕ) (rest word : List ℕ) → high < 10 * n + (b - 48) → value_behind n (b ∷ rest) ≡ value_of word → None ≡ number_of low high word
too_large low high n b rest word lt e =
    let g = value_grows (10 * n + (b - 48)) rest in
    let v : leb (value_of word) high ≡ false = lt-leb _ _ (omega (arith, g, e, lt)) in
    sym (third_fails (is_number word) (leb low (value_of word)) (leb (value_of word) high) (value_of word) v)
