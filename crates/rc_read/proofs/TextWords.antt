-- The lines of a model and the words of a line, byte by byte.
use Rattle.std.proofs.Common.{◌≡◌, ℕ, zero, suc, ◌-◌, ◌<◌, List, [], ◌∷◌, ◌++◌, length, get_or, map, refl, sym, ap, ◌∙◌, arith}
use Rattle.std.proofs.lemmas.List.{get_or-map}
use Rattle.rc_read.specs.Words.{last_line}
use Rattle.rc_read.specs.Source.{line_numbered}

-- ---- lines

-- bytes without a line feed, in front of the lines after them
abbrev pub in_front : List ℕ → List (List ℕ) → List (List ℕ)
in_front bytes [] = last_line bytes
in_front bytes (line ∷ lines) = (bytes ++ line) ∷ lines

-- the line with a number, found as an item of a list
pub numbered_line : {B : Type 0} (f : B → List ℕ) (items : List B) (lines : List (List ℕ)) (n : ℕ) (item : B) → map f items ≡ lines → (n ≡ 0 → ⊥) → n - 1 < length items → item ≡ get_or items (n - 1) item → f item ≡ line_numbered lines n
numbered_line f items lines zero item m h lt e = absurd (h refl)
numbered_line f items lines (suc n) item m h lt e =
    let k : suc n - 1 ≡ n = omega arith in
    ap f e ∙ sym (get_or-map f items (suc n - 1) item [] lt) ∙ ap (λ i. get_or (map f items) i []) k ∙ ap (λ (ls : List (List ℕ)). get_or ls n []) m

-- ---- words
