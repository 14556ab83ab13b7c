-- What a loop has taken of a list.
use Rattle.std.proofs.Common.{◌≡◌, ℕ, ◌+◌, ◌<◌, take, drop, List, [], ◌∷◌, ◌++◌, length, refl, sym, ap, ◌∙◌, get_or}
use Rattle.std.specs.List.{flat_map}
use Rattle.std.specs.Prelude.{map}
use Rattle.rc_report.proofs.Pieces.{pieces_cut}

map_same : (xs : List ℕ) → map (λ x. x) xs ≡ xs
map_same [] = refl
map_same (x ∷ xs) = ap (λ ys. x ∷ ys) (map_same xs)

pub yielded_all : (all xs : List ℕ) → map (λ x. x) xs ≡ all → xs ≡ all
yielded_all all xs h = sym (map_same xs) ∙ h

-- what was taken, the next one, and the others
pub yielded_cut : (f : ℕ → List ℕ) (all xs : List ℕ) (x : ℕ) → map (λ x. x) xs ≡ take (length xs) all → length xs < length all → x ≡ get_or all (length xs) x →
    flat_map f all ≡ flat_map f xs ++ (f x ++ flat_map f (drop (length xs + 1) all))
yielded_cut f all xs x h lt e =
    pieces_cut f all (length xs) x lt
    ∙ ap (λ ys. flat_map f ys ++ (f (get_or all (length xs) x) ++ flat_map f (drop (length xs + 1) all))) (sym (yielded_all (take (length xs) all) xs h))
    ∙ ap (λ y. flat_map f xs ++ (f y ++ flat_map f (drop (length xs + 1) all))) (sym e)
