-- Texts that grow.
use Rattle.std.proofs.Common.{◌≡◌, ℕ, ◌+◌, ◌<◌, List, ◌++◌, length, get_or, take, Result, Ok, Err, sym, ap, ◌∙◌, append_assoc}
use Rattle.std.proofs.lemmas.List.{flat_map_more, take_more}
use Rattle.std.specs.Global.{Vec}
use Rattle.std.specs.List.{flat_map}
use Rattle.rc_text.specs.Text.{Puts}

-- a text with one part more
pub grown : (start now next so_far part whole : List ℕ) → now ≡ start ++ so_far → next ≡ now ++ part → whole ≡ so_far ++ part → next ≡ start ++ whole
grown start now next so_far part whole i e w = e ∙ ap (λ t. t ++ part) i ∙ append_assoc start so_far part ∙ ap (λ t. start ++ t) (sym w)

-- one part, and then another
pub puts_after : {X E : Type 0} (a b c : Vec ℕ) (s t : List ℕ) (r : Result X E) → b.items ≡ a.items ++ s → Puts b c t r → Puts a c (s ++ t) r
puts_after a b c s t (Ok x) e p = p ∙ ap (λ u. u ++ t) e ∙ append_assoc a.items s t
puts_after a b c s t (Err x) e p = tt

-- the same text under another name
pub puts_along : {X E : Type 0} (a b : Vec ℕ) (s t : List ℕ) (r : Result X E) → s ≡ t → Puts a b s r → Puts a b t r
puts_along a b s t (Ok x) e p = p ∙ ap (λ u. a.items ++ u) e
puts_along a b s t (Err x) e p = tt

-- the bytes of one item more
pub puts_next : {A : Type 0} (f : A → List ℕ) (old mid new : List ℕ) (xs : List A) (i : ℕ) (d : A) → i < length xs → mid ≡ old ++ flat_map f (take i xs) → new ≡ mid ++ f (get_or xs i d) → new ≡ old ++ flat_map f (take (i + 1) xs)
puts_next f old mid new xs i d lt p q =
    q ∙ ap (λ u. u ++ f (get_or xs i d)) p ∙ flat_map_more f old (take i xs) (get_or xs i d)
    ∙ ap (λ ys. old ++ flat_map f ys) (sym (take_more xs i d lt))
