-- Lists with an element more, less, or changed.
use Rattle.std.proofs.Common.{◌≡◌, ◌≢◌, ℕ, zero, suc, ◌+◌, ◌<◌, ◌⊎◌, inl, inr, Bool, true, false, ◌||◌, cond, not, List, [], ◌∷◌, ◌++◌, drop, length, map, take, Option, Some, None, refl, ap, ◌∙◌, slice_get, slice_set, slice_index_or, arith, sym}
use Rattle.std.proofs.lemmas.Bool.{or_cases, or_left, or_parts, or_right}
use Rattle.std.specs.List.{list_any, position, prefix_len}
use Rattle.std.proofs.lemmas.List.{length-map}
use Rattle.std.proofs.lemmas.Option.{same_Some}
use Rattle.std.proofs.Math.Bool.{or-false, or_assoc}
use Rattle.rc_world.specs.Machine.{without}

-- an element of a list with another element in one place
pub get_set : {A : Type 0} (xs : List A) (i k : ℕ) (y z : A) → slice_get (slice_set xs i y) k ≡ Some z → ((k ≡ i) × (y ≡ z)) ⊎ ((k ≢ i) × (slice_get xs k ≡ Some z))
get_set [] i k y z e = absurd (cc)
get_set (x ∷ xs) zero zero y z e = inl (refl, same_Some _ _ e)
get_set (x ∷ xs) zero (suc k) y z e = inr ((λ q. absurd (omega arith)), e)
get_set (x ∷ xs) (suc i) zero y z e = inr ((λ q. absurd (omega arith)), e)
get_set (x ∷ xs) (suc i) (suc k) y z e = elim (get_set xs i k y z e) [
  | inl h ↦ inl (ap suc h.0, h.1)
  | inr h ↦ inr ((λ q. h.0 (omega arith)), h.1)
]

-- an element of a list with one more
pub get_push : {A : Type 0} (xs : List A) (y : A) (k : ℕ) (z : A) → slice_get (xs ++ y ∷ []) k ≡ Some z → (slice_get xs k ≡ Some z) ⊎ (y ≡ z)
get_push [] y zero z e = inr (same_Some _ _ e)
get_push [] y (suc k) z e = absurd (cc)
get_push (x ∷ xs) y zero z e = inl e
get_push (x ∷ xs) y (suc k) z e = get_push xs y k z e

-- an element of a list without one is one of the list
pub get_without : {A : Type 0} (k : ℕ) (xs : List A) (j : ℕ) (x : A) → slice_get (without k xs) j ≡ Some x → (i : ℕ) × (slice_get xs i ≡ Some x)
get_without zero [] j x e = absurd (cc)
get_without (suc k) [] j x e = absurd (cc)
get_without zero (y ∷ xs) j x e = (suc j, e)
get_without (suc k) (y ∷ xs) zero x e = (0, e)
get_without (suc k) (y ∷ xs) (suc j) x e = let h = get_without k xs j x e in (suc h.0, h.1)

-- an element after the first ones
pub get_drop : {A : Type 0} (n : ℕ) (xs : List A) (k : ℕ) (x : A) → slice_get (drop n xs) k ≡ Some x → (i : ℕ) × (slice_get xs i ≡ Some x)
get_drop zero xs k x e = (k, e)
get_drop (suc n) [] k x e = absurd (cc)
get_drop (suc n) (y ∷ xs) k x e = let h = get_drop n xs k x e in (suc h.0, h.1)

pub get_take : {A : Type 0} (n : ℕ) (xs : List A) (k : ℕ) (x : A) → slice_get (take n xs) k ≡ Some x → slice_get xs k ≡ Some x
get_take zero xs k x e = absurd (cc)
get_take (suc n) [] k x e = absurd (cc)
get_take (suc n) (y ∷ xs) zero x e = e
get_take (suc n) (y ∷ xs) (suc k) x e = get_take n xs k x e

-- what is at a place, if it isn't what is said for lack of one
pub get_of : {A : Type 0} (xs : List (Option A)) (i : ℕ) (x : A) → slice_index_or xs i None ≡ Some x → slice_get xs i ≡ Some (Some x)
get_of [] i x e = absurd (cc)
get_of (y ∷ xs) zero x e = ap Some e
get_of (y ∷ xs) (suc i) x e = get_of xs i x e

pub get_none : {A : Type 0} (xs : List (Option A)) (i : ℕ) → i < length xs → slice_index_or xs i None ≡ None → slice_get xs i ≡ Some None
get_none [] i lt e = absurd (omega arith)
get_none (y ∷ xs) zero lt e = ap Some e
get_none (y ∷ xs) (suc i) lt e = get_none xs i (omega arith) e

-- ---- tests

pub any_map : {A B : Type 0} (f : A → B) (test : B → Bool) (xs : List A) → list_any test (map f xs) ≡ list_any (λ x. test (f x)) xs
any_map f test [] = refl
any_map f test (x ∷ xs) = ap (λ b. test (f x) || b) (any_map f test xs)

pub any_push : {A : Type 0} (test : A → Bool) (xs : List A) (y : A) → list_any test (xs ++ y ∷ []) ≡ (list_any test xs || test y)
any_push test [] y = or-false (test y)
any_push test (x ∷ xs) y = ap (λ b. test x || b) (any_push test xs y) ∙ sym (or_assoc (test x) (list_any test xs) (test y))

-- one that is found at a place
pub any_at : {A : Type 0} (test : A → Bool) (xs : List A) (k : ℕ) (x : A) → slice_get xs k ≡ Some x → test x ≡ true → list_any test xs ≡ true
any_at test [] k x e t = absurd (cc)
any_at test (y ∷ xs) zero x e t = or_left (test y) _ (ap test (same_Some _ _ e) ∙ t)
any_at test (y ∷ xs) (suc k) x e t = or_right (test y) _ (any_at test xs k x e t)

-- where one is found
pub found : {A : Type 0} (test : A → Bool) (xs : List A) → list_any test xs ≡ true → (k : ℕ) × (x : A) × (slice_get xs k ≡ Some x) × (test x ≡ true)
found test [] e = absurd (cc)
found test (y ∷ xs) e = elim (or_cases (test y) (list_any test xs) e) [
  | inl h ↦ (0, y, refl, h)
  | inr h ↦ let r = found test xs h in (suc r.0, r.1, r.2, r.3)
]

-- without one that doesn't pass
pub any_without : {A : Type 0} (test : A → Bool) (k : ℕ) (xs : List A) (x : A) → slice_get xs k ≡ Some x → test x ≡ false → list_any test xs ≡ true → list_any test (without k xs) ≡ true
any_without test zero [] x e t h = absurd (cc)
any_without test (suc k) [] x e t h = absurd (cc)
any_without test zero (y ∷ xs) x e t h = elim (or_cases (test y) (list_any test xs) h) [
  | inl q ↦ let d : test y ≡ false = ap test (same_Some _ _ e) ∙ t in absurd (cc)
  | inr q ↦ q
]
any_without test (suc k) (y ∷ xs) x e t h = elim (or_cases (test y) (list_any test xs) h) [
  | inl q ↦ or_left (test y) _ q
  | inr q ↦ or_right (test y) _ (any_without test k xs x e t q)
]

-- fewer pass where one is left away
pub none_without : {A : Type 0} (test : A → Bool) (k : ℕ) (xs : List A) → list_any test xs ≡ false → list_any test (without k xs) ≡ false
none_without test zero [] h = refl
none_without test (suc k) [] h = refl
none_without test zero (y ∷ xs) h = (or_parts (test y) (list_any test xs) h).1
none_without test (suc k) (y ∷ xs) h = let n = or_parts (test y) (list_any test xs) h in ap (λ b. b || list_any test (without k xs)) n.0 ∙ none_without test k xs n.1

pub map_without : {A B : Type 0} (f : A → B) (k : ℕ) (xs : List A) → map f (without k xs) ≡ without k (map f xs)
map_without f zero [] = refl
map_without f (suc k) [] = refl
map_without f zero (x ∷ xs) = refl
map_without f (suc k) (x ∷ xs) = ap (λ ys. f x ∷ ys) (map_without f k xs)

prefix_map : {A B : Type 0} (f : A → B) (test : B → Bool) (xs : List A) → prefix_len test (map f xs) ≡ prefix_len (λ x. test (f x)) xs
prefix_map f test [] = refl
prefix_map f test (x ∷ xs) = ap (λ (k : ℕ). cond (test (f x)) (1 + k) 0) (prefix_map f test xs)

pub position_map : {A B : Type 0} (f : A → B) (test : B → Bool) (xs : List A) → position test (map f xs) ≡ position (λ x. test (f x)) xs
position_map f test xs = rw (prefix_map f (λ y. not (test y)) xs, length-map xs f) refl
