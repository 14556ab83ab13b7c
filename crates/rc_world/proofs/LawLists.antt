-- Elements of parts of lists.
use Rattle.std.proofs.Common.{◌≡◌, ℕ, zero, suc, ◌+◌, ◌-◌, ◌<◌, ◌≤◌, List, [], ◌∷◌, drop, length, take, zero-add, Some, None, refl, sym, ap, ◌∙◌, slice_get, slice_range, arith}
use Rattle.rc_world.proofs.Lists.{get_take}

pub get_at : {A : Type 0} (xs : List A) (k : ℕ) → k < length xs → (x : A) × (slice_get xs k ≡ Some x)
get_at [] k lt = absurd (omega arith)
get_at (x ∷ xs) zero lt = (x, refl)
get_at (x ∷ xs) (suc k) lt = get_at xs k (omega arith)

pub get_past : {A : Type 0} (xs : List A) (k : ℕ) → slice_get xs k ≡ None → length xs ≤ k
get_past [] k e = omega arith
get_past (x ∷ xs) zero e = absurd (cc)
get_past (x ∷ xs) (suc k) e = let h : length xs ≤ k = get_past xs k e in omega arith

taken_has : {A : Type 0} (xs : List A) (n k : ℕ) → k < n → slice_get (take n xs) k ≡ slice_get xs k
taken_has xs zero k lt = absurd (omega arith)
taken_has [] (suc n) k lt = refl
taken_has (x ∷ xs) (suc n) zero lt = refl
taken_has (x ∷ xs) (suc n) (suc k) lt = taken_has xs n k (omega arith)

get_dropped : {A : Type 0} (xs : List A) (a k : ℕ) → slice_get (drop a xs) k ≡ slice_get xs (a + k)
get_dropped xs zero k = ap (slice_get xs) (sym (zero-add k))
get_dropped [] (suc a) k = refl
get_dropped (x ∷ xs) (suc a) k = let e : suc (a + k) ≡ suc a + k = omega arith in get_dropped xs a k ∙ ap (slice_get (x ∷ xs)) e

-- the elements of a part are some of the list, further on,
pub get_in_range : {A : Type 0} (xs : List A) (a b k : ℕ) (x : A) → slice_get (slice_range xs a b) k ≡ Some x → slice_get xs (a + k) ≡ Some x
get_in_range xs a b k x e = sym (get_dropped xs a k) ∙ get_take (b - a) (drop a xs) k x e

-- and those between its ends are in it
pub range_has : {A : Type 0} (xs : List A) (a b p : ℕ) (x : A) → a ≤ p → p < b → slice_get xs p ≡ Some x → slice_get (slice_range xs a b) (p - a) ≡ Some x
range_has xs a b p x le lt e =
    let q : a + (p - a) ≡ p = omega arith in
    taken_has (drop a xs) (b - a) (p - a) (omega arith) ∙ get_dropped xs a (p - a) ∙ ap (slice_get xs) q ∙ e
