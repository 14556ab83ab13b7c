-- Sums over threads and over requests, and what one change does to them.
use Rattle.std.proofs.Common.{◌≡◌, ℕ, zero, suc, ◌+◌, ◌<◌, ◌≤◌, List, [], ◌∷◌, ◌++◌, map, take, drop, Some, refl, sym, ap, subst, inl, inr, arith}
use Rattle.std.specs.Prelude.{slice_get}
use Rattle.rc_split.proofs.PoolBags.{same_or_not}
use Rattle.rc_world.specs.Machine.{without}

-- f 0 + .. + f (n - 1)
abbrev pub sum_to : (ℕ → ℕ) → ℕ → ℕ
sum_to f zero = 0
sum_to f (suc n) = sum_to f n + f n

pub sum_to_same : (f g : ℕ → ℕ) (n : ℕ) → ((j : ℕ) → j < n → f j ≡ g j) → sum_to f n ≡ sum_to g n
sum_to_same f g zero h = refl
sum_to_same f g (suc n) h =
    let a : sum_to f n ≡ sum_to g n = sum_to_same f g n (λ j lt. h j (omega arith)) in
    let b : f n ≡ g n = h n (omega arith) in
    omega arith

-- a change at one place
pub sum_to_changed : (f g : ℕ → ℕ) (n i : ℕ) → i < n → ((j : ℕ) → (j ≡ i → ⊥) → g j ≡ f j) → sum_to g n + f i ≡ sum_to f n + g i
sum_to_changed f g zero i lt h = absurd (omega arith)
sum_to_changed f g (suc n) i lt h = elim (same_or_not n i) [
  | inl e ↦
      let a : sum_to g n ≡ sum_to f n = sum_to_same g f n (λ j l. h j (λ x. omega (arith, e.0))) in
      let b : f n ≡ f i = ap f e.0 in
      let c : g n ≡ g i = ap g e.0 in
      omega arith
  | inr e ↦
      let a : sum_to g n + f i ≡ sum_to f n + g i = sum_to_changed f g n i (absurd_or n i lt e.0) h in
      let b : g n ≡ f n = h n e.0 in
      omega arith
]
  where
    absurd_or : (n i : ℕ) → i < suc n → (n ≡ i → ⊥) → i < n
    absurd_or n i lt e = omega arith

pub sum_to_one : (f : ℕ → ℕ) (n i : ℕ) → i < n → f i ≤ sum_to f n
sum_to_one f zero i lt = absurd (omega arith)
sum_to_one f (suc n) i lt = elim (same_or_not n i) [
  | inl e ↦ let b : f n ≡ f i = ap f e.0 in omega arith
  | inr e ↦ let h : n ≡ i → ⊥ = e.0 in let a : f i ≤ sum_to f n = sum_to_one f n i (omega arith) in omega arith
]

pub sum_to_two : (f : ℕ → ℕ) (n i j : ℕ) → (i ≡ j → ⊥) → i < n → j < n → f i + f j ≤ sum_to f n
sum_to_two f zero i j ne lt lt' = absurd (omega arith)
sum_to_two f (suc n) i j ne lt lt' = elim (same_or_not n i) [
  | inl e ↦ let b : f n ≡ f i = ap f e.0 in let h : n ≡ i = e.0 in let a : f j ≤ sum_to f n = sum_to_one f n j (omega arith) in omega arith
  | inr e ↦ let h : n ≡ i → ⊥ = e.0 in elim (same_or_not n j) [
    | inl d ↦ let b : f n ≡ f j = ap f d.0 in let k : n ≡ j = d.0 in let a : f i ≤ sum_to f n = sum_to_one f n i (omega arith) in omega arith
    | inr d ↦ let k : n ≡ j → ⊥ = d.0 in let a : f i + f j ≤ sum_to f n = sum_to_two f n i j ne (omega arith) (omega arith) in omega arith
  ]
]

abbrev pub sum_over : {A : Type 0} → (A → ℕ) → List A → ℕ
sum_over f [] = 0
sum_over f (x ∷ xs) = f x + sum_over f xs

pub sum_over-append : {A : Type 0} (f : A → ℕ) (xs ys : List A) → sum_over f (xs ++ ys) ≡ sum_over f xs + sum_over f ys
sum_over-append f [] ys = omega arith
sum_over-append f (x ∷ xs) ys = let h : sum_over f (xs ++ ys) ≡ sum_over f xs + sum_over f ys = sum_over-append f xs ys in omega arith

pub sum_over-cut : {A : Type 0} (f : A → ℕ) (n : ℕ) (xs : List A) → sum_over f (take n xs) + sum_over f (drop n xs) ≡ sum_over f xs
sum_over-cut f zero xs = omega arith
sum_over-cut f (suc n) [] = refl
sum_over-cut f (suc n) (x ∷ xs) = let h : sum_over f (take n xs) + sum_over f (drop n xs) ≡ sum_over f xs = sum_over-cut f n xs in omega arith

-- the list without its k-th member, by recursion
less : {A : Type 0} → ℕ → List A → List A
less k [] = []
less zero (x ∷ xs) = xs
less (suc k) (x ∷ xs) = x ∷ less k xs

without_is : {A : Type 0} (k : ℕ) (xs : List A) → without k xs ≡ less k xs
unfolding less
without_is zero [] = refl
without_is (suc k) [] = refl
without_is zero (x ∷ xs) = refl
without_is (suc k) (x ∷ xs) = ap (λ ys. x ∷ ys) (without_is k xs)

sum_over-less : {A : Type 0} (f : A → ℕ) (k : ℕ) (xs : List A) (r : A) → slice_get xs k ≡ Some r → sum_over f (less k xs) + f r ≡ sum_over f xs
unfolding less
sum_over-less f k [] r e = absurd (cc)
sum_over-less f zero (x ∷ xs) r e = let h : f x ≡ f r = cc in omega arith
sum_over-less f (suc k) (x ∷ xs) r e = let h : sum_over f (less k xs) + f r ≡ sum_over f xs = sum_over-less f k xs r e in omega arith

pub sum_over-without : {A : Type 0} (f : A → ℕ) (k : ℕ) (xs : List A) (r : A) → slice_get xs k ≡ Some r → sum_over f (without k xs) + f r ≡ sum_over f xs
sum_over-without f k xs r e =
    let a : sum_over f (without k xs) ≡ sum_over f (less k xs) = ap (sum_over f) (without_is k xs) in
    let h : sum_over f (less k xs) + f r ≡ sum_over f xs = sum_over-less f k xs r e in
    omega arith

pub sum_over_one : {A : Type 0} (f : A → ℕ) (k : ℕ) (xs : List A) (r : A) → slice_get xs k ≡ Some r → f r ≤ sum_over f xs
sum_over_one f k xs r e = let h : sum_over f (without k xs) + f r ≡ sum_over f xs = sum_over-without f k xs r e in omega arith

-- P of each
abbrev pub Each : {A : Type 0} → (A → Type 0) → List A → Type 0
Each P [] = Unit {0}
Each P (x ∷ xs) = P x × Each P xs

pub Each-append : {A : Type 0} (P : A → Type 0) (xs ys : List A) → Each P xs → Each P ys → Each P (xs ++ ys)
Each-append P [] ys a b = b
Each-append P (x ∷ xs) ys a b = (a.0, Each-append P xs ys a.1 b)

pub Each-take : {A : Type 0} (P : A → Type 0) (n : ℕ) (xs : List A) → Each P xs → Each P (take n xs)
Each-take P zero xs a = tt
Each-take P (suc n) [] a = tt
Each-take P (suc n) (x ∷ xs) a = (a.0, Each-take P n xs a.1)

pub Each-drop : {A : Type 0} (P : A → Type 0) (n : ℕ) (xs : List A) → Each P xs → Each P (drop n xs)
Each-drop P zero xs a = a
Each-drop P (suc n) [] a = tt
Each-drop P (suc n) (x ∷ xs) a = Each-drop P n xs a.1

Each-less : {A : Type 0} (P : A → Type 0) (n : ℕ) (xs : List A) → Each P xs → Each P (less n xs)
unfolding less
Each-less P n [] a = tt
Each-less P zero (x ∷ xs) a = a.1
Each-less P (suc n) (x ∷ xs) a = (a.0, Each-less P n xs a.1)

pub Each-without : {A : Type 0} (P : A → Type 0) (n : ℕ) (xs : List A) → Each P xs → Each P (without n xs)
Each-without P n xs a = subst (λ ys. Each P ys) (sym (without_is n xs)) (Each-less P n xs a)

pub Each-get : {A : Type 0} (P : A → Type 0) (k : ℕ) (xs : List A) (r : A) → slice_get xs k ≡ Some r → Each P xs → P r
Each-get P k [] r e a = absurd (cc)
Each-get P zero (x ∷ xs) r e a = let h : x ≡ r = cc in subst P h a.0
Each-get P (suc k) (x ∷ xs) r e a = Each-get P k xs r e a.1

-- a sum over what members carry
pub sum_over-map : {A : Type 0} {B : Type 0} (f : B → ℕ) (g : A → B) (xs : List A) → sum_over (λ x. f (g x)) xs ≡ sum_over f (map g xs)
sum_over-map f g [] = refl
sum_over-map f g (x ∷ xs) = let h : sum_over (λ x. f (g x)) xs ≡ sum_over f (map g xs) = sum_over-map f g xs in omega arith

pub Each-map : {A : Type 0} {B : Type 0} (P : B → Type 0) (g : A → B) (xs : List A) → Each P (map g xs) → Each (λ x. P (g x)) xs
Each-map P g [] a = tt
Each-map P g (x ∷ xs) a = (a.0, Each-map P g xs a.1)
