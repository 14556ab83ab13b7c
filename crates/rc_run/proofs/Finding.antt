-- Pending requests that are found, one after another.
use Rattle.std.proofs.Common.{◌≡◌, ℕ, ◌+◌, ◌<◌, ◌≤◌, inl, inr, Bool, true, false, not, cond, List, ◌∷◌, drop, filter, get_or, length, Some, slice_get, refl, sym, ap, ◌∙◌, arith}
use Rattle.std.proofs.lemmas.Bool.{cases_lt}
use Rattle.std.proofs.lemmas.List.{drop_more}
use Rattle.std.proofs.lemmas.Option.{same_Some, slice_get-get_or, slice_get_within}
use Rattle.rc_lang.specs.declared.request.Request.{Request}
use Rattle.rc_run.specs.declared.machine.Pending.{Pending}
use Rattle.rc_run.specs.Lives.{IsPendingAt}

pub not_false : (b c : Bool) → c ≡ not b → c ≡ false → b ≡ true
not_false true c e f = refl
not_false false c e f = absurd (cc)

-- the first of those that are left and pass is the one here
pub found_here : (test : Pending → Bool) (xs : List Pending) (k left n : ℕ) (x : Pending) → k < length xs → x ≡ get_or xs k x → test x ≡ true → left ≡ 0
    → slice_get (filter test (drop k xs)) left ≡ slice_get (filter test xs) n → slice_get xs k ≡ slice_get (filter test xs) n
found_here test xs k left n x lt at passes none kept =
    let rest = drop (k + 1) xs in
    let next : drop k xs ≡ x ∷ rest = drop_more xs k x lt ∙ ap (λ (y : Pending). y ∷ rest) (sym at) in
    slice_get-get_or xs k x lt ∙ ap Some (sym at)
    ∙ sym (ap (λ (ys : List Pending). slice_get ys 0) (ap (filter test) next ∙ ap (λ b. cond b (x ∷ filter test rest) (filter test rest)) passes))
    ∙ sym (ap (λ m. slice_get (filter test (drop k xs)) m) none) ∙ kept

-- not here either
pub not_pending_more : (xs : List Pending) (r : Request) (k : ℕ) (x : Pending) → k < length xs → x ≡ get_or xs k x → (x.request ≡ r → ⊥) → ((j : ℕ) → j < k → IsPendingAt xs r j → ⊥)
    → (j : ℕ) → j < k + 1 → IsPendingAt xs r j → ⊥
not_pending_more xs r k x lt at other before j le a = elim (cases_lt j k) [
  | inl less ↦ before j less a
  | inr more ↦
      let same : j ≡ k = omega arith in
      let one : x ≡ a.part = same_Some x a.part (sym (slice_get-get_or xs k x lt ∙ ap Some (sym at)) ∙ (ap (slice_get xs) (sym same) ∙ a.here)) in
      other (ap (λ (y : Pending). y.request) one ∙ a.same)
]

pub pending_nowhere : (xs : List Pending) (r : Request) (n : ℕ) → length xs ≤ n → ((j : ℕ) → j < n → IsPendingAt xs r j → ⊥) → (k : ℕ) → IsPendingAt xs r k → ⊥
pending_nowhere xs r n le before k a =
    let lt : k < length xs = slice_get_within xs k a.part a.here in
    before k (omega (arith, lt, le)) a
