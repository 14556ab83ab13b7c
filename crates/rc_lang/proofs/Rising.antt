-- Numbers that rise: of a list of which that can be tested, and with a higher one after them.
use Rattle.std.proofs.Common.{◌≡◌, ℕ, zero, suc, ◌+◌, ◌<◌, Bool, true, ◌&&◌, ltb, List, [], ◌∷◌, ◌++◌, length, length-append, get_or, All, add-one, inl, inr, arith}
use Rattle.std.specs.List.Sorted.{IsStrictlyIncreasing}
use Rattle.std.proofs.lemmas.Bool.{and_parts, cases_lt, ltb-true}
use Rattle.std.proofs.lemmas.List.{get_or_append_left, get_or_push}

abbrev pub rises : List ℕ → Bool
rises [] = true
rises (a ∷ []) = true
rises (a ∷ b ∷ ns) = ltb a b && rises (b ∷ ns)

pub by_test : (ns : List ℕ) → rises ns ≡ true → IsStrictlyIncreasing ns
by_test [] h k lt = absurd (omega arith)
by_test (a ∷ []) h k lt = absurd (omega arith)
by_test (a ∷ b ∷ ns) h zero lt = ltb-true a b (and_parts (ltb a b) (rises (b ∷ ns)) h).0
by_test (a ∷ b ∷ ns) h (suc k) lt =
    let more : get_or (b ∷ ns) k 0 < get_or (b ∷ ns) (k + 1) 0 = by_test (b ∷ ns) (and_parts (ltb a b) (rises (b ∷ ns)) h).1 k (omega arith) in
    rw (add-one (suc k)) (rw add-one at more)

pub rises_more : (ns : List ℕ) (n : ℕ) → IsStrictlyIncreasing ns → All (λ m. m < n) ns → IsStrictlyIncreasing (ns ++ n ∷ [])
rises_more ns n is below k lt =
    let e : length (ns ++ n ∷ []) ≡ length ns + 1 = length-append ns (n ∷ []) in
    let here : get_or (ns ++ n ∷ []) k 0 ≡ get_or ns k 0 = get_or_append_left ns (n ∷ []) 0 k (omega arith) in
    elim (cases_lt (k + 1) (length ns)) [
      | inl old ↦ rw (here, get_or_append_left ns (n ∷ []) 0 (k + 1) old) (is k old)
      | inr new ↦ rw (here, get_or_push ns n 0 (k + 1) (omega arith)) (below k 0 (omega arith))
    ]
