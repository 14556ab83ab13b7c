-- How a line is cut at its first blank.
use Rattle.std.proofs.Common.{◌≡◌, ℕ, zero, suc, ◌+◌, ◌-◌, ◌<◌, ◌≤◌, ◌⊎◌, inl, inr, List, [], ◌∷◌, length, take, drop, get_or, false, refl, ap, sym, ◌∙◌, arith}
use Rattle.std.specs.List.{position_or_len, slice_split, All}
use Rattle.std.proofs.Math.Nat.{eq-or-lt_of_le}
use Rattle.std.proofs.lemmas.List.{drop_all, drop_more, get_or-drop, take_all}
use Rattle.std.proofs.lemmas.List.Splits.{slice_split_first, slice_split_none}
use Rattle.std.proofs.lemmas.List.Sums.{fails_before_first}
use Rattle.rc_log.specs.Cuts.{words_after}
use Rattle.rc_log.specs.Said.{is_blank, words_of}

at_blank : (line : List ℕ) (end : ℕ) → end ≡ position_or_len is_blank line → end < length line → words_of line ≡ take end line ∷ words_after (drop end line)
at_blank line end e lt =
    rw (drop_more line end 0 lt) (rw e (slice_split_first is_blank line 0 (omega (arith, e, lt))))

without_blank : (line : List ℕ) (end : ℕ) → end ≡ position_or_len is_blank line → length line ≤ end → words_of line ≡ take end line ∷ words_after (drop end line)
without_blank line end e le =
    rw (take_all end line le, drop_all end line le) (slice_split_none is_blank line (λ k d lt. fails_before_first is_blank line k d (omega (arith, e, le, lt))))

pub is_cut : (line : List ℕ) (end : ℕ) → end ≡ position_or_len is_blank line → end ≤ length line → words_of line ≡ take end line ∷ words_after (drop end line)
is_cut line end e le = elim (eq-or-lt_of_le le) [
  | inl at ↦ without_blank line end e (omega (arith, at))
  | inr lt ↦ at_blank line end e lt
]

-- ---- the words of a line, by their numbers

pub word_here : (ws : List (List ℕ)) (k n : ℕ) (w : List ℕ) (rest : List (List ℕ)) → w ∷ rest ≡ drop k ws → k ≡ n → w ≡ get_or ws n []
word_here ws k n w rest e at = ap (λ v. get_or v 0 []) e ∙ get_or-drop k ws 0 [] ∙ ap (λ i. get_or ws i []) (omega (arith, at))

past : (w : List ℕ) (m : ℕ) → 0 < m → get_or (w ∷ []) m [] ≡ []
past w zero lt = absurd (omega (arith, lt))
past w (suc m) lt = refl

pub no_word_here : (ws : List (List ℕ)) (k n : ℕ) (w : List ℕ) → w ∷ [] ≡ drop k ws → k < n → [] ≡ get_or ws n []
no_word_here ws k n w e lt =
    sym (past w (n - k) (omega (arith, lt))) ∙ ap (λ v. get_or v (n - k) []) e ∙ get_or-drop k ws (n - k) [] ∙ ap (λ i. get_or ws i []) (omega (arith, lt))
