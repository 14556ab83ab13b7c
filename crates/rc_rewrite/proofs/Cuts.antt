-- Where a line can be cut around the items of a loop.
use Rattle.std.proofs.Common.{◌≡◌, ◌<◌, ◌≤◌, ◌-◌, ℕ, List, ◌∷◌, ◌++◌, false, length, take, drop, inl, inr, sym, subst, ◌∙◌, ap}
use Rattle.std.proofs.lemmas.Bool.{cases_lt}
use Rattle.std.proofs.lemmas.List.{drop-append-le, drop_all, take_rest}
use Rattle.std.proofs.Math.Seq.{take-append_seam}
use Rattle.rc_rewrite.specs.Inside.{OpensNoLoop}
use Rattle.rc_rewrite.specs.Keeps.{OpensLoop, has_byte}
use Rattle.rc_rewrite.proofs.Lines.{has_byte-rest}

-- No front that is shorter than this opens a loop.
abbrev pub NoneShorter : List ℕ → ℕ → Type 0
NoneShorter line n = (m : ℕ) → m < n → OpensLoop (take m line) → ⊥

-- the brace of a longer front is among the bytes behind this one
brace_behind : (n : ℕ) (before items behind : List ℕ) → n ≤ length before → has_byte 123 (drop n (before ++ (items ++ 123 ∷ behind))) ≡ false → ⊥
brace_behind n before items behind le none =
    let rest : has_byte 123 (drop n before ++ (items ++ 123 ∷ behind)) ≡ false = rw (drop-append-le n before (items ++ 123 ∷ behind) le) at none in
    let brace = has_byte-rest 123 items (123 ∷ behind) (has_byte-rest 123 (drop n before) (items ++ 123 ∷ behind) rest) in
    absurd cc

pub none_behind : (line : List ℕ) (n : ℕ) → NoneShorter line n → has_byte 123 (drop n line) ≡ false → OpensNoLoop line
none_behind line n shorter none = λ before items behind is.
    let front : take (length before) line ≡ before = ap (take (length before)) is.whole ∙ take-append_seam before (items ++ 123 ∷ behind) in
    elim (cases_lt (length before) n) [
      | inl less ↦ shorter (length before) less (subst OpensLoop (sym front) is.opens)
      | inr more ↦ brace_behind n before items behind more (subst (λ (x : List ℕ). has_byte 123 (drop n x) ≡ false) is.whole none)
    ]

-- the bytes behind the front as a slice has them
pub none_in_rest : (line : List ℕ) (n : ℕ) → NoneShorter line n → has_byte 123 (take (length line - n) (drop n line)) ≡ false → OpensNoLoop line
none_in_rest line n shorter none = none_behind line n shorter (subst (λ (x : List ℕ). has_byte 123 x ≡ false) (take_rest line n) none)

pub none_at_end : (line : List ℕ) (n : ℕ) → NoneShorter line n → length line ≤ n → OpensNoLoop line
none_at_end line n shorter le = none_behind line n shorter (ap (has_byte 123) (drop_all n line le))
