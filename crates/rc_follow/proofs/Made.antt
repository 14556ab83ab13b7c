-- A line whose call was made before.
use Rattle.std.proofs.Common.{◌≡◌, ℕ, ◌≤◌, ◌+◌, Bool, true, false, true≢false, List, ◌++◌, length, Some, sym, ap, ◌∙◌, append-nil, arith, inl, inr}
use Rattle.std.proofs.lemmas.List.{set-get_or}
use Rattle.std.proofs.lemmas.Option.{slice_get_cases}
use Rattle.std.proofs.Math.ListN.{get_or-eq_default, set}
use Rattle.std.proofs.Math.Nat.{sub-eq-zero_of_le}
use Rattle.std.specs.Prelude.{replicate, slice_index_or}
use Rattle.rc_lang.specs.declared.lines.Line.{Line}
use Rattle.rc_follow.specs.Ways.{Way, made_by, with_made}

pub made_again : (number : ℕ) (made : List Bool) → slice_index_or made number false ≡ true → with_made number made ≡ made
made_again number made h = elim (slice_get_cases made number).1 [
  | inl at ↦
      let le : number + 1 ≤ length made = omega (arith, at.1) in
      ap (λ (k : ℕ). set (made ++ replicate k false) number true) (sub-eq-zero_of_le le)
      ∙ ap (λ (l : List Bool). set l number true) (append-nil made)
      ∙ ap (λ (b : Bool). set made number b) (sym h)
      ∙ set-get_or made number false
  | inr past ↦ absurd (true≢false (sym h ∙ get_or-eq_default made false past.0))
]

pub noted_again : (w : Way) (line : Line) (is : Bool) → is ≡ slice_index_or w.made line.number false → is ≡ true → w ≡ record w { made = made_by (Some line) w.made }
noted_again w line is e t = sym (ap (λ (made : List Bool). record w { made = made }) (made_again line.number w.made (sym e ∙ t)))
