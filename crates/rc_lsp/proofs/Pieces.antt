-- Escapes that are repaired piece by piece.
use Rattle.std.proofs.Common.{◌≡◌, ◌<◌, ◌-◌, ◌+◌, ℕ, suc, List, ◌++◌, drop, arith, append_assoc, subst, ◌∙◌}
use Rattle.rc_lsp.specs.Escapes.{piece_length, repaired_in, repaired_piece}

-- One piece more is repaired.
pub piece_more : (count turn : ℕ) (rest next old new whole : List ℕ) → turn < count → new ≡ old ++ repaired_piece rest → next ≡ drop (piece_length rest) rest
    → old ++ repaired_in (count - turn) rest ≡ whole → new ++ repaired_in (count - (turn + 1)) next ≡ whole
piece_more count turn rest next old new whole lt made left done =
    let left_is : count - turn ≡ suc (count - (turn + 1)) = omega (arith, lt) in
    let step : old ++ (repaired_piece rest ++ repaired_in (count - (turn + 1)) (drop (piece_length rest) rest)) ≡ whole = subst (λ (n : ℕ). old ++ repaired_in n rest ≡ whole) left_is done in
    rw (made, left) (append_assoc old (repaired_piece rest) (repaired_in (count - (turn + 1)) (drop (piece_length rest) rest)) ∙ step)
