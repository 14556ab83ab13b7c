-- Where a token is found.
use Rattle.std.proofs.Common.{◌≡◌, ℕ, ◌<◌, false, List, length, map, Some, get_or, nat_eq, refl, sym, subst, arith}
use Rattle.std.specs.Prelude.{slice_index_or}
use Rattle.std.specs.List.{IsDistinct, position, position_or_len}
use Rattle.std.proofs.lemmas.Bool.{le-leb, eq-eqb}
use Rattle.std.proofs.lemmas.List.{get_or-map, length-map}
use Rattle.std.proofs.lemmas.List.Sums.{position_or_len_is}
use Rattle.std.proofs.lemmas.Map.Keys.{apart_from_distinct}
use Rattle.rc_lang.specs.declared.program.Token.{Token}
use Rattle.rc_lang.specs.Program.{Program, token_place}
use Rattle.rc_lang.specs.Kept.{IsProgram}

found_there : (tokens : List Token) (u k : ℕ) (d : Token) → IsDistinct nat_eq (map (λ (t : Token). t.user_data) tokens) → k < length tokens → (get_or tokens k d).user_data ≡ u → position (λ (t : Token). nat_eq t.user_data u) tokens ≡ Some k
found_there tokens u k d distinct lt e = rw (at, le-leb _ _ lt) refl
  where
    before : (j : ℕ) → j < k → nat_eq (get_or tokens j d).user_data u ≡ false
    before j l =
        let apart = apart_from_distinct nat_eq (map (λ (t : Token). t.user_data) tokens) j k d.user_data distinct l (rw (length-map tokens (λ (t : Token). t.user_data)) lt) in
        rw (get_or-map (λ (t : Token). t.user_data) tokens j d d.user_data (omega (arith, l, lt)), get_or-map (λ (t : Token). t.user_data) tokens k d d.user_data lt, e) at apart

    at : position_or_len (λ (t : Token). nat_eq t.user_data u) tokens ≡ k
    at = position_or_len_is (λ (t : Token). nat_eq t.user_data u) tokens k d (omega (arith, lt)) before (λ l. eq-eqb _ _ e)

-- Each user data is declared once, so the token that has it is the first.
pub found_at : (P : Program) (tokens : List Token) (u k : ℕ) (d : Token) → IsProgram P → tokens ≡ P.tokens → k < length tokens → (slice_index_or tokens k d).user_data ≡ u → Some k ≡ token_place P.tokens u
found_at P tokens u k d h e lt x = sym (found_there P.tokens u k d h.distinct_tokens (subst (λ (ts : List Token). k < length ts) e lt) (subst (λ (ts : List Token). (slice_index_or ts k d).user_data ≡ u) e x))
