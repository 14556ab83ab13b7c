-- Bytes that spell entries, in a list.
use Rattle.std.proofs.Common.{◌≡◌, ℕ, List, Some, subst}
use Rattle.std.specs.Prelude.{slice_get, All}
use Rattle.std.proofs.lemmas.Option.{get_or_from_slice_get, slice_get_within}
use Rattle.rc_ring.specs.Spelled.{IsSpelling}

-- the bytes at a place, of a list that spells entries alone
pub IsSpelling-get : (bs : List (List ℕ)) (i : ℕ) (b : List ℕ) → All IsSpelling bs → slice_get bs i ≡ Some b → IsSpelling b
IsSpelling-get bs i b all is =
    subst (λ (x : List ℕ). IsSpelling x) (get_or_from_slice_get bs i b b is) (all i b (slice_get_within bs i b is))
