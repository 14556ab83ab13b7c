-- Buffers that are Vecs in the code.
use Rattle.std.proofs.Common.{ℕ, zero, suc, ◌<◌, List, [], ◌∷◌, length, map, Option, Some, None, IsSome, refl, subst, slice_index_or, arith}
use Rattle.std.specs.Global.{Vec}
use Rattle.std.proofs.lemmas.List.{length-map}
use Rattle.rc_world.specs.Machine.{World, fills, stores}
use Rattle.rc_world.specs.WorldParts.{view_bytes}

-- what is there is in its place
pub present : {A : Type 0} (xs : List (Option A)) (i : ℕ) → IsSome (slice_index_or xs i None) → i < length xs
present [] i h = absurd (cc)
present (x ∷ xs) zero h = omega arith
present (x ∷ xs) (suc i) h = let lt : i < length xs = present xs i h in omega arith

pub stores_some : (w : World) (b i byte : ℕ) (o : Option (List ℕ)) → IsSome (stores w b i byte o) → IsSome o
stores_some w b i byte None h = absurd (cc)
stores_some w b i byte (Some bytes) h = refl

pub fills_some : (w : World) (b byte : ℕ) (o : Option (List ℕ)) → IsSome (fills w b byte o) → IsSome o
fills_some w b byte None h = absurd (cc)
fills_some w b byte (Some bytes) h = refl

pub index_there : (items : List (Option (Vec ℕ))) (b : ℕ) → IsSome (slice_index_or (map view_bytes items) b None) → b < length items
index_there items b h = subst (λ n. b < n) (length-map items view_bytes) (present (map view_bytes items) b h)
