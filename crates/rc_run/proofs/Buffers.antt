-- Buffers in the code, and those of the world.
use Rattle.std.proofs.Common.{◌≡◌, ℕ, Bool, true, false, if◌then◌else◌, List, get_or, length, map, replicate, set, Option, Some, None, IsSome, refl, sym, ap, ◌∙◌, subst, nat_lt, slice_index_or, slice_set}
use Rattle.std.specs.Global.{Vec}
use Rattle.std.specs.Vec.{with_item}
use Rattle.std.proofs.lemmas.List.{get_or-map, map-set}
use Rattle.rc_world.specs.Machine.{World, bytes_of, fills, stores, with_bytes}
use Rattle.rc_world.specs.WorldParts.{view_bytes}
use Rattle.rc_world.proofs.Writing.{fills_some, index_there, stores_some}

module _ (w : World) (items : List (Option (Vec ℕ))) (here : w.buffers ≡ map view_bytes items) (b : ℕ) (r : Option (Vec ℕ)) (bytes : Vec ℕ) (at : r ≡ get_or items b r) (is : r ≡ Some bytes) where
  there : IsSome (bytes_of w b) → bytes_of w b ≡ Some bytes.items
  there some =
      let lt = index_there items b (subst (λ bs. IsSome (slice_index_or bs b None)) here some) in
      ap (λ bs. slice_index_or bs b None) here ∙ get_or-map view_bytes items b r None lt ∙ ap view_bytes (sym at) ∙ ap view_bytes is

  changed : (new : Vec ℕ) → slice_set w.buffers b (Some new.items) ≡ map view_bytes (set items b (Some new))
  changed new = ap (λ bs. slice_set bs b (Some new.items)) here ∙ sym (map-set view_bytes items b (Some new))

  within : (i byte : ℕ) (t : Bool) → nat_lt i (length bytes.items) ≡ t → IsSome (if t then Some (with_bytes w b (slice_set bytes.items i byte)) else None) → t ≡ true
  within i byte true e h = refl
  within i byte false e h = absurd (cc)

  pub stored : (i byte : ℕ) → IsSome (stores w b i byte (bytes_of w b))
      → stores w b i byte (bytes_of w b) ≡ Some (record w { buffers = map view_bytes (set items b (Some (with_item bytes i byte))) })
  stored i byte h =
      let known = there (stores_some w b i byte (bytes_of w b) h) in
      let lt = within i byte _ refl (subst IsSome (ap (stores w b i byte) known) h) in
      ap (stores w b i byte) known
      ∙ ap (λ t. if t then Some (with_bytes w b (slice_set bytes.items i byte)) else None) lt
      ∙ ap (λ bs. Some (record w { buffers = bs })) (changed (with_item bytes i byte))

  pub filled : (byte : ℕ) (new : Vec ℕ) → new.items ≡ replicate (length bytes.items) byte → IsSome (fills w b byte (bytes_of w b))
      → fills w b byte (bytes_of w b) ≡ Some (record w { buffers = map view_bytes (set items b (Some new)) })
  filled byte new e h =
      let known = there (fills_some w b byte (bytes_of w b) h) in
      ap (fills w b byte) known
      ∙ ap (λ bs. Some (with_bytes w b bs)) (sym e)
      ∙ ap (λ bs. Some (record w { buffers = bs })) (changed new)
