-- The pending request that the code removes.
use Rattle.std.proofs.Common.{◌≡◌, ℕ, ℤ, suc, ◌<◌, ◌≤◌, ◌++◌, IfSome, IsSome, List, drop, get_or, length, map, set, take, Option, Some, None, nat_eq, option_map, refl, sym, ap, ◌∙◌, subst, slice_get, arith}
use Rattle.std.specs.Global.{Vec}
use Rattle.std.specs.List.{position}
use Rattle.std.proofs.lemmas.List.{drop-set-lt, get_or-set_same, length-map, take-set}
use Rattle.std.proofs.lemmas.Option.{slice_get-get_or, slice_get-map}
use Rattle.rc_world.specs.declared.world.Pending.{Pending as PendingPart}
use Rattle.rc_world.specs.declared.world.World.TheInside.{Inside}
use Rattle.rc_world.specs.Faults.{has_data}
use Rattle.rc_world.specs.Items.{kernel_item, pending_place}
use Rattle.rc_world.specs.Machine.{Pending, World, without}
use Rattle.rc_world.specs.WorldParts.{view_bytes, view_pending, view_world}
use Rattle.rc_world.proofs.Lists.{position_map}

-- the place of a user data in a world is the one in the code
pub place_is : (u : Inside) (v : ℕ) → pending_place (view_world u) v ≡ position (λ (p : PendingPart). nat_eq p.request.user_data v) u.pending.items
place_is u v = position_map view_pending (λ (p : Pending). has_data v p.request) u.pending.items

pub removed_is : (u : Inside) (n : ℕ) (r : PendingPart) → n < length u.pending.items → r ≡ get_or u.pending.items n r → slice_get (view_world u).pending n ≡ Some (view_pending r)
removed_is u n r lt e = slice_get-map view_pending u.pending.items n ∙ ap (option_map view_pending) (slice_get-get_or u.pending.items n r lt ∙ ap Some (sym e))

-- what the code removes, where the bytes with it were changed before
pub removed_as : (items : List PendingPart) (n : ℕ) (p r : PendingPart) (bytes : Option (List ℕ)) → n < length items → r ≡ get_or (set items n (record p { bytes = bytes })) n r → r ≡ record p { bytes = bytes }
removed_as items n p r bytes lt e = e ∙ get_or-set_same items n (record p { bytes = bytes }) r lt

pub left_as : (items : List PendingPart) (n : ℕ) (p : PendingPart) → without n (set items n p) ≡ without n items
left_as items n p = ap (λ xs. xs ++ drop (suc n) (set items n p)) (take-set items n p) ∙ ap (λ xs. take n items ++ xs) (drop-set-lt (suc n) items n p (omega arith))

-- ---- what giving back its bytes asks

pub asks_place : (o given : Option (List ℕ)) (f : List ℕ → List ℕ) (b n : ℕ) → given ≡ option_map f o → ((stood : List ℕ) → o ≡ Some stood → b < n) → IfSome given (λ _. b < n)
asks_place None given f b n e h = subst (λ x. IfSome x (λ _. b < n)) (sym e) tt
asks_place (Some stood) given f b n e h = subst (λ x. IfSome x (λ _. b < n)) (sym e) (h stood refl)

pub asks_stood : (o : Option (List ℕ)) (n count : ℕ) → n ≡ count → ((stood : List ℕ) → o ≡ Some stood → count ≤ length stood) → IfSome o (λ (stood : List ℕ). n ≤ length stood)
asks_stood None n count e h = tt
asks_stood (Some stood) n count e h = subst (λ m. m ≤ length stood) (sym e) (h stood refl)

-- the same of bytes that are a Vec
pub asks_buffer : (bytes : Option (Vec ℕ)) (b : ℕ) (items : List (Option (Vec ℕ))) → ((stood : List ℕ) → view_bytes bytes ≡ Some stood → b < length (map view_bytes items)) → IfSome bytes (λ (v : Vec ℕ). b < length items)
asks_buffer None b items h = tt
asks_buffer (Some v) b items h = subst (λ n. b < n) (length-map items view_bytes) (h v.items refl)

pub asks_bytes : (bytes : Option (Vec ℕ)) (n count : ℕ) → n ≡ count → ((stood : List ℕ) → view_bytes bytes ≡ Some stood → count ≤ length stood) → IfSome bytes (λ (v : Vec ℕ). n ≤ length v.items)
asks_bytes None n count e h = tt
asks_bytes (Some v) n count e h = subst (λ m. m ≤ length v.items) (sym e) (h v.items refl)

pub no_item : (w : World) (res : ℤ) (fill : ℕ) (o : Option ℕ) → o ≡ None → IsSome (kernel_item w res fill o) → ⊥
no_item w res fill o e h = let g : IsSome (kernel_item w res fill None) = subst (λ x. IsSome (kernel_item w res fill x)) e h in absurd (cc)
