-- An item that is made again and again.
use Rattle.std.proofs.Common.{◌≡◌, ℕ, zero, suc, Bool, true, false, if◌then◌else◌, List, [], ◌∷◌, ◌++◌, Option, Some, None, refl, sym, ap, subst, ◌∙◌, append_assoc, append-nil}
use Rattle.std.specs.Prelude.{option_and_then}
use Rattle.rc_world.specs.declared.event.Item.{Item}
use Rattle.rc_world.specs.Machine.{World}
use Rattle.rc_runs.specs.Spelling.{after_step, in_next, steps_until, world_after}

ends_at : (is_end : World → Bool) (item : Item) (n : ℕ) (w : World) → is_end w ≡ true → steps_until is_end item n w ≡ []
unfolding steps_until
ends_at is_end item zero w e = refl
ends_at is_end item (suc n) w e = ap (λ (b : Bool). if b then [] else item ∷ in_next (steps_until is_end item n) (after_step w item)) e

pub no_steps : (is_end : World → Bool) (item : Item) (w : World) → steps_until is_end item 0 w ≡ []
unfolding steps_until
no_steps is_end item w = refl

goes : (is_end : World → Bool) (item : Item) (n : ℕ) (w : World) → is_end w ≡ false → steps_until is_end item (suc n) w ≡ item ∷ in_next (steps_until is_end item n) (after_step w item)
unfolding steps_until
goes is_end item n w e = ap (λ (b : Bool). if b then [] else item ∷ in_next (steps_until is_end item n) (after_step w item)) e

in_no_next : (is_end : World → Bool) (item : Item) (next : Option World) → in_next (steps_until is_end item 0) next ≡ []
in_no_next is_end item None = refl
in_no_next is_end item (Some w) = no_steps is_end item w

-- once is the item alone
pub once_is : (is_end : World → Bool) (item : Item) (w : World) → is_end w ≡ false → steps_until is_end item 1 w ≡ item ∷ []
once_is is_end item w e = goes is_end item 0 w e ∙ ap (λ (xs : List Item). item ∷ xs) (in_no_next is_end item (after_step w item))

-- ---- the items so far, and the world that they lead to

-- After these items, in this world, there are so many steps left of those that began there.
pub record IsAlong (is_end : World → Bool) (item : Item) (first : World) (before : List Item) (most : ℕ) (w : World) (made : List Item) (left : ℕ) : Type 0 where
  pub items : made ++ steps_until is_end item left w ≡ before ++ steps_until is_end item most first
  pub world : world_after w (steps_until is_end item left w) ≡ world_after first (steps_until is_end item most first)

pub begins : (is_end : World → Bool) (item : Item) (w : World) (items : List Item) (n : ℕ) → IsAlong is_end item w items n w items n
begins is_end item w items n = record { items = refl; world = refl }

on_by : (is_end : World → Bool) (item : Item) (first : World) (before : List Item) (most : ℕ) (w next : World) (items : List Item) (n : ℕ) → is_end w ≡ false → after_step w item ≡ Some next →
    IsAlong is_end item first before most w items (suc n) → IsAlong is_end item first before most next (items ++ item ∷ []) n
on_by is_end item first before most w next items n e s h =
    let spelled : steps_until is_end item (suc n) w ≡ item ∷ steps_until is_end item n next = goes is_end item n w e ∙ ap (λ (o : Option World). item ∷ in_next (steps_until is_end item n) o) s in
    let made : world_after w (item ∷ steps_until is_end item n next) ≡ world_after next (steps_until is_end item n next) = ap (option_and_then (λ (v : World). world_after v (steps_until is_end item n next))) s in
    record {
      items = append_assoc items (item ∷ []) (steps_until is_end item n next) ∙ sym (ap (λ (xs : List Item). items ++ xs) spelled) ∙ h.items;
      world = sym made ∙ sym (ap (world_after w) spelled) ∙ h.world;
    }

pub steps_on : (is_end : World → Bool) (item : Item) (first : World) (before : List Item) (most : ℕ) (w next : World) (items new : List Item) (left n : ℕ) → left ≡ suc n → is_end w ≡ false → after_step w item ≡ Some next → new ≡ items ++ item ∷ [] →
    IsAlong is_end item first before most w items left → IsAlong is_end item first before most next new n
steps_on is_end item first before most w next items new left n is e s more h =
    rw more (on_by is_end item first before most w next items n e s (subst (λ (k : ℕ). IsAlong is_end item first before most w items k) is h))

-- what becomes of the items and of the world in the end
pub record HasRun (is_end : World → Bool) (item : Item) (first : World) (before : List Item) (most : ℕ) (after : Option World) (made : List Item) : Type 0 where
  pub items : made ≡ before ++ steps_until is_end item most first
  pub world : world_after first (steps_until is_end item most first) ≡ after

stops : (is_end : World → Bool) (item : Item) (first : World) (before : List Item) (most : ℕ) (w : World) (items : List Item) (n : ℕ) → steps_until is_end item n w ≡ [] →
    IsAlong is_end item first before most w items n → HasRun is_end item first before most (Some w) items
stops is_end item first before most w items n e h = record {
  items = sym (append-nil items) ∙ sym (ap (λ (xs : List Item). items ++ xs) e) ∙ h.items;
  world = sym h.world ∙ ap (world_after w) e;
}

pub stops_there : (is_end : World → Bool) (item : Item) (first : World) (before : List Item) (most : ℕ) (w : World) (items : List Item) (n : ℕ) → is_end w ≡ true →
    IsAlong is_end item first before most w items n → HasRun is_end item first before most (Some w) items
stops_there is_end item first before most w items n e h = stops is_end item first before most w items n (ends_at is_end item n w e) h

pub stops_after_all : (is_end : World → Bool) (item : Item) (first : World) (before : List Item) (most : ℕ) (w : World) (items : List Item) (left : ℕ) → left ≡ 0 →
    IsAlong is_end item first before most w items left → HasRun is_end item first before most (Some w) items
stops_after_all is_end item first before most w items left none h =
    stops is_end item first before most w items left (ap (λ (k : ℕ). steps_until is_end item k w) none ∙ no_steps is_end item w) h

fails_by : (is_end : World → Bool) (item : Item) (first : World) (before : List Item) (most : ℕ) (w : World) (items : List Item) (n : ℕ) → is_end w ≡ false → after_step w item ≡ None →
    IsAlong is_end item first before most w items (suc n) → HasRun is_end item first before most None (items ++ item ∷ [])
fails_by is_end item first before most w items n e s h =
    let spelled : steps_until is_end item (suc n) w ≡ item ∷ [] = goes is_end item n w e ∙ ap (λ (o : Option World). item ∷ in_next (steps_until is_end item n) o) s in
    let made : world_after w (item ∷ []) ≡ None = ap (option_and_then (λ (v : World). world_after v [])) s in
    record {
      items = sym (ap (λ (xs : List Item). items ++ xs) spelled) ∙ h.items;
      world = sym h.world ∙ ap (world_after w) spelled ∙ made;
    }

pub fails_there : (is_end : World → Bool) (item : Item) (first : World) (before : List Item) (most : ℕ) (w : World) (items new : List Item) (left n : ℕ) → left ≡ suc n → is_end w ≡ false → after_step w item ≡ None → new ≡ items ++ item ∷ [] →
    IsAlong is_end item first before most w items left → HasRun is_end item first before most None new
fails_there is_end item first before most w items new left n is e s more h =
    rw more (fails_by is_end item first before most w items n e s (subst (λ (k : ℕ). IsAlong is_end item first before most w items k) is h))
