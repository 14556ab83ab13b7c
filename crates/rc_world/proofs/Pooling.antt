-- A put, and an if that may take from the pool.
use Rattle.std.proofs.Common.{ℕ, ◌≡◌, ◌<◌, ◌≤◌, Bool, true, false, if◌then◌else◌, List, length, map, get_or, Option, Some, None, IsSome, refl, sym, ap, subst, ◌∙◌, arith}
use Rattle.std.proofs.lemmas.List.{get_or-map, get_or_past, length-map}
use Rattle.rc_lang.specs.declared.program.Items.{Items as ItemsPart}
use Rattle.rc_lang.specs.Parts.{view_items}
use Rattle.rc_lang.specs.Program.{Items, Program, items_at, no_items}
use Rattle.rc_split.specs.Pools.{all_pooled, overfills, put_into}
use Rattle.rc_world.specs.declared.controls.Answer.{Answer}
use Rattle.rc_world.specs.declared.controls.Answer.TheVariants.{Plain, Number, Byte, Front}
use Rattle.rc_world.specs.declared.event.Action.TheVariants.{ItemsPut}
use Rattle.rc_world.specs.Changes.{standing_at, with_pools}
use Rattle.rc_world.specs.Controls.{Controls, Move, goes_on, made, plainly, puts_items}

-- ---- the list with this number

pub within_parts : (parts : List ItemsPart) (lists : List Items) (k : ℕ) → map view_items parts ≡ lists → k < length lists → k < length parts
within_parts parts lists k e lt = subst (λ n. k < n) (sym (sym (length-map parts view_items) ∙ ap (λ (xs : List Items). length xs) e)) lt

pub part_is : (parts : List ItemsPart) (lists : List Items) (k : ℕ) (part : ItemsPart) → map view_items parts ≡ lists → k < length lists → part ≡ get_or parts k part → view_items part ≡ items_at lists k
part_is parts lists k part e lt is =
    ap view_items is ∙ sym (get_or-map view_items parts k part no_items (within_parts parts lists k e lt)) ∙ ap (λ (xs : List Items). items_at xs k) e

-- a number that names no list says no items
pub past_items : (parts : List ItemsPart) (lists : List Items) (k : ℕ) → map view_items parts ≡ lists → length parts ≤ k → items_at lists k ≡ no_items
past_items parts lists k e le =
    let many : length (map view_items parts) ≡ length parts = length-map parts view_items in
    let same : length (map view_items parts) ≡ length lists = ap (λ (xs : List Items). length xs) e in
    get_or_past lists k no_items (omega (arith, le, many, same))

-- ---- a put that has its step

pub plain_some : (m : Move) (a : Answer) → IsSome (plainly m a) → plainly m a ≡ Some m
plain_some m Plain h = refl
plain_some m (Number n) h = absurd (cc)
plain_some m (Byte b) h = absurd (cc)
plain_some m (Front cqe) h = absurd (cc)

room_if : (full : Bool) (m : Option Move) → IsSome (if full then None else m) → (full ≡ false) × IsSome m
room_if true m h = absurd (cc)
room_if false m h = (refl, h)

module _ (P : Program) (c : Controls) (i : ℕ) (pool : Option ℕ) (items : Items) (a : Answer) (some : IsSome (puts_items P c (standing_at c i) pool items a)) where
  abbrev put : Move
  put = record (goes_on c (standing_at c i) ItemsPut) { pools = put_into P pool items c.pools }

  pub has_room : overfills P (all_pooled P c.pools) items ≡ false
  has_room = (room_if (overfills P (all_pooled P c.pools) items) (plainly put a) some).0

  -- The thread goes on, in controls whose pools have the items.
  pub puts_is : (d : Controls) → d ≡ with_pools c (put_into P pool items c.pools) → made P c i (puts_items P c (standing_at c i) pool items a) ≡ made P d i (Some (goes_on d (standing_at d i) ItemsPut))
  puts_is d e =
      ap (λ b. made P c i (if b then None else plainly put a)) has_room
      ∙ ap (made P c i) (plain_some put a (room_if (overfills P (all_pooled P c.pools) items) (plainly put a) some).1)
      ∙ ap (λ (k : Controls). made P k i (Some (goes_on k (standing_at k i) ItemsPut))) (sym e)
