-- What is known at a point of a thread, and when one label says less than another.
use Rattle.std.specs.Prelude.{ℕ, ◌≡◌, ◌≢◌, ◌≤◌, List, [], ◌∷◌, Option, Some, None}
use Rattle.rc_rules.specs.declared.mode.Mode.{Mode}
use Rattle.rc_rules.specs.declared.mode.Peeked.{Peeked}
use Rattle.rc_rules.specs.declared.mode.Peeked.TheVariants.{Unseen, Got}
use Rattle.rc_rules.specs.declared.mode.Submitting.{Submitting}
use Rattle.rc_split.specs.Bags.{Part, IsWithin, IsSameBag}

-- Nothing reaches a dead point. At a live one the thread holds a bag, and each lock or not.
pub data Label : Type 0 where
  Dead : Label
  Live : (bag : Part → ℕ) → Mode → Label

-- A lock is held in both, and this is so of what is known under it; or it is held in neither.
abbrev pub UnderLock : {A : Type 0} → (A → A → Type 0) → Option A → Option A → Type 0
UnderLock F None None = Unit {0}
UnderLock F None (Some t) = ⊥
UnderLock F (Some s) None = ⊥
UnderLock F (Some s) (Some t) = F s t

-- At most so many entries are queued, and the slot is at this stage.
pub record WeakerSubmitting (s t : Submitting) : Type 0 where
  pub queued : t.queued ≤ s.queued
  pub slot : s.slot ≡ t.slot

-- What is peeked is the same, or isn't known; but that its request was reaped is always known.
pub data WeakerPeeked (s t : Peeked) : Type 0 where
  Same : s ≡ t → WeakerPeeked s t
  Unknown : s ≡ Unseen → t ≢ Got → WeakerPeeked s t

abbrev pub WeakerMode : Mode → Mode → Type 0
WeakerMode m n = UnderLock WeakerSubmitting m.sq n.sq × UnderLock WeakerPeeked m.cq n.cq

-- The first label says no more than the second. Dead is the strongest.
abbrev pub Weaker : Label → Label → Type 0
Weaker s Dead = Unit {0}
Weaker Dead (Live b n) = ⊥
Weaker (Live a m) (Live b n) = IsWithin a b × WeakerMode m n

abbrev pub WeakerThanEach : Label → List Label → Type 0
WeakerThanEach s [] = Unit {0}
WeakerThanEach s (t ∷ ts) = Weaker s t × WeakerThanEach s ts

-- The label says as much as is true wherever one comes from.
pub record IsStrongest (s : Label) (ts : List Label) : Type 0 where
  pub weaker : WeakerThanEach s ts
  pub strongest : (t : Label) → WeakerThanEach t ts → Weaker t s

-- The labels are the same at each part.
abbrev pub IsSame : Label → Label → Type 0
IsSame Dead Dead = Unit {0}
IsSame Dead (Live b n) = ⊥
IsSame (Live a m) Dead = ⊥
IsSame (Live a m) (Live b n) = IsSameBag a b × (m ≡ n)
