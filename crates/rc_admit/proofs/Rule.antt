-- What the rules say of a live state, premise by premise, and of the state after a line.
use Rattle.std.proofs.Common.{◌≡◌, ℕ, ◌-◌, ◌<◌, ◌||◌, Bool, true, false, cond, nat_eq, List, [], ◌∷◌, Option, Some, None, refl, ap, subst, ◌⊎◌, inl, inr}
use Rattle.std.specs.Prelude.{is_some, nat_le, nat_lt, not, unwrap_or}
use Rattle.std.proofs.lemmas.Bool.{and_parts, ltb-true, or_cases}
use Rattle.rc_lang.specs.declared.lines.Stmt.TheVariants.{Put}
use Rattle.rc_lang.specs.Program.{Items, Program}
use Rattle.rc_rules.specs.declared.mode.Mode.{Mode}
use Rattle.rc_rules.specs.declared.mode.Slot.TheVariants.{Closed}
use Rattle.rc_rules.specs.declared.mode.Submitting.{Submitting}
use Rattle.rc_rules.specs.Labels.{Label, Dead, Live}
use Rattle.rc_rules.specs.Needs.{line_premises}
use Rattle.rc_rules.specs.Premises.{Premise, Is, IsMet, Meets}
use Rattle.rc_rules.specs.Room.{can_queue, few_credits, few_tokens}
use Rattle.rc_rules.specs.Rules.{if_locked, is_got, leave_needs, peeked_of, premises_of, release_needs, same_slot, sq_of, with_lock}
use Rattle.rc_split.specs.Bags.{Part, Credit, IsWithin, bag_of, begun, credits_given, lacking}

-- A claim of a live state; of a dead one nothing is claimed.
abbrev pub Claim : Type 1
Claim = (Part → ℕ) → Mode → Type 0

abbrev pub AtLive : Label → ((Part → ℕ) → Mode → Type 0) → Type 0
AtLive Dead K = Unit {0}
AtLive (Live b m) K = K b m

-- ---- premises by their numbers

abbrev pub numbered : ℕ → List (ℕ × Premise) → Premise
numbered v [] = Is true
numbered v (p ∷ ps) = cond (nat_eq p.0 v) p.1 (numbered v ps)

pub met : (v : ℕ) (ps : List (ℕ × Premise)) → Meets ps → IsMet (numbered v ps)
met v [] h = refl
met v (p ∷ ps) h = elim (nat_eq p.0 v) as (λ b. IsMet (cond b p.1 (numbered v ps))) [ true ↦ h.0 | false ↦ met v ps h.1 ]

-- ---- under a lock

pub held_of : {A : Type 0} (o : Option A) → is_some o ≡ true → (s : A) × (o ≡ Some s)
held_of None e = absurd (cc)
held_of (Some s) e = (s, refl)

pub asks_lock : {A : Type 0} (o : Option A) (F : A → List (ℕ × Premise)) → Meets (with_lock 1 o F) → is_some o ≡ true
asks_lock None F h = absurd (let e : false ≡ true = h.0 in cc)
asks_lock (Some s) F h = refl

-- What asks for both locks holds them, and has what is asked then.
pub record HasBoth {A B : Type 0} (o : Option A) (p : Option B) (ps : List (ℕ × Premise)) : Type 0 where
  pub first : is_some o ≡ true
  pub second : is_some p ≡ true
  pub asked : Meets ps

pub has_both : {A B : Type 0} (o : Option A) (p : Option B) (ps : List (ℕ × Premise)) → Meets (with_lock 1 o (λ x. with_lock 1 p (λ y. ps))) → HasBoth o p ps
has_both None p ps h = absurd (let e : false ≡ true = h.0 in cc)
has_both (Some x) None ps h = absurd (let e : false ≡ true = h.0 in cc)
has_both (Some x) (Some y) ps h = record { first = refl; second = refl; asked = h }

-- A call on one side of the ring has its lock.
pub record Called {A : Type 0} (o : Option A) (F : A → List (ℕ × Premise)) : Type 0 where
  pub known : A
  pub is : o ≡ Some known
  pub asked : (v : ℕ) → IsMet (numbered v (F known))

pub called : {A : Type 0} (o : Option A) (F : A → List (ℕ × Premise)) → Meets (with_lock 1 o F) → Called o F
called None F h = absurd (let e : false ≡ true = h.0 in cc)
called (Some s) F h = record { known = s; is = refl; asked = λ v. met v (F s) h }

pub then_known : {A : Type 0} (o : Option A) (F : A → Label) (K : Claim) (s : A) → o ≡ Some s → AtLive (if_locked o F) K → AtLive (F s) K
then_known o F K s e h = subst (λ x. AtLive (if_locked x F) K) e h

pub known_sq : (m : Mode) (s : Submitting) → m.sq ≡ Some s → sq_of m ≡ s
known_sq m s e = ap (λ (o : Option Submitting). unwrap_or o (record { queued = 0; slot = Closed })) e

-- ---- where locks are released

-- Where that of the submission side is, no entry is open, and no more are queued than may be left.
pub record CanLeave (P : Program) (m : Mode) : Type 0 where
  pub closed : same_slot (sq_of m).slot Closed ≡ true
  pub few : nat_le (sq_of m).queued P.left ≡ true

-- at the closing brace of a lock; where it releases that of the completion side, nothing is got
pub brace_leaves : (P : Program) (b : Part → ℕ) (m : Mode) (sq cq : Bool) → Meets (premises_of P [] true b m (release_needs sq cq)) → sq ≡ true → CanLeave P m
brace_leaves P b m true true h e = record { closed = h.0; few = h.1.0 }
brace_leaves P b m true false h e = record { closed = h.0; few = h.1.0 }
brace_leaves P b m false cq h e = absurd (cc)

pub brace_seen : (P : Program) (b : Part → ℕ) (m : Mode) (sq cq : Bool) → Meets (premises_of P [] true b m (release_needs sq cq)) → cq ≡ true → not (is_got (peeked_of m)) ≡ true
brace_seen P b m true true h e = h.1.1.0
brace_seen P b m false true h e = h.0
brace_seen P b m sq false h e = absurd (cc)

-- and at each break
pub break_leaves : (P : Program) (b : Part → ℕ) (m : Mode) (sq : Bool) → Meets (premises_of P [] true b m (leave_needs sq)) → sq ≡ true → CanLeave P m
break_leaves P b m true h e = record { closed = h.0; few = h.1.0 }
break_leaves P b m false h e = absurd (cc)

pub break_seen : (P : Program) (b : Part → ℕ) (m : Mode) (sq : Bool) → Meets (premises_of P [] true b m (leave_needs sq)) → not (is_got (peeked_of m)) ≡ true
break_seen P b m true h = h.1.1.0
break_seen P b m false h = h.1.0

-- ---- pools and the queue

-- What is put is held.
pub put_covered : (P : Program) (items : Items) (b : Part → ℕ) (m : Mode) (pool : Option ℕ) → Meets (line_premises P (items ∷ []) b m (Put pool 0)) → IsWithin (bag_of items) b
put_covered P items b m None h = (has_both m.sq m.cq _ h).asked.0
put_covered P items b m (Some n) h = h.0

-- The three ways in which one more entry has room.
pub can_queue_by : (P : Program) (b : Part → ℕ) (n : ℕ) → can_queue P b n ≡ true → (n < P.entries) ⊎ (lacking P.tokens b < P.entries) ⊎ (credits_given (begun P.stock P.threads) - b Credit < P.entries)
can_queue_by P b n e = elim (or_cases (nat_lt n P.entries) (few_tokens P b || few_credits P b) e) [
  | inl x ↦ inl (ltb-true n P.entries x)
  | inr y ↦ inr (elim (or_cases (few_tokens P b) (few_credits P b) y) [
    | inl x ↦ inl (ltb-true (lacking P.tokens b) P.entries (and_parts (nat_le 4 P.version) (nat_lt (lacking P.tokens b) P.entries) x).1)
    | inr x ↦ inr (ltb-true (credits_given (begun P.stock P.threads) - b Credit) P.entries (and_parts (nat_le 5 P.version) (nat_lt (credits_given (begun P.stock P.threads) - b Credit) P.entries) x).1)
  ])
]
