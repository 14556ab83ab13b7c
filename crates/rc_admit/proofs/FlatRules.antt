-- What passes from a label to a weaker one, and through the rules of lines.
use Rattle.std.proofs.Common.{◌≡◌, ℕ, Bool, true, false, ◌&&◌, cond, List, [], ◌∷◌, Option, Some, None, refl, sym, ap, ◌∙◌}
use Rattle.std.specs.Prelude.{is_some, nat_le, not, option_map, unwrap_or}
use Rattle.std.proofs.lemmas.Bool.{and_parts, leb-true}
use Rattle.rc_lang.specs.declared.lines.Locks.{Locks}
use Rattle.rc_lang.specs.declared.lines.Op.{Op}
use Rattle.rc_lang.specs.declared.lines.Test.{Test}
use Rattle.rc_lang.specs.declared.lines.Test.TheVariants.{Compare, ReadyZero, SpaceAtLeast, Take, Any}
use Rattle.rc_lang.specs.Program.{Items, Program, items_at}
use Rattle.rc_lang.specs.Views.{IsView}
use Rattle.rc_rules.specs.declared.mode.Mode.{Mode}
use Rattle.rc_rules.specs.declared.mode.Peeked.TheVariants.{Unseen}
use Rattle.rc_rules.specs.declared.mode.Slot.TheVariants.{Closed}
use Rattle.rc_rules.specs.declared.mode.Submitting.{Submitting}
use Rattle.rc_rules.specs.Labels.{Label, Dead, Live, UnderLock, Weaker, WeakerMode, WeakerSubmitting}
use Rattle.rc_rules.specs.Premises.{Is, Covers, Meets}
use Rattle.rc_rules.specs.Rules.{can_take, is_got, keeps_queue, locks_of, op_effect, peeked_of, queue_on, same_slot, test_effect, test_mode, top_mode, top_sq}
use Rattle.rc_rules.proofs.Lines.{effect_by}
use Rattle.rc_rules.proofs.Weaker.{same_slot_is, test_locks}
use Rattle.rc_split.specs.Bags.{Part, IsWithin, bag_of, bag_on, plus}
use Rattle.rc_admit.proofs.Owned.{front_below}
use Rattle.rc_admit.proofs.Rule.{AtLive, Claim}

-- A label that says no more than a live one is live.
pub record IsBelow (s : Label) (b : Part → ℕ) (m : Mode) : Type 0 where
  pub bag : Part → ℕ
  pub mode : Mode
  pub is : s ≡ Live bag mode
  pub less : IsWithin bag b
  pub weaker : WeakerMode mode m

pub below : (s : Label) (b : Part → ℕ) (m : Mode) → Weaker s (Live b m) → IsBelow s b m
below Dead b m w = absurd w
below (Live a n) b m w = record { bag = a; mode = n; is = refl; less = w.0; weaker = w.1 }

-- ---- what a label that leads after a line claims

-- what is claimed for each of some ways after a line
pub for_each : {A : Type 0} {B : A → Type 0} (l : Label) (K : (x : A) → B x → (Part → ℕ) → Mode → Type 0) → ((x : A) (h : B x) → AtLive l (K x h)) → AtLive l (λ c n. (x : A) (h : B x) → K x h c n)
for_each Dead K f = tt
for_each (Live b m) K f = f

pub behind_op : (P : Program) → IsView P → (b : Part → ℕ) (m : Mode) (op : Op) (K : Claim) (t : Label) → Weaker t (op_effect P b m op) → ((c : Part → ℕ) (n : Mode) → locks_of n ≡ locks_of m → Weaker t (Live c n) → K c n) → AtLive (op_effect P b m op) K
behind_op P made b m op K t w f = effect_by P b m op made (λ s. Weaker t s → AtLive s K) (λ v. tt) (λ c n l few v. f c n l v) w

-- where something is known of the way
pub where_known : (l : Label) (X : Type 0) (K : Claim) → (X → AtLive l K) → AtLive l (λ c n. X → K c n)
where_known Dead X K f = tt
where_known (Live b m) X K f = f

pub behind_test : (P : Program) (lists : List Items) (b : Part → ℕ) (m : Mode) (test : Test) (K : Claim) (t : Label) → Weaker t (test_effect P lists b m test) → ((c : Part → ℕ) (n : Mode) → locks_of n ≡ locks_of m → Weaker t (Live c n) → K c n) → AtLive (test_effect P lists b m test) K
behind_test P lists b m (Take pool k) K t w f = go (can_take P b m (items_at lists k)) w
  where
    go : (y : Bool) → Weaker t (cond y (Live (plus b (bag_of (items_at lists k))) m) Dead) → AtLive (cond y (Live (plus b (bag_of (items_at lists k))) m) Dead) K
    go false w = tt
    go true w = f (plus b (bag_of (items_at lists k))) m refl w
behind_test P lists b m (Compare x c n) K t w f = f b m refl w
behind_test P lists b m ReadyZero K t w f = f b (test_mode P ReadyZero m) (test_locks P ReadyZero m) w
behind_test P lists b m (SpaceAtLeast n) K t w f = f b (test_mode P (SpaceAtLeast n) m) (test_locks P (SpaceAtLeast n) m) w
behind_test P lists b m Any K t w f = f b m refl w

-- ---- loops

-- at a loop's top and at its end the state is no weaker than the items
top_below : (P : Program) (items : Items) (o : Option Submitting) → (same_slot (unwrap_or o (record { queued = 0; slot = Closed })).slot Closed && nat_le (unwrap_or o (record { queued = 0; slot = Closed })).queued (queue_on P items)) ≡ true → UnderLock WeakerSubmitting (option_map (λ _. top_sq P items) o) o
top_below P items None e = tt
top_below P items (Some s) e = let h = and_parts (same_slot s.slot Closed) (nat_le s.queued (queue_on P items)) e in record { queued = leb-true _ _ h.1; slot = sym (same_slot_is s.slot Closed h.0) }

queue_less : (P : Program) (items : Items) (m : Mode) → keeps_queue (queue_on P items) m ≡ true → not (is_got (peeked_of m)) ≡ true → WeakerMode (top_mode P items m) m
queue_less P items m e n = (top_below P items m.sq e, front_below m.cq n)

pub covered : (P : Program) (v : ℕ) (items : Items) (z : Bool) (b : Part → ℕ) (m : Mode) → Meets ((v, Is (keeps_queue (queue_on P items) m)) ∷ (v, Covers b (bag_on z items)) ∷ (20, Is (not (is_got (peeked_of m)))) ∷ []) → Weaker (Live (bag_on z items) (top_mode P items m)) (Live b m)
covered P v items z b m h = (h.1.0, queue_less P items m h.0 h.1.1.0)

const_same : {A : Type 0} (a : A) (o p : Option A) → is_some o ≡ is_some p → option_map (λ _. a) o ≡ option_map (λ _. a) p
const_same a None None e = refl
const_same a (Some s) (Some t) e = refl
const_same a None (Some t) e = absurd (cc)
const_same a (Some s) None e = absurd (cc)

pub top_same : (P : Program) (items : Items) (m n : Mode) → locks_of m ≡ locks_of n → top_mode P items m ≡ top_mode P items n
top_same P items m n e =
    ap (λ x. record (top_mode P items m) { sq = x }) (const_same (top_sq P items) m.sq n.sq (ap (λ (l : Locks). l.sq) e))
    ∙ ap (λ x. record (top_mode P items n) { cq = x }) (const_same Unseen m.cq n.cq (ap (λ (l : Locks). l.cq) e))
