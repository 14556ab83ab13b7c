-- Stronger states are asked for less and give stronger states.
use Rattle.std.proofs.Common.{◌≡◌, ℕ, suc, ◌+◌, ◌<◌, ◌≤◌, Bool, true, false, cond, not, nat_eq, nat_lt, nat_le, List, [], ◌∷◌, ◌++◌, length, drop, Option, Some, None, refl, sym, subst, arith}
use Rattle.std.proofs.lemmas.Bool.{and_from, and_parts, le-leb, ltb-true}
use Rattle.rc_lang.specs.declared.lines.Line.{Line}
use Rattle.rc_lang.specs.declared.lines.Locks.{Locks}
use Rattle.rc_lang.specs.declared.lines.Op.{Op}
use Rattle.rc_lang.specs.declared.lines.Op.TheVariants as ops
use Rattle.rc_lang.specs.declared.lines.Stmt.{Stmt}
use Rattle.rc_lang.specs.declared.lines.Stmt.TheVariants.{Do, Put, Lock, EndLock, If, Else, EndIf, Peek, Case, Other, Nothing, EndArm, EndPeek, Loop, EndLoop, Break}
use Rattle.rc_lang.specs.declared.lines.Test.{Test}
use Rattle.rc_lang.specs.declared.lines.Test.TheVariants.{Compare, ReadyZero, SpaceAtLeast, Take, Any}
use Rattle.rc_lang.specs.Program.{Program, Thread, Items, items_at, stmt_at}
use Rattle.rc_split.specs.Bags.{Part, ShareOf, TokenOf, Credit, bag_of, bag_on, plus, IsWithin}
use Rattle.rc_rules.specs.declared.mode.Mode.{Mode}
use Rattle.rc_rules.specs.declared.mode.Peeked.{Peeked}
use Rattle.rc_rules.specs.declared.mode.Peeked.TheVariants.{Unseen, Sees, SeesOther, Got}
use Rattle.rc_rules.specs.declared.mode.Slot.{Slot}
use Rattle.rc_rules.specs.declared.mode.Slot.TheVariants.{Closed, Vacant}
use Rattle.rc_rules.specs.declared.mode.Submitting.{Submitting}
use Rattle.rc_rules.specs.Labels.{Label, Dead, Live, UnderLock, Weaker, WeakerMode, WeakerPeeked, WeakerSubmitting}
use Rattle.rc_rules.specs.Premises.{Premise, Is, Covers, IsMet, Meets, MeetsBelow}
use Rattle.rc_rules.specs.Kinds.{kinds_of}
use Rattle.rc_rules.specs.Rules.{same_slot, has_kind, is_got, is_prepared_as, is_seen, peeked_of, sq_of, with_lock, premises_of, op_needs, pool_needs, test_needs, leave_needs, release_needs, stmt_needs, if_locked, op_effect, got_bag, reaped, asks, asks_both, joins_both, goes, locked, entered, released, put_effect, can_take, take_effect, test_effect, freed, with_slot, at_most, with_peeked, peek_at, case_at, agree_all, queue_on, keeps_queue, top_sq, top, broken}
use Rattle.rc_rules.specs.Labellings.{label_at, here, skipped, arm_end, arm_ends, break_end, break_ends, befores, premises}
use Rattle.rc_rules.specs.Laws.{EachWeaker, IsStronger, GrowsAt}
use Rattle.rc_rules.specs.declared.flag.Write.TheVariants.{Anything}
use Rattle.rc_rules.specs.Sides.{Sides, gate, brings, turns, write_to, write_of, forgets, test_goes, may_skip}
use Rattle.rc_rules.proofs.Room.{still_can}
use Rattle.rc_rules.proofs.AgreeGrows.{agree_all_grows, each_append}
use Rattle.rc_rules.proofs.RoomGrows.{below, more, room_grows}
use Rattle.rc_rules.proofs.Weaker.{got_same, lock_freed, lock_maps, lock_taken, peeked_grows, peeked_less, peeked_refl, peeked_weaker, sq_weaker, label_drop, meets_append, meets_left, meets_right, below_append, below_left, below_right}

-- ---- lists of premises

-- what meets the first list meets the second
abbrev Less : List (ℕ × Premise) → List (ℕ × Premise) → Type 0
Less ps [] = Unit {0}
Less [] (q ∷ qs) = ⊥
Less (p ∷ ps) (q ∷ qs) = (p.0 ≡ q.0) × (IsMet p.1 → IsMet q.1) × Less ps qs

less_meets : (ps qs : List (ℕ × Premise)) → Less ps qs → Meets ps → Meets qs
less_meets ps [] l h = tt
less_meets [] (q ∷ qs) l h = absurd l
less_meets (p ∷ ps) (q ∷ qs) l h = (l.1 h.0, less_meets ps qs l.2 h.1)

less_below : (v : ℕ) (ps qs : List (ℕ × Premise)) → Less ps qs → MeetsBelow v ps → MeetsBelow v qs
less_below v ps [] l h = tt
less_below v [] (q ∷ qs) l h = absurd l
less_below v (p ∷ ps) (q ∷ qs) l h = (λ lt. l.1 (h.0 (subst (λ n. n < v) (sym l.0) lt)), less_below v ps qs l.2 h.1)

-- Of appended lists: each is met where the first of its pair is.
pub record Eases (ps qs : List (ℕ × Premise)) : Type 0 where
  pub meets : Meets ps → Meets qs
  pub below : (v : ℕ) → MeetsBelow v ps → MeetsBelow v qs

eases : (ps qs : List (ℕ × Premise)) → Less ps qs → Eases ps qs
eases ps qs l = record { meets = less_meets ps qs l; below = λ v. less_below v ps qs l }

no_premise : Eases [] []
no_premise = record { meets = λ h. h; below = λ v h. h }

eases_both : (ps qs us vs : List (ℕ × Premise)) → Eases ps qs → Eases us vs → Eases (ps ++ us) (qs ++ vs)
eases_both ps qs us vs l k = record {
  meets = λ h. meets_append qs vs (l.meets (meets_left ps us h)) (k.meets (meets_right ps us h));
  below = λ v h. below_append v qs vs (l.below v (below_left v ps us h)) (k.below v (below_right v ps us h));
}

-- ---- one state

abbrev AsksLess : ((Part → ℕ) → Mode → List (ℕ × Premise)) → Type 0
AsksLess F = (b c : Part → ℕ) (m n : Mode) → IsWithin b c → WeakerMode m n → Less (F b m) (F c n)

abbrev Grows : ((Part → ℕ) → Mode → List (ℕ × Premise)) → ((Part → ℕ) → Mode → Label) → Type 0
Grows F E = (b c : Part → ℕ) (m n : Mode) → IsWithin b c → WeakerMode m n → Meets (F b m) → Weaker (E b m) (E c n)

asks_grow : (F : (Part → ℕ) → Mode → List (ℕ × Premise)) → AsksLess F → (s t : Label) → Weaker s t → Less (asks s F) (asks t F)
asks_grow F g Dead Dead w = tt
asks_grow F g (Live b m) Dead w = tt
asks_grow F g Dead (Live c n) w = absurd w
asks_grow F g (Live b m) (Live c n) w = g b c m n w.0 w.1

goes_grow : (F : (Part → ℕ) → Mode → List (ℕ × Premise)) (E : (Part → ℕ) → Mode → Label) → Grows F E → (s t : Label) → Weaker s t → Meets (asks s F) → Weaker (goes s E) (goes t E)
goes_grow F E g s Dead w h = tt
goes_grow F E g Dead (Live c n) w h = absurd w
goes_grow F E g (Live b m) (Live c n) w h = g b c m n w.0 w.1 h

slot_of : (s t : Submitting) (x : Slot) → WeakerSubmitting s t → same_slot s.slot x ≡ true → same_slot t.slot x ≡ true
slot_of s t x v e = subst (λ y. same_slot y x ≡ true) v.slot e

seen : (p q : Peeked) → WeakerPeeked p q → is_seen p ≡ true → is_seen q ≡ true
seen p q w = peeked_less (λ x. is_seen x ≡ true → is_seen q ≡ true) (λ e. absurd (cc)) p q w (λ e. e)

-- what is asked of a lock first, and what is left under it
locked_less : {A : Type 0} (W : A → A → Type 0) (F G : A → List (ℕ × Premise)) (o p : Option A) → ((s t : A) → W s t → Less (F s) (G t)) → UnderLock W o p → Less (with_lock 1 o F) (with_lock 1 p G)
locked_less W F G None None h v = (refl, λ e. e, tt)
locked_less W F G (Some s) (Some t) h v = h s t v
locked_less W F G None (Some t) h v = absurd v
locked_less W F G (Some s) None h v = absurd v

locked_grows : {A : Type 0} (W : A → A → Type 0) (K : A → List (ℕ × Premise)) (F G : A → Label) (o p : Option A) → Meets (with_lock 1 o K) → ((s t : A) → Meets (K s) → W s t → Weaker (F s) (G t)) → UnderLock W o p → Weaker (if_locked o F) (if_locked p G)
locked_grows W K F G None None h g v = tt
locked_grows W K F G (Some s) (Some t) h g v = g s t h v
locked_grows W K F G None (Some t) h g v = absurd v
locked_grows W K F G (Some s) None h g v = absurd v

asks_less : (P : Program) (lists : List Items) (z : Bool) (op : Op) → AsksLess (λ b m. premises_of P lists z b m (op_needs op))
asks_less P lists z (ops.Load x d i) b c m n w v = (refl, more 1 (b (ShareOf d)) (c (ShareOf d)) (w (ShareOf d)), (refl, λ h. h, tt))
asks_less P lists z (ops.Store d i x) b c m n w v = (refl, more _ (b (ShareOf d)) (c (ShareOf d)) (w (ShareOf d)), (refl, λ h. h, tt))
asks_less P lists z (ops.Fill d x) b c m n w v = (refl, more _ (b (ShareOf d)) (c (ShareOf d)) (w (ShareOf d)), tt)
asks_less P lists z ops.GetSqe b c m n w v = locked_less WeakerSubmitting _ _ m.sq n.sq (λ i j v. (refl, more 1 (b Credit) (c Credit) (w Credit), (refl, room_grows P b c i j w v, (refl, slot_of i j Closed v, tt)))) v.0
asks_less P lists z (ops.PrepRead f d l o) b c m n w v = locked_less WeakerSubmitting _ _ m.sq n.sq (λ i j v. (refl, slot_of i j Vacant v, (refl, more _ (b (ShareOf d)) (c (ShareOf d)) (w (ShareOf d)), (refl, λ h. h, tt)))) v.0
asks_less P lists z (ops.PrepWrite f d l o k) b c m n w v = locked_less WeakerSubmitting _ _ m.sq n.sq (λ i j v. (refl, slot_of i j Vacant v, (refl, more k (b (ShareOf d)) (c (ShareOf d)) (w (ShareOf d)), (refl, λ h. h, tt)))) v.0
asks_less P lists z (ops.PrepFsync f d) b c m n w v = locked_less WeakerSubmitting _ _ m.sq n.sq (λ i j v. (refl, slot_of i j Vacant v, tt)) v.0
asks_less P lists z ops.PrepNop b c m n w v = locked_less WeakerSubmitting _ _ m.sq n.sq (λ i j v. (refl, slot_of i j Vacant v, tt)) v.0
asks_less P lists z ops.PrepOther b c m n w v = locked_less WeakerSubmitting _ _ m.sq n.sq (λ i j v. (refl, slot_of i j Vacant v, tt)) v.0
asks_less P lists z (ops.SetData64 u) b c m n w v = locked_less WeakerSubmitting _ _ m.sq n.sq (λ i j v. (refl, subst (λ y. has_kind y ≡ true) v.slot, (refl, subst (λ y. is_prepared_as (kinds_of P u) y ≡ true) v.slot, (refl, more 1 (b (TokenOf u)) (c (TokenOf u)) (w (TokenOf u)), tt)))) v.0
asks_less P lists z (ops.Submit x) b c m n w v = locked_less WeakerSubmitting _ _ m.sq n.sq (λ i j v. (refl, slot_of i j Closed v, tt)) v.0
asks_less P lists z (ops.SubmitAndWait x k) b c m n w v = locked_less WeakerSubmitting _ _ m.sq n.sq (λ i j v. (refl, slot_of i j Closed v, tt)) v.0
asks_less P lists z ops.CqeGetData64 b c m n w v = locked_less WeakerPeeked _ _ m.cq n.cq (λ p q x. (refl, seen p q x, tt)) v.1
asks_less P lists z ops.CqeSeen b c m n w v = locked_less WeakerPeeked _ _ m.cq n.cq (λ p q x. (refl, seen p q x, tt)) v.1
asks_less P lists z _ b c m n w v = tt

unchanged : (b c : Part → ℕ) (m n : Mode) (s t : Submitting) (x : Slot) → IsWithin b c → WeakerMode m n → WeakerSubmitting s t → Weaker (Live b (with_slot x s m)) (Live c (with_slot x t n))
unchanged b c m n s t x w v u = (w, (record { queued = u.queued; slot = refl }, v.1))

gets_more : (P : Program) (p q : Peeked) → WeakerPeeked p q → (x : Part) → got_bag P p x ≤ got_bag P q x
gets_more P p q w x = peeked_less (λ y. got_bag P y x ≤ got_bag P q x) (omega arith) p q w (omega arith)

reaps_more : (P : Program) (p q : Peeked) → WeakerPeeked p q → (x : Part) → reaped P p x ≤ reaped P q x
reaps_more P p q w x = peeked_less (λ y. reaped P y x ≤ reaped P q x) (omega arith) p q w (omega arith)

grows : (P : Program) (lists : List Items) (z : Bool) (op : Op) → Grows (λ b m. premises_of P lists z b m (op_needs op)) (λ b m. op_effect P b m op)
grows P lists z ops.GetSqe b c m n w v h = locked_grows WeakerSubmitting _ _ _ m.sq n.sq h (λ s t a u. (λ p. omega (arith, w p), (record { queued = omega (arith, u.queued); slot = refl }, v.1))) v.0
grows P lists z (ops.PrepRead f d l o) b c m n w v h = locked_grows WeakerSubmitting _ _ _ m.sq n.sq h (λ s t a u. unchanged _ _ m n s t _ (λ p. omega (arith, w p)) v u) v.0
grows P lists z (ops.PrepWrite f d l o k) b c m n w v h = locked_grows WeakerSubmitting _ _ _ m.sq n.sq h (λ s t a u. unchanged _ _ m n s t _ (λ p. omega (arith, w p)) v u) v.0
grows P lists z (ops.PrepFsync f d) b c m n w v h = locked_grows WeakerSubmitting _ _ _ m.sq n.sq h (λ s t a u. unchanged b c m n s t _ w v u) v.0
grows P lists z ops.PrepNop b c m n w v h = locked_grows WeakerSubmitting _ _ _ m.sq n.sq h (λ s t a u. unchanged b c m n s t _ w v u) v.0
grows P lists z ops.PrepOther b c m n w v h = locked_grows WeakerSubmitting _ _ _ m.sq n.sq h (λ s t a u. unchanged b c m n s t _ w v u) v.0
grows P lists z (ops.SetData64 u) b c m n w v h = locked_grows WeakerSubmitting _ _ _ m.sq n.sq h (λ s t a x. unchanged _ _ m n s t _ (λ p. omega (arith, w p)) v x) v.0
grows P lists z ops.CqeGetData64 b c m n w v h = locked_grows WeakerPeeked _ _ _ m.cq n.cq h (λ p q a u. (λ x. omega (arith, w x, gets_more P p q u x), (v.0, peeked_refl Got))) v.1
grows P lists z ops.CqeSeen b c m n w v h = locked_grows WeakerPeeked _ _ _ m.cq n.cq h (λ p q a u. (λ x. omega (arith, w x, reaps_more P p q u x), (v.0, peeked_refl Unseen))) v.1
grows P lists z _ b c m n w v h = (w, v)

-- ---- blocks

no_asks : (s : Label) → Meets (asks s (λ b m. []))
no_asks Dead = tt
no_asks (Live b m) = tt

-- an effect that asks for nothing
plain_grow : (E : (Part → ℕ) → Mode → Label) → Grows (λ b m. []) E → (s t : Label) → Weaker s t → Weaker (goes s E) (goes t E)
plain_grow E g s t w = goes_grow (λ b m. []) E g s t w (no_asks s)

sq_less : AsksLess (λ b m. with_lock 1 m.sq (λ s. []))
sq_less b c m n w v = locked_less WeakerSubmitting _ _ m.sq n.sq (λ s t u. tt) v.0

cq_less : AsksLess (λ b m. with_lock 1 m.cq (λ p. []))
cq_less b c m n w v = locked_less WeakerPeeked _ _ m.cq n.cq (λ p q u. tt) v.1

-- nothing is got
abbrev seen_asks : Peeked → List (ℕ × Premise)
seen_asks p = (20, Is (not (is_got p))) ∷ []

still_seen : (p q : Peeked) → WeakerPeeked p q → not (is_got p) ≡ true → not (is_got q) ≡ true
still_seen p q w = subst (λ b. not b ≡ true) (got_same p q w)

seen_less : AsksLess (λ b m. seen_asks (peeked_of m))
seen_less b c m n w v = (refl, still_seen (peeked_of m) (peeked_of n) (peeked_weaker m n v), tt)

peek_less : AsksLess (λ b m. with_lock 1 m.cq seen_asks)
peek_less b c m n w v = locked_less WeakerPeeked _ _ m.cq n.cq (λ p q u. (refl, still_seen p q u, tt)) v.1

pool_less : (P : Program) (lists : List Items) (z : Bool) (pool : Option ℕ) → AsksLess (λ b m. premises_of P lists z b m (pool_needs pool))
pool_less P lists z None b c m n w v = locked_less WeakerSubmitting _ _ m.sq n.sq (λ s t u. cq_less b c m n w v) v.0
pool_less P lists z (Some k) b c m n w v = tt

test_less : (P : Program) (lists : List Items) (z : Bool) (test : Test) → AsksLess (λ b m. premises_of P lists z b m (test_needs test))
test_less P lists z (Compare x k n) b d m o w v = tt
test_less P lists z ReadyZero b d m o w v = sq_less b d m o w v
test_less P lists z (SpaceAtLeast n) b d m o w v = sq_less b d m o w v
test_less P lists z (Take pool k) b d m o w v = pool_less P lists z pool b d m o w v
test_less P lists z Any b d m o w v = tt

put_less : (P : Program) (lists : List Items) (z : Bool) (pool : Option ℕ) (k : ℕ) → AsksLess (λ b m. premises_of P lists z b m (stmt_needs (Put pool k)))
put_less P lists z None k b c m n w v = locked_less WeakerSubmitting _ _ m.sq n.sq (λ s t u. locked_less WeakerPeeked _ _ m.cq n.cq (λ p q x. (refl, λ h y. omega (arith, h y, w y), tt)) v.1) v.0
put_less P lists z (Some x) k b c m n w v = (refl, λ h y. omega (arith, h y, w y), tt)

put_grows : (items : Items) (s t : Label) → Weaker s t → Weaker (goes s (λ b m. put_effect b m items)) (goes t (λ b m. put_effect b m items))
put_grows items = plain_grow (λ b m. put_effect b m items) (λ b c m n w v h. (λ p. omega (arith, w p), v))

-- who holds less can take what one who holds more can
take_grows : (P : Program) (items : Items) (b c : Part → ℕ) (m n : Mode) → IsWithin b c → WeakerMode m n → Weaker (take_effect P b m items) (take_effect P c n items)
take_grows P items b c m n w v = go (can_take P b m items) (can_take P c n items) refl refl
  where
    go : (x y : Bool) → can_take P b m items ≡ x → can_take P c n items ≡ y → Weaker (cond x (Live (plus b (bag_of items)) m) Dead) (cond y (Live (plus c (bag_of items)) n) Dead)
    go x false e f = tt
    go true true e f = (λ p. omega (arith, w p), v)
    go false true e f = absurd (let g : can_take P b m items ≡ true = still_can P items b c m n w v f in cc (e, g))

most_grows : (k : ℕ) (m n : Mode) → WeakerMode m n → WeakerMode (at_most k m) (at_most k n)
most_grows k m n v = (lock_maps WeakerSubmitting WeakerSubmitting _ (λ s t u. record { queued = omega (arith, u.queued); slot = u.slot }) m.sq n.sq v.0, v.1)

test_grows : (P : Program) (lists : List Items) (test : Test) → Grows (λ b m. []) (λ b m. test_effect P lists b m test)
test_grows P lists (Compare x k n) b d m o w v h = (w, v)
test_grows P lists ReadyZero b d m o w v h = (w, most_grows _ m o v)
test_grows P lists (SpaceAtLeast n) b d m o w v h = (w, most_grows _ m o v)
test_grows P lists (Take pool k) b d m o w v h = take_grows P (items_at lists k) b d m o w v
test_grows P lists Any b d m o w v h = (w, v)

closed_less : (m n : Mode) → WeakerMode m n → same_slot (sq_of m).slot Closed ≡ true → same_slot (sq_of n).slot Closed ≡ true
closed_less m n v h = slot_of (sq_of m) (sq_of n) Closed (sq_weaker m n v) h

left_less : (P : Program) (m n : Mode) → WeakerMode m n → nat_le (sq_of m).queued P.left ≡ true → nat_le (sq_of n).queued P.left ≡ true
left_less P m n v h = below (sq_of n).queued (sq_of m).queued P.left (sq_weaker m n v).queued h

leave_less : (P : Program) (lists : List Items) (z : Bool) (r : Bool) → AsksLess (λ b m. premises_of P lists z b m (leave_needs r))
leave_less P lists z true b c m n w v = (refl, closed_less m n v, (refl, left_less P m n v, seen_less b c m n w v))
leave_less P lists z false b c m n w v = (refl, closed_less m n v, seen_less b c m n w v)

release_less : (P : Program) (lists : List Items) (z : Bool) (sq cq : Bool) → AsksLess (λ b m. premises_of P lists z b m (release_needs sq cq))
release_less P lists z true true b c m n w v = leave_less P lists z true b c m n w v
release_less P lists z true false b c m n w v = (refl, closed_less m n v, (refl, left_less P m n v, tt))
release_less P lists z false true b c m n w v = seen_less b c m n w v
release_less P lists z false false b c m n w v = tt

queue_grows : (P : Program) (items : Items) (m n : Mode) → WeakerMode m n → keeps_queue (queue_on P items) m ≡ true → keeps_queue (queue_on P items) n ≡ true
queue_grows P items m n v h = let g = and_parts _ _ h in and_from _ _ (closed_less m n v g.0) (below (sq_of n).queued (sq_of m).queued (queue_on P items) (sq_weaker m n v).queued g.1)

abbrev loop_asks : Program → ℕ → Items → Bool → (Part → ℕ) → Mode → List (ℕ × Premise)
loop_asks P k items z b m = (k, Is (keeps_queue (queue_on P items) m)) ∷ (k, Covers b (bag_on z items)) ∷ seen_asks (peeked_of m)

loop_less : (P : Program) (k : ℕ) (items : Items) (z : Bool) → AsksLess (λ b m. loop_asks P k items z b m)
loop_less P k items z b c m n w v = (refl, queue_grows P items m n v, (refl, λ h p. omega (arith, h p, w p), seen_less b c m n w v))

top_grows : (P : Program) (items : Items) (z : Bool) (s t : Label) → Weaker s t → Weaker (top P items z s) (top P items z t)
top_grows P items z s Dead w = tt
top_grows P items z Dead (Live c n) w = absurd w
top_grows P items z (Live b m) (Live c n) w = (λ p. omega arith, (lock_maps WeakerSubmitting WeakerSubmitting (λ _. top_sq P items) (λ s t u. record { queued = omega arith; slot = refl }) m.sq n.sq w.1.0, lock_maps WeakerPeeked WeakerPeeked (λ _. Unseen) (λ p q u. peeked_refl Unseen) m.cq n.cq w.1.1))

peek_grows : (p : Peeked) (s t : Label) → Weaker s t → Weaker (peek_at p s) (peek_at p t)
peek_grows p = plain_grow (λ b m. Live b (with_peeked p m)) (λ b c m n w v h. (w, peeked_grows p m n v))

taken_grows : (P : Program) (l : Locks) (m n : Mode) → WeakerMode m n → WeakerMode (locked P l m) (locked P l n)
taken_grows P l m n w = (lock_taken WeakerSubmitting l.sq _ m.sq n.sq (record { queued = omega arith; slot = refl }) w.0, lock_taken WeakerPeeked l.cq _ m.cq n.cq (peeked_refl Unseen) w.1)

entered_grows : (P : Program) (l : Locks) (s t : Label) → Weaker s t → Weaker (entered P l s) (entered P l t)
entered_grows P l = plain_grow (λ b m. Live b (locked P l m)) (λ b c m n w v h. (w, taken_grows P l m n v))

freed_grows : (l : Locks) (m n : Mode) → WeakerMode m n → WeakerMode (freed l m) (freed l n)
freed_grows l m n w = (lock_freed WeakerSubmitting l.sq m.sq n.sq w.0, lock_freed WeakerPeeked l.cq m.cq n.cq w.1)

released_grows : (l : Locks) (s t : Label) → Weaker s t → Weaker (released l s) (released l t)
released_grows l = plain_grow (λ b m. Live b (freed l m)) (λ b c m n w v h. (w, freed_grows l m n v))

broken_grows : (l : Locks) (s t : Label) → Weaker s t → Weaker (broken l s) (broken l t)
broken_grows l = plain_grow (λ b m. Live b (freed l (with_peeked Unseen m))) (λ b c m n w v h. (w, freed_grows l (with_peeked Unseen m) (with_peeked Unseen n) (peeked_grows Unseen m n v)))

case_grows : (u : ℕ) (s t : Label) → Weaker s t → Weaker (case_at u s) (case_at u t)
case_grows u s Dead w = tt
case_grows u Dead (Live c n) w = absurd w
case_grows u (Live b m) (Live c n) w = go (nat_lt 0 (b (TokenOf u))) (nat_lt 0 (c (TokenOf u))) refl refl
  where
    go : (x y : Bool) → nat_lt 0 (b (TokenOf u)) ≡ x → nat_lt 0 (c (TokenOf u)) ≡ y → Weaker (cond x Dead (Live b (with_peeked (Sees u) m))) (cond y Dead (Live c (with_peeked (Sees u) n)))
    go x true e f = tt
    go false false e f = (w.0, peeked_grows (Sees u) m n w.1)
    go true false e f =
        let d : 0 < b (TokenOf u) = ltb-true 0 (b (TokenOf u)) e in
        let g : nat_lt 0 (c (TokenOf u)) ≡ true = le-leb 1 (c (TokenOf u)) (omega (arith, d, w.0 (TokenOf u))) in
        absurd (cc (f, g))

-- ---- labellings

join_less : (ss ts : List Label) → EachWeaker ss ts → Less ((15, Is (agree_all ss)) ∷ []) ((15, Is (agree_all ts)) ∷ [])
join_less ss ts g = (refl, agree_all_grows ss ts g, tt)

gate_grows : (g : Bool) (s t : Label) → Weaker s t → Weaker (gate g s) (gate g t)
gate_grows true s t w = w
gate_grows false s t w = tt

drop_grows : (known more : List Sides) → IsStronger known more → IsStronger (drop 1 known) (drop 1 more)
drop_grows known more g k z = subst (λ s. Weaker s (label_at (drop 1 more) k z)) (sym (label_drop known k z)) (subst (λ t. Weaker (label_at known (suc k) z) t) (sym (label_drop more k z)) (g (suc k) z))

arm_grows : (l : Stmt) (o : ℕ) (s t : Label) → Weaker s t → EachWeaker (arm_end l o s) (arm_end l o t)
arm_grows (EndArm p) o s t w = go (nat_eq p o)
  where
    go : (b : Bool) → EachWeaker (cond b (peek_at Unseen s ∷ []) []) (cond b (peek_at Unseen t ∷ []) [])
    go true = (peek_grows Unseen s t w, tt)
    go false = tt
arm_grows _ o s t w = tt

break_grows : (l : Stmt) (o : ℕ) (s t : Label) → Weaker s t → EachWeaker (break_end l o s) (break_end l o t)
break_grows (Break p r l) o s t w = go (nat_eq p o)
  where
    go : (b : Bool) → EachWeaker (cond b (broken r s ∷ []) []) (cond b (broken r t ∷ []) [])
    go true = (broken_grows r s t w, tt)
    go false = tt
break_grows _ o s t w = tt

arms_grow : (lines : List Line) (known more : List Sides) (o : ℕ) (z : Bool) → IsStronger known more → EachWeaker (arm_ends lines known o z) (arm_ends lines more o z)
arms_grow [] known more o z g = tt
arms_grow (l ∷ lines) known more o z g = each_append (arm_end l.stmt o (label_at known 0 z)) (arm_end l.stmt o (label_at more 0 z)) (arm_ends lines (drop 1 known) o z) (arm_ends lines (drop 1 more) o z) (arm_grows l.stmt o _ _ (g 0 z)) (arms_grow lines (drop 1 known) (drop 1 more) o z (drop_grows known more g))

breaks_grow : (lines : List Line) (known more : List Sides) (o : ℕ) (z : Bool) → IsStronger known more → EachWeaker (break_ends lines known o z) (break_ends lines more o z)
breaks_grow [] known more o z g = tt
breaks_grow (l ∷ lines) known more o z g = each_append (break_end l.stmt o (label_at known 0 z)) (break_end l.stmt o (label_at more 0 z)) (break_ends lines (drop 1 known) o z) (break_ends lines (drop 1 more) o z) (break_grows l.stmt o _ _ (g 0 z)) (breaks_grow lines (drop 1 known) (drop 1 more) o z (drop_grows known more g))

module _ (P : Program) (thread : Thread) (lines : List Line) (known more : List Sides) (g : IsStronger known more) where
  here_grows : (z : Bool) → Weaker (here lines known z) (here lines more z)
  here_grows z = g (length lines) z

  both_grow : (F : Bool → (Part → ℕ) → Mode → List (ℕ × Premise)) → ((z : Bool) → AsksLess (F z)) → Eases (asks_both (here lines known) F) (asks_both (here lines more) F)
  both_grow F l = eases_both (asks (here lines known true) (F true)) (asks (here lines more true) (F true)) (asks (here lines known false) (F false)) (asks (here lines more false) (F false)) (eases _ _ (asks_grow (F true) (l true) _ _ (here_grows true))) (eases _ _ (asks_grow (F false) (l false) _ _ (here_grows false)))

  side_met : (F : Bool → (Part → ℕ) → Mode → List (ℕ × Premise)) (z : Bool) → Meets (asks_both (here lines known) F) → Meets (asks (here lines known z) (F z))
  side_met F true h = meets_left (asks (here lines known true) (F true)) (asks (here lines known false) (F false)) h
  side_met F false h = meets_right (asks (here lines known true) (F true)) (asks (here lines known false) (F false)) h

  brings_grow : (may : Bool → Bool) (F : Label → Label) → ((y : Bool) → Weaker (F (here lines known y)) (F (here lines more y))) → EachWeaker (brings may F (here lines known)) (brings may F (here lines more))
  brings_grow may F h = (gate_grows (may true) _ _ (h true), (gate_grows (may false) _ _ (h false), tt))

  skip_grows : (o : ℕ) (z : Bool) → Weaker (skipped thread lines known o z) (skipped thread lines more o z)
  skip_grows o z = gate_grows (may_skip thread.flag z (stmt_at lines o)) _ _ (g o z)

  ends_grow : (o : ℕ) (z : Bool) → EachWeaker (here lines known z ∷ skipped thread lines known o z ∷ []) (here lines more z ∷ skipped thread lines more o z ∷ [])
  ends_grow o z = (here_grows z, (skip_grows o z, tt))

  joins_less : (E F : Bool → List Label) → ((z : Bool) → EachWeaker (E z) (F z)) → Eases (joins_both E) (joins_both F)
  joins_less E F h = eases _ _ (join_less (E true ++ E false) (F true ++ F false) (each_append (E true) (F true) (E false) (F false) (h true) (h false)))

  -- a stronger labelling asks for less
  pub premises_grow : (s : Stmt) → Eases (premises P thread lines known s) (premises P thread lines more s)
  premises_grow (Do op) = both_grow (λ z b m. premises_of P thread.lists z b m (op_needs op)) (λ z. asks_less P thread.lists z op)
  premises_grow (Put pool k) = both_grow (λ z b m. premises_of P thread.lists z b m (stmt_needs (Put pool k))) (λ z. put_less P thread.lists z pool k)
  premises_grow (EndLock o l) = both_grow (λ z b m. premises_of P thread.lists z b m (release_needs l.sq l.cq)) (λ z. release_less P thread.lists z l.sq l.cq)
  premises_grow (If test) = both_grow (λ z b m. premises_of P thread.lists z b m (test_needs test)) (λ z. test_less P thread.lists z test)
  premises_grow (EndIf o) = joins_less (λ z. here lines known z ∷ skipped thread lines known o z ∷ []) (λ z. here lines more z ∷ skipped thread lines more o z ∷ []) (ends_grow o)
  premises_grow (Peek x) = both_grow (λ z b m. with_lock 1 m.cq seen_asks) (λ z. peek_less)
  premises_grow (EndArm o) = both_grow (λ z b m. seen_asks (peeked_of m)) (λ z. seen_less)
  premises_grow (EndPeek o) = joins_less (λ z. arm_ends lines known o z) (λ z. arm_ends lines more o z) (λ z. arms_grow lines known more o z g)
  premises_grow (Loop k) = both_grow (λ z b m. loop_asks P 13 (items_at thread.lists k) z b m) (loop_less P 13 (items_at thread.lists k))
  premises_grow (EndLoop o k) = both_grow (λ z b m. loop_asks P 14 (items_at thread.lists k) z b m) (loop_less P 14 (items_at thread.lists k))
  premises_grow (Break o r l) = both_grow (λ z b m. premises_of P thread.lists z b m (leave_needs r.sq)) (λ z. leave_less P thread.lists z r.sq)
  premises_grow _ = no_premise

  -- and gives stronger states
  pub befores_grow : (s : Stmt) (z : Bool) → Meets (premises P thread lines known s) → EachWeaker (befores P thread lines known s z) (befores P thread lines more s z)
  befores_grow (Do op) z h = brings_grow (λ y. turns (write_of thread.flag op) y z) (λ s. goes s (λ b m. op_effect P b m op)) (λ y. goes_grow (λ b m. premises_of P thread.lists y b m (op_needs op)) (λ b m. op_effect P b m op) (grows P thread.lists y op) _ _ (here_grows y) (side_met (λ x b m. premises_of P thread.lists x b m (op_needs op)) y h))
  befores_grow (Put pool k) z h = (put_grows (items_at thread.lists k) _ _ (here_grows z), tt)
  befores_grow (Lock l) z h = (entered_grows P l _ _ (here_grows z), tt)
  befores_grow (EndLock o l) z h = (released_grows l _ _ (here_grows z), tt)
  befores_grow (If test) z h = (gate_grows (test_goes thread.flag test z true) _ _ (plain_grow (λ b m. test_effect P thread.lists b m test) (test_grows P thread.lists test) _ _ (here_grows z)), tt)
  befores_grow (Else o) z h = (skip_grows o z, tt)
  befores_grow (EndIf o) z h = ends_grow o z
  befores_grow (Peek x) z h = brings_grow (λ y. turns (write_to thread.flag x Anything) y z) (λ s. s) here_grows
  befores_grow (Case o u) z h = (case_grows u _ _ (g (o + 1) z), tt)
  befores_grow (Other o) z h = (peek_grows SeesOther _ _ (g (o + 1) z), tt)
  befores_grow (Nothing o) z h = (peek_grows Unseen _ _ (g (o + 1) z), tt)
  befores_grow (EndArm o) z h = tt
  befores_grow (EndPeek o) z h = arms_grow lines known more o z g
  befores_grow (Loop k) z h = brings_grow (λ y. turns (forgets thread.flag) y z) (λ s. top P (items_at thread.lists k) z s) (λ y. top_grows P (items_at thread.lists k) z _ _ (here_grows y))
  befores_grow (EndLoop o k) z h = breaks_grow lines known more o z g
  befores_grow (Break o r l) z h = tt

pub rules_grow : (P : Program) (thread : Thread) (lines : List Line) (known more : List Sides) (stmt : Stmt) → IsStronger known more → GrowsAt P thread lines known more stmt
rules_grow P thread lines known more stmt g = record {
  asks_less = λ v h. (premises_grow P thread lines known more g stmt).below v h;
  meets_too = λ h. (premises_grow P thread lines known more g stmt).meets h;
  gives_more = λ h z. befores_grow P thread lines known more g stmt z h;
}
