-- Labels that say less than others or the same, and what tests of slots tell.
use Rattle.std.proofs.Common.{◌≡◌, ◌≢◌, ℕ, ◌+◌, Bool, true, false, cond, not, ◌&&◌, ◌||◌, ◌≤◌, Option, Some, None, Result, Ok, Err, List, [], ◌∷◌, ◌++◌, drop, nat_eq, suc, refl, sym, ap, subst, ◌∙◌, arith}
use Rattle.std.specs.Prelude.{is_some, option_map, unwrap_or}
use Rattle.std.proofs.lemmas.Bool.{and_parts, eqb-true}
use Rattle.rc_lang.specs.declared.lines.Locks.{Locks}
use Rattle.rc_lang.specs.Locks.{with_locks, without_locks}
use Rattle.rc_lang.specs.declared.lines.Test.{Test}
use Rattle.rc_lang.specs.declared.lines.Test.TheVariants.{Compare, ReadyZero, SpaceAtLeast, Take, Any}
use Rattle.rc_lang.specs.declared.program.TokenKind.{TokenKind}
use Rattle.rc_lang.specs.declared.program.TokenKind.TheVariants.{Read, Write, Fsync, Nop, Other}
use Rattle.rc_lang.specs.Program.{Program, Items}
use Rattle.rc_rules.specs.declared.mode.Mode.{Mode}
use Rattle.rc_rules.specs.declared.mode.Peeked.{Peeked}
use Rattle.rc_rules.specs.declared.mode.Peeked.TheVariants.{Unseen, Sees, SeesOther, Got}
use Rattle.rc_rules.specs.declared.mode.Slot.{Slot}
use Rattle.rc_rules.specs.declared.mode.Slot.TheVariants.{Closed, Vacant, Prepared}
use Rattle.rc_rules.specs.declared.mode.Submitting.{Submitting}
use Rattle.rc_rules.specs.Labels.{Label, Dead, Live, UnderLock, Weaker, WeakerMode, WeakerPeeked, Same, Unknown, WeakerSubmitting, WeakerThanEach, IsStrongest, IsSame}
use Rattle.rc_rules.specs.Labellings.{label_at}
use Rattle.rc_rules.specs.Sides.{Sides}
use Rattle.rc_rules.specs.declared.cause.Cause.{Cause}
use Rattle.rc_rules.specs.Causes.{premise_number}
use Rattle.rc_rules.specs.Kinds.{same_kind}
use Rattle.rc_rules.specs.Premises.{Premise, Meets, MeetsBelow, FailsFirst, Tests}
use Rattle.rc_rules.specs.Rules.{is_got, locks_of, peeked_of, same_slot, sq_of, at_most, freed, locked, test_mode, top_mode, with_peeked}

-- ---- under a lock

module _ {A : Type 0} (F : A → A → Type 0) where
  pub lock_refl : ((s : A) → F s s) → (o : Option A) → UnderLock F o o
  lock_refl h None = tt
  lock_refl h (Some s) = h s

  pub lock_sym : ((s t : A) → F s t → F t s) → (o p : Option A) → UnderLock F o p → UnderLock F p o
  lock_sym h None None v = tt
  lock_sym h None (Some t) v = v
  lock_sym h (Some s) None v = v
  lock_sym h (Some s) (Some t) v = h s t v

  pub lock_trans : ((s t u : A) → F s t → F t u → F s u) → (o p q : Option A) → UnderLock F o p → UnderLock F p q → UnderLock F o q
  lock_trans h None None q v w = w
  lock_trans h None (Some t) q v w = absurd v
  lock_trans h (Some s) None q v w = absurd v
  lock_trans h (Some s) (Some t) None v w = absurd w
  lock_trans h (Some s) (Some t) (Some u) v w = h s t u v w

  pub lock_held : (o p : Option A) → UnderLock F o p → is_some o ≡ is_some p
  lock_held None None v = refl
  lock_held None (Some t) v = absurd v
  lock_held (Some s) None v = absurd v
  lock_held (Some s) (Some t) v = refl

  -- what is known without the lock too
  pub lock_known : (d : A) → F d d → (o p : Option A) → UnderLock F o p → F (unwrap_or o d) (unwrap_or p d)
  lock_known d h None None v = h
  lock_known d h None (Some t) v = absurd v
  lock_known d h (Some s) None v = absurd v
  lock_known d h (Some s) (Some t) v = v

  pub lock_map : (G : A → A → Type 0) → ((s t : A) → F s t → G s t) → (o p : Option A) → UnderLock F o p → UnderLock G o p
  lock_map G h None None v = tt
  lock_map G h None (Some t) v = v
  lock_map G h (Some s) None v = v
  lock_map G h (Some s) (Some t) v = h s t v

  pub lock_maps : (G : A → A → Type 0) (f : A → A) → ((s t : A) → F s t → G (f s) (f t)) → (o p : Option A) → UnderLock F o p → UnderLock G (option_map f o) (option_map f p)
  lock_maps G f h None None v = tt
  lock_maps G f h None (Some t) v = v
  lock_maps G f h (Some s) None v = v
  lock_maps G f h (Some s) (Some t) v = h s t v

  -- where it is taken, or released, where that is said
  pub lock_taken : (b : Bool) (s : A) (o p : Option A) → F s s → UnderLock F o p → UnderLock F (cond b (Some s) o) (cond b (Some s) p)
  lock_taken true s o p h v = h
  lock_taken false s o p h v = v

  pub lock_freed : (b : Bool) (o p : Option A) → UnderLock F o p → UnderLock F (cond b None o) (cond b None p)
  lock_freed true o p v = tt
  lock_freed false o p v = v

-- ---- what is peeked

pub peeked_refl : (p : Peeked) → WeakerPeeked p p
peeked_refl p = Same refl

-- Where nothing is known, least is.
pub unseen_least : (p : Peeked) → p ≢ Got → WeakerPeeked Unseen p
unseen_least p n = Unknown refl n

-- What is true of what is peeked, and where that isn't known, is true where less is known.
pub peeked_less : (F : Peeked → Type 0) → F Unseen → (p q : Peeked) → WeakerPeeked p q → F q → F p
peeked_less F u p q (Same e) f = subst F (sym e) f
peeked_less F u p q (Unknown e n) f = subst F (sym e) u

peeked_trans : (p q r : Peeked) → WeakerPeeked p q → WeakerPeeked q r → WeakerPeeked p r
peeked_trans p q r (Same e) v = subst (λ x. WeakerPeeked x r) (sym e) v
peeked_trans p q r (Unknown e n) (Same f) = Unknown e (λ g. n (f ∙ g))
peeked_trans p q r (Unknown e n) (Unknown f m) = Unknown e m

pub peeked_same : (p q : Peeked) → WeakerPeeked p q → WeakerPeeked q p → p ≡ q
peeked_same p q (Same e) v = e
peeked_same p q (Unknown e n) (Same f) = sym f
peeked_same p q (Unknown e n) (Unknown f m) = e ∙ sym f

not_got : (p : Peeked) → p ≢ Got → is_got p ≡ false
not_got Unseen n = refl
not_got (Sees u) n = refl
not_got SeesOther n = refl
not_got Got n = absurd (n refl)

-- Whether it is got is always known.
pub got_same : (p q : Peeked) → WeakerPeeked p q → is_got p ≡ is_got q
got_same p q (Same e) = ap is_got e
got_same p q (Unknown e n) = ap is_got e ∙ sym (not_got q n)

-- ---- modes

submitting_refl : (s : Submitting) → WeakerSubmitting s s
submitting_refl s = record { queued = omega arith; slot = refl }

pub mode_refl : (m : Mode) → WeakerMode m m
mode_refl m = (lock_refl WeakerSubmitting submitting_refl m.sq, lock_refl WeakerPeeked peeked_refl m.cq)

submitting_trans : (s t u : Submitting) → WeakerSubmitting s t → WeakerSubmitting t u → WeakerSubmitting s u
submitting_trans s t u v w = record { queued = omega (arith, v.queued, w.queued); slot = v.slot ∙ w.slot }

pub mode_trans : (m n o : Mode) → WeakerMode m n → WeakerMode n o → WeakerMode m o
mode_trans m n o v w = (lock_trans WeakerSubmitting submitting_trans m.sq n.sq o.sq v.0 w.0, lock_trans WeakerPeeked peeked_trans m.cq n.cq o.cq v.1 w.1)

pub sq_weaker : (m n : Mode) → WeakerMode m n → WeakerSubmitting (sq_of m) (sq_of n)
sq_weaker m n v = lock_known WeakerSubmitting (record { queued = 0; slot = Closed }) (submitting_refl _) m.sq n.sq v.0

pub peeked_weaker : (m n : Mode) → WeakerMode m n → WeakerPeeked (peeked_of m) (peeked_of n)
peeked_weaker m n v = lock_known WeakerPeeked Unseen (peeked_refl Unseen) m.cq n.cq v.1

-- ---- locks

-- which of the two
abbrev pub these : Bool → Bool → Locks
these a b = record { sq = a; cq = b }

pub locks_equal : (m n : Mode) → is_some m.sq ≡ is_some n.sq → is_some m.cq ≡ is_some n.cq → locks_of m ≡ locks_of n
locks_equal m n e f = ap (λ a. these a (is_some m.cq)) e ∙ ap (these (is_some n.sq)) f

pub sq_given : (m : Mode) (s : Submitting) → m.sq ≡ Some s → these true (is_some m.cq) ≡ locks_of m
sq_given m s e = ap (λ a. these a (is_some m.cq)) (sym (ap is_some e))

pub cq_given : (m : Mode) (p : Peeked) → m.cq ≡ Some p → these (is_some m.sq) true ≡ locks_of m
cq_given m p e = ap (these (is_some m.sq)) (sym (ap is_some e))

pub taken_held : {A : Type 0} (b : Bool) (s : A) (o : Option A) → is_some (cond b (Some s) o) ≡ (is_some o || b)
taken_held true s None = refl
taken_held true s (Some t) = refl
taken_held false s None = refl
taken_held false s (Some t) = refl

pub freed_held : {A : Type 0} (b : Bool) (o : Option A) → is_some (cond b None o) ≡ (is_some o && not b)
freed_held true None = refl
freed_held true (Some s) = refl
freed_held false None = refl
freed_held false (Some s) = refl

pub locked_locks : (P : Program) (l : Locks) (m : Mode) → locks_of (locked P l m) ≡ with_locks (locks_of m) l
locked_locks P l m = ap (λ x. these x (is_some (cond l.cq (Some Unseen) m.cq))) (taken_held l.sq _ m.sq) ∙ ap (these (is_some m.sq || l.sq)) (taken_held l.cq _ m.cq)

pub freed_locks : (l : Locks) (m : Mode) → locks_of (freed l m) ≡ without_locks (locks_of m) l
freed_locks l m = ap (λ x. these x (is_some (cond l.cq None m.cq))) (freed_held l.sq m.sq) ∙ ap (these (is_some m.sq && not l.sq)) (freed_held l.cq m.cq)

pub locks_same : (m n : Mode) → WeakerMode m n → locks_of m ≡ locks_of n
locks_same m n w = locks_equal m n (lock_held WeakerSubmitting m.sq n.sq w.0) (lock_held WeakerPeeked m.cq n.cq w.1)

pub map_held : {A : Type 0} (f : A → A) (o : Option A) → is_some (option_map f o) ≡ is_some o
map_held f None = refl
map_held f (Some s) = refl

pub peeked_locks : (p : Peeked) (m : Mode) → locks_of (with_peeked p m) ≡ locks_of m
peeked_locks p m = locks_equal (with_peeked p m) m refl (map_held (λ _. p) m.cq)

most_locks : (n : ℕ) (m : Mode) → locks_of (at_most n m) ≡ locks_of m
most_locks n m = locks_equal (at_most n m) m (map_held _ m.sq) refl

pub test_locks : (P : Program) (test : Test) (m : Mode) → locks_of (test_mode P test m) ≡ locks_of m
test_locks P (Compare x c n) m = refl
test_locks P ReadyZero m = most_locks _ m
test_locks P (SpaceAtLeast n) m = most_locks _ m
test_locks P (Take pool k) m = refl
test_locks P Any m = refl

pub top_locks : (P : Program) (items : Items) (m : Mode) → locks_of (top_mode P items m) ≡ locks_of m
top_locks P items m = locks_equal (top_mode P items m) m (map_held _ m.sq) (map_held _ m.cq)

-- ---- labels

pub weaker_refl : (s : Label) → Weaker s s
weaker_refl Dead = tt
weaker_refl (Live bag m) = (λ p. omega arith, mode_refl m)

pub weaker_trans : (s t u : Label) → Weaker s t → Weaker t u → Weaker s u
weaker_trans s t Dead v w = tt
weaker_trans s Dead (Live c o) v w = absurd w
weaker_trans Dead (Live b n) (Live c o) v w = absurd v
weaker_trans (Live a m) (Live b n) (Live c o) v w = (λ p. omega (arith, v.0 p, w.0 p), mode_trans m n o v.1 w.1)

pub weaker_each : (s t : Label) (ts : List Label) → Weaker s t → WeakerThanEach t ts → WeakerThanEach s ts
weaker_each s t [] w h = tt
weaker_each s t (x ∷ ts) w h = (weaker_trans s t x w h.0, weaker_each s t ts w h.1)

pub same_below : (s t : Label) → IsSame s t → Weaker s t
same_below Dead Dead e = tt
same_below Dead (Live b n) e = absurd e
same_below (Live a m) Dead e = tt
same_below (Live a m) (Live b n) e = (λ p. omega (arith, e.0 p), subst (WeakerMode m) e.1 (mode_refl m))

pub same_above : (s t : Label) → IsSame s t → Weaker t s
same_above Dead Dead e = tt
same_above Dead (Live b n) e = absurd e
same_above (Live a m) Dead e = absurd e
same_above (Live a m) (Live b n) e = (λ p. omega (arith, e.0 p), subst (λ k. WeakerMode k m) e.1 (mode_refl m))

-- The strongest that is weaker than one label alone is as strong as it.
pub strongest : (s t : Label) → IsSame s t → IsStrongest s (t ∷ [])
strongest s t e = record { weaker = (same_below s t e, tt); strongest = λ u w. weaker_trans u t s w.0 (same_above s t e) }

-- so of two that are the same, and of one beside a dead one
pub strongest_both : (s t u : Label) → IsSame s t → IsSame s u → IsStrongest s (t ∷ u ∷ [])
strongest_both s t u e f = record { weaker = (same_below s t e, (same_below s u f, tt)); strongest = λ v w. weaker_trans v t s w.0 (same_above s t e) }

pub strongest_left : (s t : Label) → IsSame s t → IsStrongest s (t ∷ Dead ∷ [])
strongest_left s t e = record { weaker = (same_below s t e, (tt, tt)); strongest = λ v w. weaker_trans v t s w.0 (same_above s t e) }

pub strongest_right : (s t : Label) → IsSame s t → IsStrongest s (Dead ∷ t ∷ [])
strongest_right s t e = record { weaker = (tt, (same_below s t e, tt)); strongest = λ v w. weaker_trans v t s w.1.0 (same_above s t e) }

pub same_refl : (s : Label) → IsSame s s
same_refl Dead = tt
same_refl (Live bag m) = (λ p. refl, refl)

pub only_itself : (s : Label) → IsStrongest s (s ∷ [])
only_itself s = record { weaker = (weaker_refl s, tt); strongest = λ t w. w.0 }

pub peeked_grows : (p : Peeked) (m n : Mode) → WeakerMode m n → WeakerMode (with_peeked p m) (with_peeked p n)
peeked_grows p m n v = (v.0, lock_maps WeakerPeeked WeakerPeeked (λ _. p) (λ s t w. peeked_refl p) m.cq n.cq v.1)

pub label_drop : (labels : List Sides) (k : ℕ) (z : Bool) → label_at (drop 1 labels) k z ≡ label_at labels (suc k) z
label_drop [] k z = refl
label_drop (s ∷ labels) k z = refl

-- ---- slots

pub same_kind_is : (k l : TokenKind) → same_kind k l ≡ true → k ≡ l
same_kind_is (Read b) (Read c) e = ap Read (eqb-true b c e)
same_kind_is (Write b k) (Write c l) e =
    let h = and_parts (nat_eq b c) (nat_eq k l) e in
    let p : b ≡ c = eqb-true b c h.0 in
    let q : k ≡ l = eqb-true k l h.1 in
    cc
same_kind_is Fsync Fsync e = refl
same_kind_is Nop Nop e = refl
same_kind_is Other Other e = refl
same_kind_is _ _ e = absurd (cc)

pub same_slot_is : (s t : Slot) → same_slot s t ≡ true → s ≡ t
same_slot_is Closed Closed e = refl
same_slot_is Vacant Vacant e = refl
same_slot_is (Prepared k) (Prepared l) e = ap Prepared (same_kind_is k l e)
same_slot_is _ _ e = absurd (cc)

-- ---- premises

pub meets_below : (n : ℕ) (ps : List (ℕ × Premise)) → Meets ps → MeetsBelow n ps
meets_below n [] h = tt
meets_below n (p ∷ ps) h = (λ lt. h.0, meets_below n ps h.1)

-- What is met fails nowhere.
pub not_both : (n : ℕ) (ps : List (ℕ × Premise)) → Meets ps → FailsFirst n ps → ⊥
not_both n ps h f = f.fails (meets_below (n + 1) ps h)

pub meets_append : (ps qs : List (ℕ × Premise)) → Meets ps → Meets qs → Meets (ps ++ qs)
meets_append [] qs h g = g
meets_append (p ∷ ps) qs h g = (h.0, meets_append ps qs h.1 g)

pub meets_left : (ps qs : List (ℕ × Premise)) → Meets (ps ++ qs) → Meets ps
meets_left [] qs h = tt
meets_left (p ∷ ps) qs h = (h.0, meets_left ps qs h.1)

pub meets_right : (ps qs : List (ℕ × Premise)) → Meets (ps ++ qs) → Meets qs
meets_right [] qs h = h
meets_right (p ∷ ps) qs h = meets_right ps qs h.1

pub below_append : (n : ℕ) (ps qs : List (ℕ × Premise)) → MeetsBelow n ps → MeetsBelow n qs → MeetsBelow n (ps ++ qs)
below_append n [] qs h g = g
below_append n (p ∷ ps) qs h g = (h.0, below_append n ps qs h.1 g)

pub below_left : (n : ℕ) (ps qs : List (ℕ × Premise)) → MeetsBelow n (ps ++ qs) → MeetsBelow n ps
below_left n [] qs h = tt
below_left n (p ∷ ps) qs h = (h.0, below_left n ps qs h.1)

pub below_right : (n : ℕ) (ps qs : List (ℕ × Premise)) → MeetsBelow n (ps ++ qs) → MeetsBelow n qs
below_right n [] qs h = h
below_right n (p ∷ ps) qs h = below_right n ps qs h.1

pub below_fewer : (m n : ℕ) (ps : List (ℕ × Premise)) → m ≤ n → MeetsBelow n ps → MeetsBelow m ps
below_fewer m n [] l h = tt
below_fewer m n (p ∷ ps) l h = (λ lt. h.0 (omega (arith, lt, l)), below_fewer m n ps l h.1)

-- the least that fails of two lists
pub fails_left : (n : ℕ) (ps qs : List (ℕ × Premise)) → FailsFirst n ps → MeetsBelow n qs → FailsFirst n (ps ++ qs)
fails_left n ps qs f h = record { below = below_append n ps qs f.below h; fails = λ m. f.fails (below_left (n + 1) ps qs m) }

pub fails_right : (n : ℕ) (ps qs : List (ℕ × Premise)) → MeetsBelow n ps → FailsFirst n qs → FailsFirst n (ps ++ qs)
fails_right n ps qs h f = record { below = below_append n ps qs h f.below; fails = λ m. f.fails (below_right (n + 1) ps qs m) }

pub tests_append : (r : Result (Unit {0}) Cause) (ps qs : List (ℕ × Premise)) → Meets ps → Tests r qs → Tests r (ps ++ qs)
tests_append (Ok x) ps qs h g = meets_append ps qs h g
tests_append (Err c) ps qs h g = fails_right (premise_number c) ps qs (meets_below (premise_number c) ps h) g
