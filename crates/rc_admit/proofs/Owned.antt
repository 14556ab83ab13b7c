-- What is true of each world of an accepted program, over any claim of how a thread may stand.
use Rattle.std.proofs.Common.{◌≡◌, ℕ, zero, suc, ◌+◌, ◌<◌, ◌≤◌, Bool, true, false, ◌||◌, List, [], ◌∷◌, length, Option, Some, None, refl, sym, ap, ◌∙◌, subst, ◌⊎◌, arith}
use Rattle.std.specs.Prelude.{is_some, not, option_map, replicate, slice_get, slice_set, slice_index_or, unwrap_or, ℤ, pos}
use Rattle.rc_lang.specs.Comparisons.{compares}
use Rattle.rc_lang.specs.declared.lines.Op.{Op}
use Rattle.rc_lang.specs.declared.lines.Op.TheVariants.{Set, Assign, Add, Subtract, Load, Submit, SubmitAndWait}
use Rattle.rc_lang.specs.declared.lines.Stmt.{Stmt}
use Rattle.rc_lang.specs.declared.lines.Stmt.TheVariants.{Do, Put, Lock, EndLock, If, Else, EndIf, Peek, EndArm, Loop, EndLoop, Break}
use Rattle.rc_lang.specs.declared.lines.Test.{Test}
use Rattle.rc_lang.specs.declared.lines.Test.TheVariants.{Compare, ReadyZero, SpaceAtLeast, Take, Any}
use Rattle.rc_lang.specs.Program.{Program, Thread, end_at, items_at, lines_of, lists_of, stmt_at}
use Rattle.rc_lang.proofs.Closing.{AreAmong}
use Rattle.rc_rules.specs.declared.mode.Mode.{Mode}
use Rattle.rc_rules.specs.declared.mode.Peeked.{Peeked}
use Rattle.rc_rules.specs.declared.mode.Peeked.TheVariants.{Unseen, Sees, SeesOther, Got}
use Rattle.rc_rules.specs.declared.mode.Slot.{Slot}
use Rattle.rc_rules.specs.declared.mode.Slot.TheVariants.{Closed, Vacant, Prepared}
use Rattle.rc_rules.specs.declared.mode.Submitting.{Submitting}
use Rattle.rc_rules.specs.Kinds.{kind_bag}
use Rattle.rc_rules.specs.Labels.{Live, UnderLock, WeakerMode, WeakerPeeked, Same, Unknown, WeakerSubmitting}
use Rattle.rc_rules.specs.Premises.{Meets}
use Rattle.rc_rules.proofs.Weaker.{mode_refl, mode_trans}
use Rattle.rc_rules.specs.Needs.{line_premises}
use Rattle.rc_rules.specs.Labellings.{headers_bag}
use Rattle.rc_rules.specs.Rules.{broken, freed, is_got, limit, locked, locks_of, op_effect, sq_of, test_effect, unlocked, with_peeked}
use Rattle.rc_split.specs.Bags.{Part, TokenOf, bag_of, begun, credits_bag, minus}
use Rattle.rc_split.specs.Pools.{all_pooled}
use Rattle.rc_world.specs.declared.controls.Look.{Look}
use Rattle.rc_world.specs.declared.controls.Look.TheVariants as looks
use Rattle.rc_world.specs.declared.event.Completion.{Completion}
use Rattle.rc_world.specs.declared.world.Slot.{Slot as Entry}
use Rattle.rc_world.specs.declared.world.Slot.TheVariants as entries
use Rattle.rc_world.specs.Controls.{Standing, arm_for, ends_arm, hop_of, is_arm_end, none_arm, or_from, settled}
use Rattle.rc_world.specs.Faults.{is_holder}
use Rattle.rc_world.specs.Machine.{Pending, World, slot_len}
use Rattle.rc_admit.specs.Worlds.{unreaped}
use Rattle.rc_admit.proofs.Flight.{data_in, data_of, in_flight, is_reaped, of_pending}
use Rattle.rc_admit.proofs.RequestKinds.{FitsKind, HasKind, owns}
use Rattle.rc_admit.proofs.Lists.{sum_to, sum_to_one, sum_to_two, Each}
use Rattle.rc_admit.proofs.Rule.{AtLive}

-- ---- claims of how a thread may stand

-- with this number, this bag and mode, these variables, and at this place
abbrev pub Stand : Type 1
Stand = ℕ → (Part → ℕ) → Mode → List ℤ → ℕ → Type 0

-- A state no stronger than this one, in which the thread may be.
pub record Leads (S : ℕ → (Part → ℕ) → Mode → List ℤ → ℕ → Type 0) (i : ℕ) (b : Part → ℕ) (m : Mode) (vars : List ℤ) (place : ℕ) : Type 0 where
  pub bag : Part → ℕ
  pub mode : Mode
  pub less : (p : Part) → bag p ≤ b p
  pub weaker : WeakerMode mode m
  pub stands : S i bag mode vars place

-- what a statement without a block may do to the variables
abbrev pub MayBecome : Op → List ℤ → List ℤ → Type 0
MayBecome (Set x n) vars new = new ≡ slice_set vars x n
MayBecome (Assign x y) vars new = (v : ℤ) × (new ≡ slice_set vars x v)
MayBecome (Add x y z) vars new = (v : ℤ) × (new ≡ slice_set vars x v)
MayBecome (Subtract x y z) vars new = (v : ℤ) × (new ≡ slice_set vars x v)
MayBecome (Load x b i) vars new = (v : ℤ) × (new ≡ slice_set vars x v)
MayBecome (Submit x) vars new = (v : ℤ) × (new ≡ slice_set vars x v)
MayBecome (SubmitAndWait x n) vars new = (v : ℤ) × (new ≡ slice_set vars x v)
MayBecome _ vars new = new ≡ vars

-- which tests of variables may turn out so
abbrev pub MayPass : Test → List ℤ → Bool → Type 0
MayPass (Compare x c n) vars b = compares c (slice_index_or vars x (pos 0)) n ≡ b
MayPass ReadyZero vars b = Unit {0}
MayPass (SpaceAtLeast n) vars b = Unit {0}
MayPass (Take pool k) vars b = Unit {0}
MayPass Any vars b = Unit {0}

-- The edge law at the line k of thread i: the state before it meets the premises of the line, and the rule's state
-- after it leads to one in which the thread may be.
abbrev pub EdgeAt : Program → Stand → ℕ → (Part → ℕ) → Mode → List ℤ → ℕ → Option Stmt → Type 0
EdgeAt P S i b m vars k (Some (Do op)) = Meets (line_premises P [] b m (Do op)) × AtLive (op_effect P b m op) (λ c n. (new : List ℤ) → MayBecome op vars new → Leads S i c n new (k + 1))
EdgeAt P S i b m vars k (Some (Put pool n)) = Meets (line_premises P (items_at (lists_of P i) n ∷ []) b m (Put pool 0)) × Leads S i (minus b (bag_of (items_at (lists_of P i) n))) m vars (k + 1)
EdgeAt P S i b m vars k (Some (Lock l)) = Leads S i b (locked P l m) vars (k + 1)
EdgeAt P S i b m vars k (Some (EndLock o l)) = AreAmong l (locks_of m) × Meets (line_premises P [] b m (EndLock 0 l)) × Leads S i b (freed l m) vars (k + 1)
EdgeAt P S i b m vars k (Some (If test)) = Meets (line_premises P [] b m (If test))
    × AtLive (test_effect P (lists_of P i) b m test) (λ c n. MayPass test vars true → Leads S i c n vars (k + 1))
    × (MayPass test vars false → Leads S i b m vars (end_at P i k + 1))
EdgeAt P S i b m vars k (Some (Else o)) = Leads S i b m vars (end_at P i k + 1)
EdgeAt P S i b m vars k (Some (EndIf o)) = Leads S i b m vars (k + 1)
EdgeAt P S i b m vars k (Some (Peek x)) = Meets (line_premises P [] b m (Peek 0))
    × ((u : ℕ) (v : ℤ) → (1 ≤ b (TokenOf u)) ⊎ (Leads S i b (with_peeked (Sees u) m) (slice_set vars x v) (arm_for P i k u + 1) ⊎ Leads S i b (with_peeked SeesOther m) (slice_set vars x v) (arm_for P i k u + 1)))
    × ((v : ℤ) → Leads S i b (with_peeked Unseen m) (slice_set vars x v) (none_arm P i k + 1))
EdgeAt P S i b m vars k (Some (EndArm o)) = (is_some m.cq ≡ true) × Meets (line_premises P [] b m (EndArm o)) × Leads S i b (with_peeked Unseen m) vars (end_at P i o + 1)
EdgeAt P S i b m vars k (Some (Loop n)) = Leads S i b m vars (k + 1)
EdgeAt P S i b m vars k (Some (EndLoop o n)) = Leads S i b m vars (o + 1)
EdgeAt P S i b m vars k (Some (Break o releases leaves)) = AreAmong releases (locks_of m) × (leaves ≡ true → is_some m.cq ≡ true) × Meets (line_premises P [] b m (Break 0 releases false))
    × AtLive (broken releases (Live b m)) (λ c n. Leads S i c n vars (end_at P i o + 1))
EdgeAt P S i b m vars k _ = Unit {0}

abbrev pub Edge : Program → Stand → ℕ → (Part → ℕ) → Mode → List ℤ → ℕ → Type 0
Edge P S i b m vars k = EdgeAt P S i b m vars k (stmt_at (lines_of P i) k)

abbrev pub HasEdge : Program → Stand → Type 0
HasEdge P S = (i : ℕ) (b : Part → ℕ) (m : Mode) (vars : List ℤ) (k : ℕ) → S i b m vars k → Edge P S i b m vars k

-- The thread may be so as it begins.
abbrev pub HasStart : Program → Stand → Type 0
HasStart P S = (i : ℕ) (t : Thread) → slice_get P.threads i ≡ Some t → Leads S i (bag_of t.items) unlocked (replicate 64 (pos 0)) 0

-- ---- what is owned

-- what a label's slot owns: a vacant one a credit, a prepared one also the shares that its prep took
abbrev pub slot_bag : Program → Slot → Part → ℕ
slot_bag P Closed p = 0
slot_bag P Vacant p = credits_bag 1 p
slot_bag P (Prepared kind) p = kind_bag P kind p + credits_bag 1 p

abbrev pub mode_bag : Program → Mode → Part → ℕ
mode_bag P m p = slot_bag P (sq_of m).slot p

abbrev pub owns_pending : Program → Part → Pending → ℕ
owns_pending P p = of_pending (owns P p)

-- what a front completion owns that is got: its place in the ring
abbrev pub place_bag : Look → Part → ℕ
place_bag looks.Unseen p = 0
place_bag looks.Peeked p = 0
place_bag looks.Got p = credits_bag 1 p

-- what no thread holds: what the requests in flight own, and a completion that is got, and what is in the pools
abbrev pub unheld : Program → World → Part → ℕ
unheld P w p = in_flight (owns P p) w + place_bag w.controls.look p + all_pooled P w.controls.pools p

abbrev pub SlotFits : Entry → Slot → Type 0
SlotFits entries.Closed Closed = Unit {0}
SlotFits entries.Vacant Vacant = Unit {0}
SlotFits (entries.Prepared r) (Prepared kind) = FitsKind r kind
SlotFits _ _ = ⊥

abbrev pub StartsWith : ℕ → List Completion → Type 0
StartsWith u [] = ⊥
StartsWith u (c ∷ cs) = c.user_data ≡ u

abbrev pub IsNonempty : List Completion → Type 0
IsNonempty [] = ⊥
IsNonempty (c ∷ cs) = Unit {0}

-- The label says that the front completion is got exactly where it is.
abbrev pub FrontFits : Look → List Completion → Peeked → Type 0
FrontFits look cs Unseen = is_reaped look ≡ false
FrontFits look cs (Sees u) = (look ≡ looks.Peeked) × StartsWith u cs
FrontFits look cs SeesOther = (look ≡ looks.Peeked) × IsNonempty cs
FrontFits look cs Got = (look ≡ looks.Got) × IsNonempty cs

-- A label has a lock exactly where its thread holds it, and this is so of what it knows under it.
abbrev pub IfHeld : {A : Type 0} → (A → Type 0) → Bool → Option A → Type 0
IfHeld F false None = Unit {0}
IfHeld F true (Some s) = F s
IfHeld F false (Some s) = ⊥
IfHeld F true None = ⊥

abbrev pub QueueFits : ℕ → Entry → Submitting → Type 0
QueueFits n slot s = (n + slot_len slot ≤ s.queued) × SlotFits slot s.slot

-- what each side of a thread's label says of the ring; the Bool is whether it holds the lock, n how many are queued
abbrev pub SqFits : (n : ℕ) → Entry → Bool → Option Submitting → Type 0
SqFits n slot h o = IfHeld (QueueFits n slot) h o

abbrev pub CqFits : Look → List Completion → Bool → Option Peeked → Type 0
CqFits look cs h o = IfHeld (FrontFits look cs) h o

abbrev pub held : Program → (Part → ℕ) → Mode → Part → ℕ
held P b m p = b p + mode_bag P m p

abbrev pub HasKindPending : Program → Pending → Type 0
HasKindPending P x = HasKind P x.request

pub record Owned (P : Program) (S : ℕ → (Part → ℕ) → Mode → List ℤ → ℕ → Type 0) (w : World) (bags : ℕ → Part → ℕ) (modes : ℕ → Mode) : Type 0 where
  pub of : w.program ≡ P
  pub room : length w.queued + slot_len w.slot ≤ P.entries
  pub stands : (i : ℕ) (t : Standing) → slice_get w.controls.threads i ≡ Some t → S i (bags i) (modes i) t.variables t.place
  pub total : (p : Part) → sum_to (λ i. held P (bags i) (modes i) p) (length w.controls.threads) + unheld P w p ≤ headers_bag (begun P.stock P.threads) p
  pub within : (p : Part) → headers_bag (begun P.stock P.threads) p ≤ limit P p
  pub free : w.controls.holders.sq ≡ None → (length w.queued ≤ P.left) × (w.slot ≡ entries.Closed)
  pub submits : (i : ℕ) → SqFits (length w.queued) w.slot (is_holder w.controls.holders.sq i) (modes i).sq
  pub idle : w.controls.holders.cq ≡ None → is_reaped w.controls.look ≡ false
  pub reaps : (i : ℕ) → CqFits w.controls.look w.completions (is_holder w.controls.holders.cq i) (modes i).cq
  pub queued : Each (HasKind P) w.queued
  pub pending : Each (HasKindPending P) w.pending
  pub completed : Each (HasKind P) w.completed
  pub agree : data_of w.completed ≡ data_in (unreaped w.controls.look w.completions)

abbrev pub WellOwned : Program → Stand → World → Type 0
WellOwned P S w = (bags : ℕ → Part → ℕ) × (modes : ℕ → Mode) × Owned P S w bags modes

-- ---- nothing is owned twice

module _ (P : Program) (S : Stand) (w : World) (bags : ℕ → Part → ℕ) (modes : ℕ → Mode) (o : Owned P S w bags modes) (p : Part) where
  -- What threads hold, requests own and pools have is at most what there is.
  pub bound : sum_to (λ i. held P (bags i) (modes i) p) (length w.controls.threads) + unheld P w p ≤ limit P p
  bound = omega (arith, o.total p, o.within p)

  -- It is at most what threads begin with: nothing is made anew.
  pub bound_given : (i : ℕ) → i < length w.controls.threads → bags i p + unheld P w p ≤ headers_bag (begun P.stock P.threads) p
  bound_given i lt = omega (arith, o.total p, sum_to_one (λ j. held P (bags j) (modes j) p) (length w.controls.threads) i lt)

  -- so without what threads hold, and with what one or two of them hold
  pub bound_unheld : unheld P w p ≤ limit P p
  bound_unheld = omega (arith, bound)

  pub bound_one : (i : ℕ) → i < length w.controls.threads → bags i p + unheld P w p ≤ limit P p
  bound_one i lt = omega (arith, bound, sum_to_one (λ j. held P (bags j) (modes j) p) (length w.controls.threads) i lt)

  pub bound_two : (i j : ℕ) → (i ≡ j → ⊥) → i < length w.controls.threads → j < length w.controls.threads → bags i p + bags j p + unheld P w p ≤ limit P p
  bound_two i j ne lt lt' = omega (arith, bound, sum_to_two (λ k. held P (bags k) (modes k) p) (length w.controls.threads) i j ne lt lt')

-- ---- weaker modes

abbrev pub IsUnseen : Option Peeked → Type 0
IsUnseen None = ⊥
IsUnseen (Some p) = p ≡ Unseen

unseen_in : (o : Option Peeked) → is_some o ≡ true → IsUnseen (option_map (λ _. Unseen) o)
unseen_in None e = absurd (cc)
unseen_in (Some p) e = refl

-- Where the front isn't got, less may be said of it.
unseen_least : (p : Peeked) → not (is_got p) ≡ true → WeakerPeeked Unseen p
unseen_least p e = Unknown refl (λ g. let h : not (is_got p) ≡ false = ap (λ q. not (is_got q)) g in cc)

pub front_below : (o : Option Peeked) → not (is_got (unwrap_or o Unseen)) ≡ true → UnderLock WeakerPeeked (option_map (λ _. Unseen) o) o
front_below None e = tt
front_below (Some p) e = unseen_least p e

unseen_below : (m : Mode) → not (is_got (unwrap_or m.cq Unseen)) ≡ true → WeakerMode (with_peeked Unseen m) m
unseen_below m e = ((mode_refl m).0, front_below m.cq e)

unseen_weaker : (o p : Option Peeked) → UnderLock WeakerPeeked o p → IsUnseen p → IsUnseen o
unseen_weaker None None w u = u
unseen_weaker None (Some q) w u = absurd w
unseen_weaker (Some p) None w u = absurd w
unseen_weaker (Some p) (Some q) (Same e) u = e ∙ u
unseen_weaker (Some p) (Some q) (Unknown e n) u = e

-- ---- what fits under a lock

module _ {A : Type 0} (F : A → Type 0) where
  pub held_parts : (h : Bool) (s : A) → IfHeld F h (Some s) → (h ≡ true) × F s
  held_parts true s f = (refl, f)
  held_parts false s f = absurd f

  pub held_made : (h : Bool) (s : A) → h ≡ true → F s → IfHeld F h (Some s)
  held_made true s e f = f
  held_made false s e f = absurd (cc)

  -- who doesn't hold the lock says nothing of its side
  pub not_held : (G : A → Type 0) (h k : Bool) (o : Option A) → h ≡ false → k ≡ false → IfHeld F h o → IfHeld G k o
  not_held G false false None e f g = tt
  not_held G false false (Some s) e f g = g
  not_held G true k o e f g = absurd (cc)
  not_held G false true o e f g = absurd (cc)

  pub held_map : (G : A → Type 0) → ((s : A) → F s → G s) → (h : Bool) (o : Option A) → IfHeld F h o → IfHeld G h o
  held_map G g false None f = tt
  held_map G g false (Some s) f = f
  held_map G g true None f = f
  held_map G g true (Some s) f = g s f

  -- a label that says less fits too
  pub held_weaker : (W : A → A → Type 0) → ((s t : A) → W t s → F s → F t) → (h : Bool) (o p : Option A) → UnderLock W p o → IfHeld F h o → IfHeld F h p
  held_weaker W g h None None w f = f
  held_weaker W g h None (Some t) w f = absurd w
  held_weaker W g h (Some s) None w f = absurd w
  held_weaker W g false (Some s) (Some t) w f = f
  held_weaker W g true (Some s) (Some t) w f = g s t w f

-- A label that doesn't say that the front is got says that it isn't.
pub not_reaped : (look : Look) (cs : List Completion) (x : Peeked) → not (is_got x) ≡ true → FrontFits look cs x → is_reaped look ≡ false
not_reaped look cs Unseen e f = f
not_reaped look cs (Sees u) e f = ap is_reaped f.0
not_reaped look cs SeesOther e f = ap is_reaped f.0
not_reaped look cs Got e f = absurd (cc)

not_got : (x : Peeked) → (x ≡ Got → ⊥) → not (is_got x) ≡ true
not_got Unseen n = refl
not_got (Sees u) n = refl
not_got SeesOther n = refl
not_got Got n = absurd (n refl)

pub front_weaker : (look : Look) (cs : List Completion) (x y : Peeked) → WeakerPeeked y x → FrontFits look cs x → FrontFits look cs y
front_weaker look cs x y (Same e) f = subst (FrontFits look cs) (sym e) f
front_weaker look cs x y (Unknown e n) f = subst (FrontFits look cs) (sym e) (not_reaped look cs x (not_got x n) f)

pub queue_weaker : (n : ℕ) (slot : Entry) (s t : Submitting) → WeakerSubmitting t s → QueueFits n slot s → QueueFits n slot t
queue_weaker n slot s t w f = (omega (arith, w.queued, f.0), subst (λ x. SlotFits slot x) (sym w.slot) f.1)

-- ---- lines that are no event

-- Where a step leads once the lines that are no event are passed; after the end of an arm nothing is peeked.
pub record Settled (S : ℕ → (Part → ℕ) → Mode → List ℤ → ℕ → Type 0) (i : ℕ) (b : Part → ℕ) (m : Mode) (vars : List ℤ) (place : ℕ) (ends : Bool) : Type 0 where
  pub leads : Leads S i b m vars place
  pub unseen : ends ≡ true → IsUnseen leads.mode.cq

module _ (P : Program) (S : Stand) (i : ℕ) (vars : List ℤ) (n k : ℕ) (b : Part → ℕ) (m : Mode) (l : Leads S i b m vars k) (rest : (j : ℕ) (c : Part → ℕ) (o : Mode) → Leads S i c o vars j → Settled S i c o vars (settled P i n j) (ends_arm P i n j)) where
  stays : (e : Bool) → e ≡ false → Settled S i b m vars k e
  stays e f = record { leads = l; unseen = λ t. absurd (cc) }

  hops : (j : ℕ) → Leads S i l.bag l.mode vars j → Settled S i b m vars (settled P i n j) (ends_arm P i n j)
  hops j h =
      let s = rest j l.bag l.mode h in
      record { leads = record { bag = s.leads.bag; mode = s.leads.mode; less = λ p. omega (arith, s.leads.less p, l.less p); weaker = mode_trans s.leads.mode l.mode m s.leads.weaker l.weaker; stands = s.leads.stands }; unseen = s.unseen }

  pub settle_at : (x : Option Stmt) → EdgeAt P S i l.bag l.mode vars k x → Settled S i b m vars (or_from k (λ j. settled P i n j) (hop_of P i k x)) (is_arm_end x || or_from false (λ j. ends_arm P i n j) (hop_of P i k x))
  settle_at (Some (Else o)) h = hops (end_at P i k + 1) h
  settle_at (Some (EndIf o)) h = hops (k + 1) h
  settle_at (Some (EndArm o)) h =
      let past : Mode = with_peeked Unseen l.mode in
      let s = rest (end_at P i o + 1) l.bag past h.2 in
      let w : WeakerMode s.leads.mode l.mode = mode_trans s.leads.mode past l.mode s.leads.weaker (unseen_below l.mode h.1.0) in
      record {
        leads = record { bag = s.leads.bag; mode = s.leads.mode; less = λ p. omega (arith, s.leads.less p, l.less p); weaker = mode_trans s.leads.mode l.mode m w l.weaker; stands = s.leads.stands };
        unseen = λ e. unseen_weaker s.leads.mode.cq past.cq s.leads.weaker.1 (unseen_in l.mode.cq h.0);
      }
  settle_at _ h = stays false refl

-- Lines that are no event go with the step before them.
pub settle : (P : Program) (S : Stand) → HasEdge P S → (i : ℕ) (vars : List ℤ) (n k : ℕ) (b : Part → ℕ) (m : Mode) → Leads S i b m vars k → Settled S i b m vars (settled P i n k) (ends_arm P i n k)
settle P S edge i vars zero k b m l = record { leads = l; unseen = λ e. absurd (cc) }
settle P S edge i vars (suc n) k b m l = settle_at P S i vars n k b m l (λ j c o h. settle P S edge i vars n j c o h) (stmt_at (lines_of P i) k) (edge i l.bag l.mode vars k l.stands)
