-- A world of which those facts are true has no fault.
use Rattle.std.proofs.Common.{◌≡◌, ℕ, ◌+◌, ◌<◌, ◌≤◌, Bool, true, false, ◌&&◌, ◌||◌, List, ◌∷◌, length, drop, Option, Some, None, refl, sym, ap, ◌∙◌, subst, inl, inr, arith, []}
use Rattle.std.proofs.lemmas.Option.{slice_get_within}
use Rattle.std.proofs.lemmas.Bool.{and_parts, and_right, eq-eqb, eqb-true, false_from_ne_true, leb-true, lt-leb, ltb-true, not_from_true, or_cases, or_from}
use Rattle.std.proofs.lemmas.List.{length-map}
use Rattle.std.specs.List.{list_any}
use Rattle.std.specs.Prelude.{is_some, nat_eq, nat_le, not, slice_get, ℤ, if◌then◌else◌}
use Rattle.rc_lang.specs.declared.lines.Line.{Line}
use Rattle.rc_lang.specs.declared.lines.Op.{Op}
use Rattle.rc_lang.specs.declared.lines.Op.TheVariants.{Load, Store, GetSqe, PrepRead, PrepWrite, PrepFsync, PrepNop, PrepOther, SetData64, Submit, SubmitAndWait, CqeGetData64, CqeSeen}
use Rattle.rc_lang.specs.declared.lines.Stmt.{Stmt}
use Rattle.rc_lang.specs.declared.lines.Stmt.TheVariants.{Do, Put, EndLock, If, Peek, Break}
use Rattle.rc_lang.specs.declared.lines.Test.TheVariants.{ReadyZero, SpaceAtLeast, Take}
use Rattle.rc_lang.specs.declared.request.Request.{Request}
use Rattle.rc_lang.specs.Program.{Items, Program, bytes_at, items_at, lists_of, shares_at}
use Rattle.rc_lang.specs.Kept.{IsProgram}
use Rattle.rc_lang.specs.Resolved.{IsResolved}
use Rattle.rc_rules.specs.declared.mode.Mode.{Mode}
use Rattle.rc_rules.specs.declared.mode.Peeked.{Peeked}
use Rattle.rc_rules.specs.declared.mode.Peeked.TheVariants.{Unseen, Sees, SeesOther, Got}
use Rattle.rc_rules.specs.declared.mode.Slot.TheVariants.{Closed, Vacant}
use Rattle.rc_rules.specs.declared.mode.Submitting.{Submitting}
use Rattle.rc_rules.specs.Kinds.{kinds_of}
use Rattle.rc_rules.specs.Premises.{Meets}
use Rattle.rc_rules.specs.Needs.{line_premises}
use Rattle.rc_rules.specs.Rules.{is_seen, limit, same_slot}
use Rattle.rc_rules.proofs.Weaker.{same_slot_is}
use Rattle.rc_split.specs.Bags.{Part, ShareOf, TokenOf, Credit, bag_of}
use Rattle.rc_split.specs.Pools.{all_pooled, overfills}
use Rattle.rc_world.specs.declared.controls.Look.{Look}
use Rattle.rc_world.specs.declared.controls.Look.TheVariants as looks
use Rattle.rc_world.specs.declared.event.Completion.{Completion}
use Rattle.rc_world.specs.declared.fault.FaultKind.{FaultKind}
use Rattle.rc_world.specs.declared.fault.FaultKind.TheVariants.{WriteOfPending, ReadOfFilling, KernelClash, ThreadRace, RingFull, Overflow, AmbiguousData, UnknownReap, NoLock, RawEntry, OutOfBuffer, DoublePut}
use Rattle.rc_world.specs.Controls.{Standing, next_line, list_here, variables_in}
use Rattle.rc_world.specs.Faults.{Access, access_at, access_of, clashes, conflicts, count_of, fault_of, front_is_known, front_is_one, has_cq, has_data, has_fault, has_sq, is_closed, is_cq_call, is_filling, is_full_at, is_in_flight, is_named, is_ambiguous_at, is_double_at, is_out_at, is_prepared, is_raw_at, is_sq_call, is_sq_op, is_unknown_at, lacks_lock, is_vacant, may_put, names, op_is_out, op_is_raw, overflows, races_from, reads_filling, reads_into, writes_pending}
use Rattle.rc_world.specs.Machine.{Pending, World, is_read, slot_len, used_entries}
use Rattle.rc_world.proofs.Lists.{found}
use Rattle.rc_admit.specs.Worlds.{unreaped}
use Rattle.rc_admit.proofs.Flight.{all_unreaped, data_in, front_is, is_reaped}
use Rattle.rc_admit.proofs.RequestKinds.{HasKind, owns, prepared_as}
use Rattle.rc_admit.proofs.Lists.{sum_over, sum_over_one, Each-get}
use Rattle.rc_admit.proofs.Moves.{cq_has, sq_has}
use Rattle.rc_admit.proofs.Ops.{slot_closed, slot_vacant, slot_prepared}
use Rattle.rc_admit.proofs.Owned.{Stand, EdgeAt, HasEdge, owns_pending, place_bag, unheld, SlotFits, StartsWith, IsNonempty, FrontFits, HasKindPending, Owned, WellOwned, bound_one, bound_two, bound_unheld}
use Rattle.rc_admit.proofs.Pool.{room_in_pools}
use Rattle.rc_admit.proofs.Rule.{CanLeave, asks_lock, brace_leaves, break_leaves, called, has_both, held_of, known_sq, met, put_covered}
use Rattle.rc_admit.proofs.Shares.{data_owned, data_pending, fills_all, names_one, no_clash}
use Rattle.rc_admit.proofs.Tokens.{count_most, credits_owned, entry_free, token_owned}
use Rattle.rc_world.proofs.LawFaultless.{without_fault}
use Rattle.rc_admit.proofs.Accesses.{Next, all_by, next_is, one_by, resolved_at, written}
use Rattle.rc_lang.proofs.Reading.{list_alone}

-- ---- what the rules ask of a lock

none_lacking : (c h : Bool) → (c ≡ true → h ≡ true) → (c && not h) ≡ false
none_lacking false h f = refl
none_lacking true h f = ap not (f refl)

-- A completion whose request was reaped owns a credit, too.
places_owned : (look : Look) (cs : List Completion) → length cs ≤ length (unreaped look cs) + place_bag look Credit
places_owned looks.Unseen cs = omega arith
places_owned looks.Peeked cs = omega arith
places_owned looks.Got [] = omega arith
places_owned looks.Got (c ∷ cs) = omega arith

-- ---- the faults, each alone

module _ (w : World) (made : IsProgram w.program) (S : Stand) (edge : HasEdge w.program S) (bags : ℕ → Part → ℕ) (modes : ℕ → Mode) (o : Owned w.program S w bags modes) where
  abbrev P : Program
  P = w.program

  edge_at : (i : ℕ) (s : Stmt) (n : Next w i s) → EdgeAt P S i (bags i) (modes i) n.thread.variables n.thread.place (Some s)
  edge_at i s n = subst (λ y. EdgeAt P S i (bags i) (modes i) n.thread.variables n.thread.place y) (written w made i s n) (edge i (bags i) (modes i) n.thread.variables n.thread.place (o.stands i n.thread n.stands))

  within : (i : ℕ) (s : Stmt) → Next w i s → i < length w.controls.threads
  within i s n = slice_get_within w.controls.threads i n.thread n.stands

  -- one thread, and what no thread holds
  one_and_flight : (p : Part) (i : ℕ) → i < length w.controls.threads → bags i p + unheld P w p ≤ limit P p
  one_and_flight p i lt = bound_one P S w bags modes o p i lt

  flight_most : (p : Part) → unheld P w p ≤ limit P p
  flight_most p = bound_unheld P S w bags modes o p

  pending_most : (p : Part) (k : ℕ) (x : Pending) → slice_get w.pending k ≡ Some x → owns P p x.request ≤ unheld P w p
  pending_most p k x e = let a : owns P p x.request ≤ sum_over (owns_pending P p) w.pending = sum_over_one (owns_pending P p) k w.pending x e in omega arith

  kind_at : (k : ℕ) (x : Pending) → slice_get w.pending k ≡ Some x → HasKind P x.request
  kind_at k x e = Each-get (HasKindPending P) k w.pending x e o.pending

  -- what the world has where a label has a lock
  sq_at : (i : ℕ) (s : Submitting) → (modes i).sq ≡ Some s → (has_sq w i ≡ true) × (length w.queued + slot_len w.slot ≤ s.queued) × SlotFits w.slot s.slot
  sq_at i s e = sq_has P S w bags modes i o s e

  cq_at : (i : ℕ) (k : Peeked) → (modes i).cq ≡ Some k → (has_cq w i ≡ true) × FrontFits w.controls.look w.completions k
  cq_at i k e = cq_has P S w bags modes i o k e

  -- ---- buffers

  all_shares : (i : ℕ) (s : Stmt) → Next w i s → (a : Access) → access_of s ≡ Some a → a.writes ≡ true → shares_at P.buffers a.buffer ≤ bags i (ShareOf a.buffer)
  all_shares i s n = go s (edge_at i s n)
    where
      go : (s : Stmt) → EdgeAt P S i (bags i) (modes i) n.thread.variables n.thread.place (Some s) → (a : Access) → access_of s ≡ Some a → a.writes ≡ true → shares_at P.buffers a.buffer ≤ bags i (ShareOf a.buffer)
      go (Do op) h a e y = all_by P (bags i) (modes i) op h.0 a e y
      go _ h a e y = absurd (cc)

  one_share : (i : ℕ) (s : Stmt) → Next w i s → (a : Access) → access_of s ≡ Some a → 1 ≤ bags i (ShareOf a.buffer)
  one_share i s n = let r = resolved_at P made i n.thread.place s (written w made i s n) in go s (edge_at i s n) r.0 r.1 r.2
    where
      go : (s : Stmt) → EdgeAt P S i (bags i) (modes i) n.thread.variables n.thread.place (Some s) → (v k : ℕ) → IsResolved P v k s → (a : Access) → access_of s ≡ Some a → 1 ≤ bags i (ShareOf a.buffer)
      go (Do op) h v k r a e = one_by P made (bags i) (modes i) v k op h.0 r a e
      go _ h v k r a e = absurd (cc)

  no_write_of_pending : (i : ℕ) (s : Stmt) → Next w i s → (x : Option Access) → access_of s ≡ x → writes_pending w.pending x ≡ false
  no_write_of_pending i s n None e = refl
  no_write_of_pending i s n (Some a) e = false_from_ne_true (a.writes && is_named w.pending a.buffer) bad
    where
      bad : (a.writes && is_named w.pending a.buffer) ≡ true → ⊥
      bad h =
          let b : ℕ = a.buffer in
          let t = and_parts a.writes (is_named w.pending b) h in
          let x = found (λ (p : Pending). names b p.request) w.pending t.1 in
          let mine : shares_at P.buffers b ≤ bags i (ShareOf b) = all_shares i s n a e t.0 in
          let its : 1 ≤ owns P (ShareOf b) x.1.request = names_one P made x.1.request b (kind_at x.0 x.1 x.2) x.3 in
          let le : owns P (ShareOf b) x.1.request ≤ unheld P w (ShareOf b) = pending_most (ShareOf b) x.0 x.1 x.2 in
          let all : bags i (ShareOf b) + unheld P w (ShareOf b) ≤ shares_at P.buffers b = one_and_flight (ShareOf b) i (within i s n) in
          omega arith

  no_read_of_filling : (i : ℕ) (s : Stmt) → Next w i s → (x : Option Access) → access_of s ≡ x → reads_filling w.pending x ≡ false
  no_read_of_filling i s n None e = refl
  no_read_of_filling i s n (Some a) e = false_from_ne_true (not a.writes && is_filling w.pending a.buffer) bad
    where
      bad : (not a.writes && is_filling w.pending a.buffer) ≡ true → ⊥
      bad h =
          let b : ℕ = a.buffer in
          let t = and_parts (not a.writes) (is_filling w.pending b) h in
          let x = found (λ (p : Pending). reads_into b p.request) w.pending t.1 in
          let r = and_parts (is_read x.1.request.kind) (nat_eq x.1.request.buffer b) x.3 in
          let mine : 1 ≤ bags i (ShareOf b) = one_share i s n a e in
          let its : shares_at P.buffers b ≤ owns P (ShareOf b) x.1.request = fills_all P x.1.request b (kind_at x.0 x.1 x.2) r.0 (eqb-true x.1.request.buffer b r.1) in
          let le : owns P (ShareOf b) x.1.request ≤ unheld P w (ShareOf b) = pending_most (ShareOf b) x.0 x.1 x.2 in
          let all : bags i (ShareOf b) + unheld P w (ShareOf b) ≤ shares_at P.buffers b = one_and_flight (ShareOf b) i (within i s n) in
          omega arith

  no_kernel_clash : clashes w.pending ≡ false
  no_kernel_clash = no_clash P made w.pending o.pending (λ b. let h : unheld P w (ShareOf b) ≤ shares_at P.buffers b = flight_most (ShareOf b) in omega arith)

  -- two threads at one buffer, of which one writes it
  two_at : (i j : ℕ) (s t : Stmt) → i < j → Next w i s → Next w j t → (a b : Access) → access_of s ≡ Some a → access_of t ≡ Some b → conflicts (Some a) (Some b) ≡ true → ⊥
  two_at i j s t lt n m a b ea eb h =
      let c : ℕ = a.buffer in
      let x = and_parts (nat_eq a.buffer b.buffer) (a.writes || b.writes) h in
      let q : b.buffer ≡ c = sym (eqb-true a.buffer b.buffer x.0) in
      let all : bags i (ShareOf c) + bags j (ShareOf c) + unheld P w (ShareOf c) ≤ shares_at P.buffers c = bound_two P S w bags modes o (ShareOf c) i j (λ e. omega arith) (within i s n) (within j t m) in
      let one_i : 1 ≤ bags i (ShareOf c) = one_share i s n a ea in
      let one_j : 1 ≤ bags j (ShareOf c) = subst (λ k. 1 ≤ bags j (ShareOf k)) q (one_share j t m b eb) in
      elim (or_cases a.writes b.writes x.1) [
        | inl y ↦ let full : shares_at P.buffers c ≤ bags i (ShareOf c) = all_shares i s n a ea y in omega arith
        | inr y ↦ let full : shares_at P.buffers c ≤ bags j (ShareOf c) = subst (λ k. shares_at P.buffers k ≤ bags j (ShareOf k)) q (all_shares j t m b eb y) in omega arith
      ]

  no_conflict : (i j : ℕ) (s : Stmt) → i < j → Next w i s → (x : Option Access) → access_of s ≡ x → (l : Option Line) → next_line w.program w.controls j ≡ l → conflicts x (access_at l) ≡ false
  no_conflict i j s lt n None e l f = refl
  no_conflict i j s lt n (Some a) e None f = refl
  no_conflict i j s lt n (Some a) e (Some l) f = go (access_of l.stmt) refl
    where
      go : (y : Option Access) → access_of l.stmt ≡ y → conflicts (Some a) y ≡ false
      go None g = refl
      go (Some b) g = false_from_ne_true (conflicts (Some a) (Some b)) (λ h. two_at i j s l.stmt lt n (next_is w j l f) a b e g h)

  no_races : (i : ℕ) (s : Stmt) → Next w i s → (ts : List Standing) (j : ℕ) → i < j → races_from w (access_of s) j ts ≡ false
  no_races i s n [] j lt = refl
  no_races i s n (t ∷ ts) j lt =
      or_from (conflicts (access_of s) (access_at (next_line w.program w.controls j))) (races_from w (access_of s) (j + 1) ts)
      (no_conflict i j s lt n (access_of s) refl (next_line w.program w.controls j) refl) (no_races i s n ts (j + 1) (omega arith))

  -- ---- the ring

  -- a call that wants no open entry, and one that wants a vacant one
  wants_closed : (i : ℕ) (s : Submitting) → (modes i).sq ≡ Some s → same_slot s.slot Closed ≡ true → not (is_closed w.slot) ≡ false
  wants_closed i s e h = ap (λ y. not (is_closed y)) (slot_closed w.slot (subst (λ x. SlotFits w.slot x) (same_slot_is s.slot Closed h) (sq_at i s e).2))

  wants_vacant : (i : ℕ) (s : Submitting) → (modes i).sq ≡ Some s → same_slot s.slot Vacant ≡ true → not (is_vacant w.slot) ≡ false
  wants_vacant i s e h = ap (λ y. not (is_vacant y)) (slot_vacant w.slot (subst (λ x. SlotFits w.slot x) (same_slot_is s.slot Vacant h) (sq_at i s e).2))

  is_not_raw : (i : ℕ) (op : Op) → Meets (line_premises P [] (bags i) (modes i) (Do op)) → op_is_raw w.slot op ≡ false
  is_not_raw i GetSqe h = let x = called (modes i).sq _ h in wants_closed i x.known x.is (x.asked 4)
  is_not_raw i (PrepRead fd b len off) h = let x = called (modes i).sq _ h in wants_vacant i x.known x.is (x.asked 5)
  is_not_raw i (PrepWrite fd b len off k) h = let x = called (modes i).sq _ h in wants_vacant i x.known x.is (x.asked 5)
  is_not_raw i (PrepFsync fd datasync) h = let x = called (modes i).sq _ h in wants_vacant i x.known x.is (x.asked 5)
  is_not_raw i PrepNop h = let x = called (modes i).sq _ h in wants_vacant i x.known x.is (x.asked 5)
  is_not_raw i PrepOther h = let x = called (modes i).sq _ h in wants_vacant i x.known x.is (x.asked 5)
  is_not_raw i (SetData64 u) h =
      let x = called (modes i).sq _ h in
      let k = prepared_as (kinds_of P u) x.known.slot (x.asked 6) in
      let f = slot_prepared w.slot k.0 (subst (λ y. SlotFits w.slot y) k.2 (sq_at i x.known x.is).2) in
      ap (λ y. not (is_prepared y)) f.1
  is_not_raw i (Submit y) h = let x = called (modes i).sq _ h in wants_closed i x.known x.is (x.asked 4)
  is_not_raw i (SubmitAndWait y n) h = let x = called (modes i).sq _ h in wants_closed i x.known x.is (x.asked 4)
  is_not_raw i _ h = refl

  -- what releases the lock of the submission side
  closed_behind : (i : ℕ) (b : Bool) → (b ≡ true → is_some (modes i).sq ≡ true) → (b ≡ true → CanLeave P (modes i)) → (b && not (is_closed w.slot)) ≡ false
  closed_behind i true l h =
      let s = held_of (modes i).sq (l refl) in
      wants_closed i s.0 s.1 (subst (λ (x : Submitting). same_slot x.slot Closed ≡ true) (known_sq (modes i) s.0 s.1) (h refl).closed)
  closed_behind i false l h = refl

  no_raw_entry : (i : ℕ) (s : Stmt) (vars : List ℤ) (k : ℕ) → EdgeAt P S i (bags i) (modes i) vars k (Some s) → is_raw_at w.slot s ≡ false
  no_raw_entry i (Do op) vars k h = is_not_raw i op h.0
  no_raw_entry i (EndLock p l) vars k h = closed_behind i l.sq h.0.sq (brace_leaves P (bags i) (modes i) l.sq l.cq h.1)
  no_raw_entry i (Break p releases leaves) vars k h = closed_behind i releases.sq h.0.sq (break_leaves P (bags i) (modes i) releases.sq h.2)
  no_raw_entry i _ vars k h = refl

  knows_sq : (i : ℕ) → is_some (modes i).sq ≡ true → has_sq w i ≡ true
  knows_sq i l = let s = held_of (modes i).sq l in (sq_at i s.0 s.1).0

  knows_cq : (i : ℕ) → is_some (modes i).cq ≡ true → has_cq w i ≡ true
  knows_cq i l = let k = held_of (modes i).cq l in (cq_at i k.0 k.1).0

  op_locked : (i : ℕ) (op : Op) → Meets (line_premises P [] (bags i) (modes i) (Do op)) → is_sq_op op ≡ true → has_sq w i ≡ true
  op_locked i GetSqe h r = knows_sq i (asks_lock (modes i).sq _ h)
  op_locked i (PrepRead fd b len off) h r = knows_sq i (asks_lock (modes i).sq _ h)
  op_locked i (PrepWrite fd b len off k) h r = knows_sq i (asks_lock (modes i).sq _ h)
  op_locked i (PrepFsync fd datasync) h r = knows_sq i (asks_lock (modes i).sq _ h)
  op_locked i PrepNop h r = knows_sq i (asks_lock (modes i).sq _ h)
  op_locked i PrepOther h r = knows_sq i (asks_lock (modes i).sq _ h)
  op_locked i (SetData64 u) h r = knows_sq i (asks_lock (modes i).sq _ h)
  op_locked i (Submit x) h r = knows_sq i (asks_lock (modes i).sq _ h)
  op_locked i (SubmitAndWait x n) h r = knows_sq i (asks_lock (modes i).sq _ h)
  op_locked i _ h r = absurd (cc)

  sq_locked : (i : ℕ) (s : Stmt) (vars : List ℤ) (k : ℕ) → EdgeAt P S i (bags i) (modes i) vars k (Some s) → is_sq_call s ≡ true → has_sq w i ≡ true
  sq_locked i (Do op) vars k h r = op_locked i op h.0 r
  sq_locked i (If ReadyZero) vars k h r = knows_sq i (asks_lock (modes i).sq _ h.0)
  sq_locked i (If (SpaceAtLeast n)) vars k h r = knows_sq i (asks_lock (modes i).sq _ h.0)
  sq_locked i (If (Take None n)) vars k h r = knows_sq i (asks_lock (modes i).sq _ h.0)
  sq_locked i (If _) vars k h r = absurd (cc)
  sq_locked i (Put None n) vars k h r = knows_sq i (asks_lock (modes i).sq _ h.0)
  sq_locked i _ vars k h r = absurd (cc)

  cq_locked : (i : ℕ) (s : Stmt) (vars : List ℤ) (k : ℕ) → EdgeAt P S i (bags i) (modes i) vars k (Some s) → is_cq_call s ≡ true → has_cq w i ≡ true
  cq_locked i (Do CqeGetData64) vars k h r = knows_cq i (asks_lock (modes i).cq _ h.0)
  cq_locked i (Do CqeSeen) vars k h r = knows_cq i (asks_lock (modes i).cq _ h.0)
  cq_locked i (Do _) vars k h r = absurd (cc)
  cq_locked i (Peek x) vars k h r = knows_cq i (asks_lock (modes i).cq _ h.0)
  cq_locked i (If (Take None n)) vars k h r = knows_cq i (has_both (modes i).sq (modes i).cq _ h.0).second
  cq_locked i (If _) vars k h r = absurd (cc)
  cq_locked i (Put None n) vars k h r = knows_cq i (has_both (modes i).sq (modes i).cq _ h.0).second
  cq_locked i _ vars k h r = absurd (cc)

  no_lock_missing : (i : ℕ) (s : Stmt) (vars : List ℤ) (k : ℕ) → EdgeAt P S i (bags i) (modes i) vars k (Some s) → lacks_lock w i s ≡ false
  no_lock_missing i s vars k h =
      ap (λ b. b || (is_cq_call s && not (has_cq w i))) (none_lacking (is_sq_call s) (has_sq w i) (sq_locked i s vars k h)) ∙ none_lacking (is_cq_call s) (has_cq w i) (cq_locked i s vars k h)

  no_ring_full : (i : ℕ) (s : Stmt) (vars : List ℤ) (k : ℕ) → i < length w.controls.threads → EdgeAt P S i (bags i) (modes i) vars k (Some s) → is_full_at w s ≡ false
  no_ring_full i (Do GetSqe) vars k lt h =
      let s = called (modes i).sq _ h.0 in
      let f = sq_at i s.known s.is in
      let none : slot_len w.slot ≡ 0 = ap slot_len (slot_closed w.slot (subst (λ x. SlotFits w.slot x) (same_slot_is s.known.slot Closed (s.asked 4)) f.2)) in
      let few : length w.queued + slot_len w.slot ≤ s.known.queued = f.1 in
      let some : length w.queued < P.entries = entry_free P S w bags modes i o lt s.known.queued (omega (arith, few)) (s.asked 3) in
      lt-leb P.entries (used_entries w) (omega (arith, none, some))
  no_ring_full i (Do _) vars k lt h = refl
  no_ring_full i _ vars k lt h = refl

  no_overflow : (ps : List Pending) → w.pending ≡ ps → overflows w ps ≡ false
  no_overflow [] e = refl
  no_overflow (p ∷ ps) e =
      let x : sum_over (owns_pending P Credit) w.pending ≡ owns P Credit p.request + sum_over (owns_pending P Credit) ps = ap (sum_over (owns_pending P Credit)) e in
      let y : length w.completed ≤ sum_over (owns P Credit) w.completed = credits_owned P w.completed in
      let z : length (unreaped w.controls.look w.completions) ≡ length w.completed = sym (length-map (unreaped w.controls.look w.completions) (λ (c : Completion). c.user_data)) ∙ (ap length (sym o.agree) ∙ length-map w.completed (λ (r : Request). r.user_data)) in
      let more : length w.completions ≤ length (unreaped w.controls.look w.completions) + place_bag w.controls.look Credit = places_owned w.controls.look w.completions in
      let t : unheld P w Credit ≤ P.completion_entries = flight_most Credit in
      lt-leb P.completion_entries (length w.completions) (omega arith)

  -- ---- user data

  no_data_twice : (i : ℕ) (u : ℕ) → i < length w.controls.threads → 1 ≤ bags i (TokenOf u) → is_in_flight w u ≡ false
  no_data_twice i u lt h =
      let all : bags i (TokenOf u) + unheld P w (TokenOf u) ≤ 1 = one_and_flight (TokenOf u) i lt in
      or_from _ _
      (or_from _ _
      (false_from_ne_true (list_any (has_data u) w.queued) (λ e. let x : 1 ≤ sum_over (owns P (TokenOf u)) w.queued = data_owned P u w.queued e in omega arith))
      (false_from_ne_true (list_any (λ (p : Pending). has_data u p.request) w.pending) (λ e. let x : 1 ≤ sum_over (owns_pending P (TokenOf u)) w.pending = data_pending P u w.pending e in omega arith)))
      (false_from_ne_true (list_any (has_data u) w.completed) (λ e. let x : 1 ≤ sum_over (owns P (TokenOf u)) w.completed = data_owned P u w.completed e in omega arith))

  no_ambiguous_data : (i : ℕ) (s : Stmt) (vars : List ℤ) (k : ℕ) → i < length w.controls.threads → EdgeAt P S i (bags i) (modes i) vars k (Some s) → is_ambiguous_at w s ≡ false
  no_ambiguous_data i (Do (SetData64 u)) vars k lt h = let s = called (modes i).sq _ h.0 in and_right (is_prepared w.slot) (is_in_flight w u) (no_data_twice i u lt (leb-true 1 _ (s.asked 10)))
  no_ambiguous_data i (Do _) vars k lt h = refl
  no_ambiguous_data i _ vars k lt h = refl

  -- A completion at the front that isn't got is that of one request.
  front_one : is_reaped w.controls.look ≡ false → (cs : List Completion) → w.completions ≡ cs → IsNonempty cs → front_is_one w cs ≡ true
  front_one m [] e n = absurd n
  front_one m (d ∷ ds) e n =
      let u : ℕ = d.user_data in
      let p : Part = TokenOf u in
      let f = front_is w.completed d ds (o.agree ∙ ap data_in (all_unreaped w.controls.look w.completions m ∙ e)) in
      let fl : sum_over (owns P p) w.completed ≡ owns P p f.request + sum_over (owns P p) f.others = ap (sum_over (owns P p)) f.is in
      let one : 1 ≤ owns P p f.request = token_owned P f.request u f.same in
      let tot : unheld P w p ≤ 1 = flight_most p in
      let few : count_of u f.others ≤ sum_over (owns P p) f.others = count_most P u f.others in
      let first : count_of u (f.request ∷ f.others) ≡ 1 + count_of u f.others = ap (λ (t : Bool). (if t then 1 else 0) + count_of u f.others) (eq-eqb f.request.user_data u f.same) in
      let all : count_of u w.completed ≡ count_of u (f.request ∷ f.others) = ap (count_of u) f.is in
      eq-eqb (count_of u w.completed) 1 (omega arith)

  -- What the label says that is peeked is known.
  front_known : (x : Peeked) → is_seen x ≡ true → FrontFits w.controls.look w.completions x → front_is_known w w.controls.look w.completions ≡ true
  front_known Unseen h f = absurd (cc)
  front_known (Sees u) h f = subst (λ l. front_is_known w l w.completions ≡ true) (sym f.0) (front_one (ap is_reaped f.0) w.completions refl (some w.completions f.1))
    where
      some : (cs : List Completion) → StartsWith u cs → IsNonempty cs
      some [] h = h
      some (c ∷ cs) h = tt
  front_known SeesOther h f = subst (λ l. front_is_known w l w.completions ≡ true) (sym f.0) (front_one (ap is_reaped f.0) w.completions refl f.1)
  front_known Got h f = subst (λ l. front_is_known w l w.completions ≡ true) (sym f.0) (there w.completions f.1)
    where
      there : (cs : List Completion) → IsNonempty cs → front_is_known w looks.Got cs ≡ true
      there [] h = absurd h
      there (c ∷ cs) h = refl

  -- a call that wants it so
  wants_known : (i : ℕ) (s : Peeked) → (modes i).cq ≡ Some s → is_seen s ≡ true → not (front_is_known w w.controls.look w.completions) ≡ false
  wants_known i s e h = not_from_true (front_is_known w w.controls.look w.completions) (front_known s h (cq_at i s e).1)

  no_unknown_reap : (i : ℕ) (s : Stmt) (vars : List ℤ) (k : ℕ) → EdgeAt P S i (bags i) (modes i) vars k (Some s) → is_unknown_at w s ≡ false
  no_unknown_reap i (Do CqeGetData64) vars k h = let s = called (modes i).cq _ h.0 in wants_known i s.known s.is (s.asked 11)
  no_unknown_reap i (Do CqeSeen) vars k h = let s = called (modes i).cq _ h.0 in wants_known i s.known s.is (s.asked 11)
  no_unknown_reap i (Do _) vars k h = refl
  no_unknown_reap i _ vars k h = refl

  op_within : (i : ℕ) (op : Op) → Meets (line_premises P [] (bags i) (modes i) (Do op)) → op_is_out P op ≡ false
  op_within i (Load x b j) h = lt-leb (bytes_at P.buffers b) j (ltb-true _ _ (met 9 (line_premises P [] (bags i) (modes i) (Do (Load x b j))) h))
  op_within i (Store b j x) h = lt-leb (bytes_at P.buffers b) j (ltb-true _ _ (met 9 (line_premises P [] (bags i) (modes i) (Do (Store b j x))) h))
  op_within i (PrepRead fd b len off) h = let s = called (modes i).sq _ h in not_from_true (nat_le len (bytes_at P.buffers b)) (s.asked 9)
  op_within i (PrepWrite fd b len off k) h = let s = called (modes i).sq _ h in not_from_true (nat_le len (bytes_at P.buffers b)) (s.asked 9)
  op_within i _ h = refl

  no_out_of_buffer : (i : ℕ) (s : Stmt) (vars : List ℤ) (k : ℕ) → EdgeAt P S i (bags i) (modes i) vars k (Some s) → is_out_at P s ≡ false
  no_out_of_buffer i (Do op) vars k h = op_within i op h.0
  no_out_of_buffer i _ vars k h = refl

  -- ---- pools

  -- What a thread holds is in no pool.
  room_for_put : (i : ℕ) (items : Items) → i < length w.controls.threads → ((p : Part) → bag_of items p ≤ bags i p) → (p : Part) → all_pooled P w.controls.pools p + bag_of items p ≤ limit P p
  room_for_put i items lt covered p =
      let mine : bag_of items p ≤ bags i p = covered p in
      let all : bags i p + unheld P w p ≤ limit P p = one_and_flight p i lt in
      omega arith

  no_double_put : (i : ℕ) (s : Stmt) (vars : List ℤ) (k : ℕ) → i < length w.controls.threads → EdgeAt P S i (bags i) (modes i) vars k (Some s) → is_double_at w i s ≡ false
  no_double_put i (Put pool n) vars k lt h =
      let items : Items = items_at (lists_of P i) n in
      let here : list_here P w.controls i n ≡ items = list_alone P made i (variables_in (slice_get w.controls.threads i)) n in
      ap (λ x. may_put w i pool && overfills P (all_pooled P w.controls.pools) x) here
      ∙ and_right (may_put w i pool) (overfills P (all_pooled P w.controls.pools) items) (room_in_pools P (all_pooled P w.controls.pools) items (room_for_put i items lt (put_covered P items (bags i) (modes i) pool h.0)))
  no_double_put i _ vars k lt h = refl

  -- ---- all of them

  none_here : (kind : FaultKind) (i : ℕ) (s : Stmt) → Next w i s → has_fault w kind i s ≡ false
  none_here WriteOfPending i s n = no_write_of_pending i s n (access_of s) refl
  none_here ReadOfFilling i s n = no_read_of_filling i s n (access_of s) refl
  none_here KernelClash i s n = refl
  none_here ThreadRace i s n = no_races i s n (drop (i + 1) w.controls.threads) (i + 1) (omega arith)
  none_here RingFull i s n = and_right (has_sq w i) (is_full_at w s) (no_ring_full i s _ _ (within i s n) (edge_at i s n))
  none_here Overflow i s n = refl
  none_here AmbiguousData i s n = and_right (has_sq w i) (is_ambiguous_at w s) (no_ambiguous_data i s _ _ (within i s n) (edge_at i s n))
  none_here UnknownReap i s n = and_right (has_cq w i) (is_unknown_at w s) (no_unknown_reap i s _ _ (edge_at i s n))
  none_here NoLock i s n = no_lock_missing i s _ _ (edge_at i s n)
  none_here RawEntry i s n = and_right (has_sq w i) (is_raw_at w.slot s) (no_raw_entry i s _ _ (edge_at i s n))
  none_here OutOfBuffer i s n = no_out_of_buffer i s _ _ (edge_at i s n)
  none_here DoublePut i s n = no_double_put i s _ _ (within i s n) (edge_at i s n)

  pub own_no_fault : fault_of w ≡ None
  own_no_fault = without_fault w no_kernel_clash (no_overflow w.pending refl) (λ kind j l e. none_here kind j l.stmt (next_is w j l e))

-- A world that is well owned has no fault.
pub no_fault : (P : Program) → IsProgram P → (S : Stand) → HasEdge P S → (w : World) → WellOwned P S w → fault_of w ≡ None
no_fault P made S edge w h = let back : P ≡ w.program = sym h.2.of in own_no_fault w (subst IsProgram back made) S (subst (λ Q. HasEdge Q S) back edge) h.0 h.1 (subst (λ Q. Owned Q S w h.0 h.1) back h.2)
