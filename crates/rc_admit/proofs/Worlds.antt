-- What a world without a fault is like, and so each world of a run of a safe program.
use Rattle.std.proofs.Common.{◌≡◌, ℕ, zero, suc, ◌+◌, ◌-◌, ◌<◌, ◌≤◌, ◌⊎◌, Bool, true, false, ◌&&◌, ◌||◌, List, [], ◌∷◌, length, drop, Option, Some, None, refl, sym, ap, ◌∙◌, subst, inl, inr, arith, get_or, length-drop}
use Rattle.std.proofs.lemmas.Option.{slice_get_within}
use Rattle.std.proofs.lemmas.Bool.{and_from, and_parts, cases_order, eq-eqb, eqb-true, leb-false, leb-true, not-false, or_left, or_parts, or_right}
use Rattle.std.proofs.lemmas.List.Elements.{All-from_get_or}
use Rattle.std.specs.List.{list_all, list_any}
use Rattle.std.specs.Prelude.{nat_eq, nat_le, not, slice_get}
use Rattle.rc_lang.specs.declared.lines.Op.{Op}
use Rattle.rc_lang.specs.declared.lines.Op.TheVariants.{Load, Store, Fill, GetSqe, PrepRead, PrepWrite, PrepFsync, PrepNop, PrepOther, SetData64, Submit, SubmitAndWait, CqeGetData64, CqeSeen}
use Rattle.rc_lang.specs.declared.lines.Stmt.{Stmt}
use Rattle.rc_lang.specs.declared.lines.Stmt.TheVariants.{Do, Put, EndLock, If, Peek, Break}
use Rattle.rc_lang.specs.declared.lines.Test.TheVariants.{ReadyZero, SpaceAtLeast, Take}
use Rattle.rc_lang.specs.declared.request.Request.{Request}
use Rattle.rc_lang.specs.declared.program.Share.{Share}
use Rattle.rc_lang.specs.Program.{Items, bytes_at, shares_at}
use Rattle.rc_split.specs.Bags.{Part, ShareOf, TokenOf, Credit, bag_of, tokens_alone}
use Rattle.rc_split.specs.Pools.{all_pooled, fits, overfills}
use Rattle.rc_split.proofs.Named.{all_at, no_share}
use Rattle.rc_split.proofs.Turns.{itself, tokens_more_le}
use Rattle.rc_world.specs.declared.fault.FaultKind.{FaultKind}
use Rattle.rc_world.specs.declared.fault.FaultKind.TheVariants.{WriteOfPending, ReadOfFilling, KernelClash, ThreadRace, RingFull, Overflow, AmbiguousData, NoLock, RawEntry, OutOfBuffer, DoublePut}
use Rattle.rc_world.specs.declared.world.Slot.{Slot}
use Rattle.rc_world.specs.declared.world.Slot.TheVariants.{Closed, Vacant, Prepared}
use Rattle.rc_world.specs.Controls.{Standing, next_line, list_here}
use Rattle.rc_world.specs.Faults.{Access, access_at, access_by, access_of, clash, clashes, clashes_with, conflicts, fault_of, has_buffer, has_cq, has_data, has_fault, has_sq, in_kernel, is_closed, is_cq_call, is_holder, is_in_flight, is_prepared, is_raw_at, is_sq_call, is_vacant, may_put, names, overflows, races_from, reads_into}
use Rattle.rc_world.specs.Machine.{Pending, World, is_read, used_entries}
use Rattle.rc_world.proofs.LawFaultless.{none_at, none_in_kernel, none_of_kind}
use Rattle.rc_admit.specs.Worlds.{DataIsFresh, CallsUnderLock, EntrySuits, Fills, FindsEntry, HasRoom, IsCqCall, IsNext, IsPending, IsSqCall, Names, NoKernelClash, NoReadOfFilling, NoThreadRace, NothingPutTwice, NoWriteOfPending, OfSafeWorlds, ReadsBuffer, StaysWithinBuffers, Suits, WritesBuffer}
use Rattle.rc_admit.proofs.Accesses.{next_is}
use Rattle.rc_world.proofs.Lists.{any_at}
use Rattle.rc_world.proofs.LawGoes.{and_false}

-- ---- words of the definitions

fills : (r : Request) (b : ℕ) → Fills r b → reads_into b r ≡ true
fills r b f = and_from (is_read r.kind) (nat_eq r.buffer b) (ap is_read f.0) (eq-eqb r.buffer b f.1)

has_one : (r : Request) (b : ℕ) → Names r b → has_buffer r.kind ≡ true
has_one r b n = elim n.0 [ inl e ↦ ap has_buffer e | inr e ↦ ap has_buffer e ]

named : (r : Request) (b : ℕ) → Names r b → names b r ≡ true
named r b n = and_from (has_buffer r.kind) (nat_eq r.buffer b) (has_one r b n) (eq-eqb r.buffer b n.1)

holder_is : (o : Option ℕ) (i : ℕ) → is_holder o i ≡ true → o ≡ Some i
holder_is None i e = absurd (cc)
holder_is (Some j) i e = ap Some (eqb-true j i e)

is_the_holder : (o : Option ℕ) (i : ℕ) → o ≡ Some i → is_holder o i ≡ true
is_the_holder o i e = ap (λ (x : Option ℕ). is_holder x i) e ∙ eq-eqb i i refl

-- of a test of two parts that fails, the second does where the first doesn't

closed_is : (x : Slot) → not (is_closed x) ≡ false → x ≡ Closed
closed_is Closed e = refl
closed_is Vacant e = absurd (cc)
closed_is (Prepared r) e = absurd (cc)

vacant_is : (x : Slot) → not (is_vacant x) ≡ false → x ≡ Vacant
vacant_is Closed e = absurd (cc)
vacant_is Vacant e = refl
vacant_is (Prepared r) e = absurd (cc)

prepared_is : (x : Slot) → not (is_prepared x) ≡ false → (r : Request) × (x ≡ Prepared r)
prepared_is Closed e = absurd (cc)
prepared_is Vacant e = absurd (cc)
prepared_is (Prepared r) e = (r, refl)

calls_sq : (s : Stmt) → IsSqCall s → is_sq_call s ≡ true
calls_sq (Do GetSqe) c = refl
calls_sq (Do (PrepRead fd b len off)) c = refl
calls_sq (Do (PrepWrite fd b len off k)) c = refl
calls_sq (Do (PrepFsync fd datasync)) c = refl
calls_sq (Do PrepNop) c = refl
calls_sq (Do PrepOther) c = refl
calls_sq (Do (SetData64 u)) c = refl
calls_sq (Do (Submit x)) c = refl
calls_sq (Do (SubmitAndWait x n)) c = refl
calls_sq (If ReadyZero) c = refl
calls_sq (If (SpaceAtLeast n)) c = refl
calls_sq (If (Take None k)) c = refl
calls_sq (Put None k) c = refl
calls_sq _ c = absurd c

calls_cq : (s : Stmt) → IsCqCall s → is_cq_call s ≡ true
calls_cq (Peek x) c = refl
calls_cq (Do CqeGetData64) c = refl
calls_cq (Do CqeSeen) c = refl
calls_cq (If (Take None k)) c = refl
calls_cq (Put None k) c = refl
calls_cq _ c = absurd c

-- two of the pending requests
clash_there : (ps : List Pending) (j k : ℕ) (p q : Pending) → j < k → slice_get ps j ≡ Some p → slice_get ps k ≡ Some q → clash p.request q.request ≡ true → clashes ps ≡ true
clash_there [] j k p q lt e f h = absurd (cc)
clash_there (x ∷ ps) j zero p q lt e f h = absurd (omega arith)
clash_there (x ∷ ps) zero (suc k) p q lt e f h =
    let s : x ≡ p = cc in
    or_left (clashes_with x.request ps) (clashes ps) (any_at (λ (y : Pending). clash x.request y.request) ps k q f (ap (λ (y : Pending). clash y.request q.request) s ∙ h))
clash_there (x ∷ ps) (suc j) (suc k) p q lt e f h = or_right (clashes_with x.request ps) (clashes ps) (clash_there ps j k p q (omega arith) e f h)

-- a statement that writes a buffer, and one that goes to it
abbrev wrote : ℕ → Access
wrote b = record { buffer = b; writes = true }

writes_it : (op : Op) (b : ℕ) → WritesBuffer op b → access_by op ≡ Some (wrote b)
writes_it (Store c j x) b e = ap (λ n. Some (wrote n)) e
writes_it (Fill c x) b e = ap (λ n. Some (wrote n)) e
writes_it _ b e = absurd e

goes_there : (op : Op) (b : ℕ) → WritesBuffer op b ⊎ ReadsBuffer op b → (a : Access) × (access_by op ≡ Some a) × (a.buffer ≡ b)
goes_there op b h = elim h [ inl e ↦ (wrote b, writes_it op b e, refl) | inr e ↦ reads op e ]
  where
    reads : (op : Op) → ReadsBuffer op b → (a : Access) × (access_by op ≡ Some a) × (a.buffer ≡ b)
    reads (Load x c j) e = (record { buffer = c; writes = false }, refl, e)
    reads _ e = absurd e

-- no thread from the m-th on
race_at : (w : World) (a : Option Access) (ts : List Standing) (m k : ℕ) → races_from w a m ts ≡ false → k < length ts → conflicts a (access_at (next_line w.program w.controls (m + k))) ≡ false
race_at w a [] m k e lt = absurd (omega arith)
race_at w a (t ∷ ts) m zero e lt =
    let s : m + 0 ≡ m = omega arith in
    ap (λ n. conflicts a (access_at (next_line w.program w.controls n))) s ∙ (or_parts (conflicts a (access_at (next_line w.program w.controls m))) (races_from w a (m + 1) ts) e).0
race_at w a (t ∷ ts) m (suc k) e lt =
    let s : m + suc k ≡ (m + 1) + k = omega arith in
    ap (λ n. conflicts a (access_at (next_line w.program w.controls n))) s ∙ race_at w a ts (m + 1) k (or_parts (conflicts a (access_at (next_line w.program w.controls m))) (races_from w a (m + 1) ts) e).1 (omega arith)

module _ (w : World) (none : fault_of w ≡ None) where
  pub at : (kind : FaultKind) (i : ℕ) (s : Stmt) → IsNext w i s → has_fault w kind i s ≡ false
  at kind i s n = subst (λ x. has_fault w kind i x ≡ false) n.2 (none_at w kind (none_of_kind w none kind) i n.0 n.1)

  in_the_kernel : (kind : FaultKind) → in_kernel w kind ≡ false
  in_the_kernel kind = none_in_kernel w kind (none_of_kind w none kind)

  there : (k b : ℕ) (r : Request) → IsPending w k r → (test : Request → Bool) → test r ≡ true → list_any (λ (p : Pending). test p.request) w.pending ≡ true
  there k b r p test h = any_at (λ (p : Pending). test p.request) w.pending k p.0 p.1 (ap test p.2 ∙ h)

  -- ---- buffers

  pub no_write_of_pending : NoWriteOfPending w
  no_write_of_pending i k b op r n y p q = go op y n
    where
      is_there : list_any (λ (x : Pending). names b x.request) w.pending ≡ true
      is_there = there k b r p (λ (x : Request). names b x) (named r b q)

      bad : (c : ℕ) → c ≡ b → list_any (λ (x : Pending). names c x.request) w.pending ≡ false → ⊥
      bad c e f = let g : list_any (λ (x : Pending). names b x.request) w.pending ≡ false = subst (λ d. list_any (λ (x : Pending). names d x.request) w.pending ≡ false) e f in let h = is_there in absurd (cc)

      go : (op : Op) → WritesBuffer op b → IsNext w i (Do op) → ⊥
      go (Store c j x) e m = bad c e (at WriteOfPending i (Do (Store c j x)) m)
      go (Fill c x) e m = bad c e (at WriteOfPending i (Do (Fill c x)) m)
      go _ e m = e

  pub no_read_of_filling : NoReadOfFilling w
  no_read_of_filling i k b op r n y p q = go op y n
    where
      is_there : list_any (λ (x : Pending). reads_into b x.request) w.pending ≡ true
      is_there = there k b r p (λ (x : Request). reads_into b x) (fills r b q)

      go : (op : Op) → ReadsBuffer op b → IsNext w i (Do op) → ⊥
      go (Load x c j) e m =
          let f : list_any (λ (x : Pending). reads_into c x.request) w.pending ≡ false = at ReadOfFilling i (Do (Load x c j)) m in
          let g : list_any (λ (x : Pending). reads_into b x.request) w.pending ≡ false = subst (λ d. list_any (λ (x : Pending). reads_into d x.request) w.pending ≡ false) e f in
          let h = is_there in
          absurd (cc)
      go _ e m = e

  -- a request that fills a buffer and one that names it, in either order
  clash_of : (r s : Request) (b : ℕ) → has_buffer r.kind ≡ true → r.buffer ≡ b → Names s b → (is_read r.kind || is_read s.kind) ≡ true → clash r s ≡ true
  clash_of r s b h e n f = and_from (has_buffer r.kind && names r.buffer s) (is_read r.kind || is_read s.kind) (and_from (has_buffer r.kind) (names r.buffer s) h (ap (λ c. names c s) e ∙ named s b n)) f

  pub no_kernel_clash : NoKernelClash w
  no_kernel_clash j k b r s ne p q f n = elim (cases_order j k) [
    | inl e ↦ ne e
    | inr o ↦ elim o [
      | inl lt ↦ bad j k p.0 q.0 lt p.1 q.1 (ap (λ (x : Request). clash x q.0.request) p.2 ∙ (ap (λ (x : Request). clash r x) q.2 ∙ clash_of r s b (ap has_buffer f.0) f.1 n (or_left (is_read r.kind) (is_read s.kind) (ap is_read f.0))))
      | inr lt ↦ bad k j q.0 p.0 lt q.1 p.1 (ap (λ (x : Request). clash x p.0.request) q.2 ∙ (ap (λ (x : Request). clash s x) p.2 ∙ clash_of s r b (has_one s b n) n.1 (inl f.0, f.1) (or_right (is_read s.kind) (is_read r.kind) (ap is_read f.0))))
    ]
  ]
    where
      bad : (j k : ℕ) (x y : Pending) → j < k → slice_get w.pending j ≡ Some x → slice_get w.pending k ≡ Some y → clash x.request y.request ≡ true → ⊥
      bad j k x y lt e f c = let h : clashes w.pending ≡ true = clash_there w.pending j k x y lt e f c in let g : clashes w.pending ≡ false = in_the_kernel KernelClash in cc

  -- of two threads the first has no conflict with the second
  no_conflict : (i j : ℕ) (x y : Op) → i < j → IsNext w i (Do x) → IsNext w j (Do y) → conflicts (access_by x) (access_by y) ≡ false
  no_conflict i j x y lt n m =
      let races : races_from w (access_by x) (i + 1) (drop (i + 1) w.controls.threads) ≡ false = at ThreadRace i (Do x) n in
      let t = next_is w j m.0 m.1 in
      let in_all : j < length w.controls.threads = slice_get_within w.controls.threads j t.thread t.stands in
      let len : length (drop (i + 1) w.controls.threads) ≡ length w.controls.threads - (i + 1) = length-drop (i + 1) w.controls.threads in
      let le : j - (i + 1) < length (drop (i + 1) w.controls.threads) = omega arith in
      let is : (i + 1) + (j - (i + 1)) ≡ j = omega arith in
      let h = race_at w (access_by x) (drop (i + 1) w.controls.threads) (i + 1) (j - (i + 1)) races le in
      let line : access_at (next_line w.program w.controls ((i + 1) + (j - (i + 1)))) ≡ access_by y = ap (λ k. access_at (next_line w.program w.controls k)) is ∙ (ap access_at m.1 ∙ ap access_of m.2) in
      ap (λ a. conflicts (access_by x) a) (sym line) ∙ h

  pub no_thread_race : NoThreadRace w
  no_thread_race i j b x y ne n m wr to =
      let ex = writes_it x b wr in
      let ey = goes_there y b to in
      elim (cases_order i j) [
        | inl e ↦ ne e
        | inr o ↦ elim o [
          | inl lt ↦
              let h : (nat_eq b ey.0.buffer && true) ≡ false = ap (λ a. conflicts a (Some ey.0)) (sym ex) ∙ (ap (λ a. conflicts (access_by x) a) (sym ey.1) ∙ no_conflict i j x y lt n m) in
              let g : (nat_eq b ey.0.buffer && true) ≡ true = and_from (nat_eq b ey.0.buffer) true (eq-eqb b ey.0.buffer (sym ey.2)) refl in
              absurd (cc)
          | inr lt ↦
              let h : (nat_eq ey.0.buffer b && (ey.0.writes || true)) ≡ false = ap (λ a. conflicts a (Some (wrote b))) (sym ey.1) ∙ (ap (λ a. conflicts (access_by y) a) (sym ex) ∙ no_conflict j i y x lt m n) in
              let g : (nat_eq ey.0.buffer b && (ey.0.writes || true)) ≡ true = and_from (nat_eq ey.0.buffer b) (ey.0.writes || true) (eq-eqb ey.0.buffer b ey.2) (or_right ey.0.writes true refl) in
              absurd (cc)
        ]
      ]

  pub stays_within_buffers : StaysWithinBuffers w
  stays_within_buffers i (Load x b j) n = leb-false (bytes_at w.program.buffers b) j (at OutOfBuffer i (Do (Load x b j)) n)
  stays_within_buffers i (Store b j x) n = leb-false (bytes_at w.program.buffers b) j (at OutOfBuffer i (Do (Store b j x)) n)
  stays_within_buffers i (PrepRead fd b len off) n = leb-true len (bytes_at w.program.buffers b) (not-false (nat_le len (bytes_at w.program.buffers b)) (at OutOfBuffer i (Do (PrepRead fd b len off)) n))
  stays_within_buffers i (PrepWrite fd b len off k) n = leb-true len (bytes_at w.program.buffers b) (not-false (nat_le len (bytes_at w.program.buffers b)) (at OutOfBuffer i (Do (PrepWrite fd b len off k)) n))
  stays_within_buffers i _ n = tt

  -- ---- the rings

  none_lacking : (i : ℕ) (s : Stmt) → IsNext w i s → ((is_sq_call s && not (has_sq w i)) ≡ false) × ((is_cq_call s && not (has_cq w i)) ≡ false)
  none_lacking i s n = or_parts (is_sq_call s && not (has_sq w i)) (is_cq_call s && not (has_cq w i)) (at NoLock i s n)

  under_sq : (i : ℕ) (s : Stmt) → IsNext w i s → IsSqCall s → has_sq w i ≡ true
  under_sq i s n c = not-false (has_sq w i) (and_false (is_sq_call s) (not (has_sq w i)) (none_lacking i s n).0 (calls_sq s c))

  pub under_cq : (i : ℕ) (s : Stmt) → IsNext w i s → IsCqCall s → has_cq w i ≡ true
  under_cq i s n c = not-false (has_cq w i) (and_false (is_cq_call s) (not (has_cq w i)) (none_lacking i s n).1 (calls_cq s c))

  pub calls_under_lock : CallsUnderLock w
  calls_under_lock i s n = (λ c. holder_is w.controls.holders.sq i (under_sq i s n c), λ c. holder_is w.controls.holders.cq i (under_cq i s n c))

  -- what is wrong of the next statement of who has the submission side, and the completion side, alone
  of_sq : (i : ℕ) (b : Bool) → has_sq w i ≡ true → (has_sq w i && b) ≡ false → b ≡ false
  of_sq i b h e = and_false (has_sq w i) b e h

  pub of_cq : (i : ℕ) (b : Bool) → has_cq w i ≡ true → (has_cq w i && b) ≡ false → b ≡ false
  of_cq i b h e = and_false (has_cq w i) b e h

  pub finds_entry : FindsEntry w
  finds_entry i n =
      let h = under_sq i (Do GetSqe) n tt in
      let closed : w.slot ≡ Closed = closed_is w.slot (of_sq i (not (is_closed w.slot)) h (at RawEntry i (Do GetSqe) n)) in
      let room : used_entries w < w.program.entries = leb-false w.program.entries (used_entries w) (of_sq i (nat_le w.program.entries (used_entries w)) h (at RingFull i (Do GetSqe) n)) in
      (closed, omega arith)

  suits_at : (i : ℕ) (s : Stmt) → is_raw_at w.slot s ≡ false → Suits w.slot s
  suits_at i (Do GetSqe) e = closed_is w.slot e
  suits_at i (Do (PrepRead fd b len off)) e = vacant_is w.slot e
  suits_at i (Do (PrepWrite fd b len off k)) e = vacant_is w.slot e
  suits_at i (Do (PrepFsync fd datasync)) e = vacant_is w.slot e
  suits_at i (Do PrepNop) e = vacant_is w.slot e
  suits_at i (Do PrepOther) e = vacant_is w.slot e
  suits_at i (Do (SetData64 u)) e = prepared_is w.slot e
  suits_at i (Do (Submit x)) e = closed_is w.slot e
  suits_at i (Do (SubmitAndWait x n)) e = closed_is w.slot e
  suits_at i (EndLock o released) e = λ r. closed_is w.slot (and_false released.sq (not (is_closed w.slot)) e r)
  suits_at i (Break o releases leaves) e = λ r. closed_is w.slot (and_false releases.sq (not (is_closed w.slot)) e r)
  suits_at i _ e = tt

  pub entry_suits : EntrySuits w
  entry_suits i s h n = suits_at i s (of_sq i (is_raw_at w.slot s) (is_the_holder w.controls.holders.sq i h) (at RawEntry i s n))

  pub has_room : HasRoom w
  has_room k r p = go w.pending (in_the_kernel Overflow) p.1
    where
      go : (ps : List Pending) → overflows w ps ≡ false → slice_get ps k ≡ Some p.0 → length w.completions < w.program.completion_entries
      go [] e f = absurd (cc)
      go (x ∷ ps) e f = leb-false w.program.completion_entries (length w.completions) e

  -- ---- user data

  pub none_in_flight : (i u : ℕ) → IsNext w i (Do (SetData64 u)) → is_in_flight w u ≡ false
  none_in_flight i u n =
      let h = under_sq i (Do (SetData64 u)) n tt in
      let prepared : is_prepared w.slot ≡ true = not-false (is_prepared w.slot) (of_sq i (not (is_prepared w.slot)) h (at RawEntry i (Do (SetData64 u)) n)) in
      and_false (is_prepared w.slot) (is_in_flight w u) (of_sq i (is_prepared w.slot && is_in_flight w u) h (at AmbiguousData i (Do (SetData64 u)) n)) prepared

  pub data_is_fresh : DataIsFresh w
  data_is_fresh i u k r n inside e =
      let two = or_parts (list_any (has_data u) w.queued || list_any (λ (p : Pending). has_data u p.request) w.pending) (list_any (has_data u) w.completed) (none_in_flight i u n) in
      let first = or_parts (list_any (has_data u) w.queued) (list_any (λ (p : Pending). has_data u p.request) w.pending) two.0 in
      let mine : has_data u r ≡ true = eq-eqb r.user_data u e in
      elim inside [
        | inl q ↦ let t = any_at (has_data u) w.queued k r q mine in let f = first.0 in absurd (cc)
        | inr o ↦ elim o [
          | inl p ↦ let t = there k u r p (has_data u) mine in let f = first.1 in absurd (cc)
          | inr q ↦ let t = any_at (has_data u) w.completed k r q mine in let f = two.1 in absurd (cc)
        ]
      ]

  -- ---- pools

  pub nothing_put_twice : NothingPutTwice w
  nothing_put_twice i k pool n =
      let items : Items = list_here w.program w.controls i k in
      let there : Part → ℕ = all_pooled w.program w.controls.pools in
      let room : overfills w.program there items ≡ false = and_false (may_put w i pool) (overfills w.program there items) (at DoublePut i (Put pool k) n) (puts pool n) in
      let share_fits : Share → Bool = λ s. fits w.program there items (ShareOf s.buffer) in
      let token_fits : ℕ → Bool = λ u. fits w.program there items (TokenOf u) in
      let all = and_parts (list_all share_fits items.shares && list_all token_fits items.tokens) (fits w.program there items Credit) (not-false _ room) in
      let both = and_parts (list_all share_fits items.shares) (list_all token_fits items.tokens) all.0 in
      let one : (j : ℕ) → j < length items.tokens → there (TokenOf (get_or items.tokens j 0)) + bag_of items (TokenOf (get_or items.tokens j 0)) ≤ 1 = λ j lt. leb-true _ _ (all_at token_fits items.tokens j 0 both.1 lt) in
      record {
        shares = All-from_get_or (λ (s : Share). there (ShareOf s.buffer) + bag_of items (ShareOf s.buffer) ≤ shares_at w.program.buffers s.buffer) items.shares no_share (λ j lt. leb-true _ _ (all_at share_fits items.shares j no_share both.0 lt));
        tokens = All-from_get_or (λ u. there (TokenOf u) ≡ 0) items.tokens 0 (λ j lt. omega (arith, one j lt, token_in items.tokens j lt));
        once = All-from_get_or (λ u. bag_of items (TokenOf u) ≡ 1) items.tokens 0 (λ j lt. omega (arith, one j lt, token_in items.tokens j lt));
        credits = leb-true _ _ all.1;
      }
    where
      puts : (pool : Option ℕ) → IsNext w i (Put pool k) → may_put w i pool ≡ true
      puts None n = and_from (has_sq w i) (has_cq w i) (under_sq i (Put None k) n tt) (under_cq i (Put None k) n tt)
      puts (Some j) n = refl

      token_in : (ts : List ℕ) (j : ℕ) → j < length ts → 1 ≤ bag_of (tokens_alone ts) (TokenOf (get_or ts j 0))
      token_in ts j lt = omega (arith, tokens_more_le ts j (TokenOf (get_or ts j 0)) lt, itself (get_or ts j 0) 1)

-- of each world of a run of a safe program
pub of_safe : (F : World → Type 0) → ((w : World) → fault_of w ≡ None → F w) → OfSafeWorlds F
of_safe F h P safe events w r = h w (safe events w r)
