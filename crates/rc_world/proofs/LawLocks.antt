-- A thread holds exactly the locks that are open at its place.
use Rattle.std.proofs.Common.{◌≡◌, ℕ, zero, suc, ◌+◌, ◌<◌, Bool, true, false, ◌&&◌, ◌||◌, not, if◌then◌else◌, List, ◌∷◌, ◌++◌, length, nat_eq, Option, Some, None, unwrap_or, refl, sym, ap, ◌∙◌, subst, slice_get, slice_set, ◌⊎◌, inl, inr, ℤ, pos, eq-eqb, []}
use Rattle.std.specs.Prelude.{◌≢◌, ◌+ℤ◌, ◌-ℤ◌, int_le}
use Rattle.std.specs.Ordering.{int_eq}
use Rattle.std.proofs.Math.Bool.{or-false}
use Rattle.std.proofs.lemmas.Bool.{and_parts, and_right, eqb-true, ne_eqb, or_right}
use Rattle.std.proofs.lemmas.List.{length-set}
use Rattle.std.proofs.lemmas.Option.{same_Some, slice_get_within}
use Rattle.rc_lang.specs.Comparisons.{compares}
use Rattle.rc_lang.specs.declared.lines.Block.TheVariants.{InIf, InElse, InPeek, InArm}
use Rattle.rc_lang.specs.declared.lines.Locks.{Locks}
use Rattle.rc_lang.specs.declared.lines.Op.{Op}
use Rattle.rc_lang.specs.declared.lines.Op.TheVariants.{Set, Assign, Add, Subtract, Load, Store, Fill, Print, GetSqe, PrepRead, PrepWrite, PrepFsync, PrepNop, PrepOther, SetData64, Submit, SubmitAndWait, CqeGetData64, CqeSeen}
use Rattle.rc_lang.specs.declared.lines.Stmt.{Stmt}
use Rattle.rc_lang.specs.declared.lines.Stmt.TheVariants.{Do, Put, Lock, EndLock, If, Else, EndIf, Peek, Case, Other, Nothing, EndArm, Loop, EndLoop, Break}
use Rattle.rc_lang.specs.declared.lines.Test.{Test}
use Rattle.rc_lang.specs.declared.lines.Test.TheVariants.{Compare, ReadyZero, SpaceAtLeast, Take, Any}
use Rattle.rc_lang.specs.Locks.{with_locks, without_locks}
use Rattle.rc_lang.specs.Nesting.{blocks_at, locks_in}
use Rattle.rc_lang.specs.Program.{Items, Program, end_at, ends_in, lines_of, stmt_at, stmt_of, rows_of}
use Rattle.rc_lang.specs.Kept.{IsProgram}
use Rattle.rc_lang.specs.Resolved.{HasArms}
use Rattle.rc_lang.proofs.Along.{locks_next, locks_pushed, same_locks}
use Rattle.rc_lang.proofs.Closing.{closes_arm, closes_lock, leaves_loop, turns}
use Rattle.rc_lang.proofs.Jumps.{IsLaid, arm_leads, back_leads, break_leads, case_lands, else_leads, false_leads, nothing_lands, other_lands}
use Rattle.rc_lang.proofs.Lookups.{locks_more, same_sides, with_none}
use Rattle.rc_lang.proofs.Rests.{laid_in}
use Rattle.rc_lang.proofs.Spans.{nothing_between, other_between}
use Rattle.rc_split.specs.Pools.{Pools, all_pooled, includes, overfills, pool_of, put_into, taken_from}
use Rattle.rc_world.specs.declared.controls.Answer.{Answer}
use Rattle.rc_world.specs.declared.controls.Answer.TheVariants.{Plain, Number, Byte, Front}
use Rattle.rc_world.specs.declared.controls.Holders.{Holders}
use Rattle.rc_world.specs.declared.event.Action.TheVariants.{VariableSet, Stored, Filled, Printed, EntryOpened, ReadPrepared, WritePrepared, FsyncPrepared, NopPrepared, OtherPrepared, DataSet, Looped, ItemsPut}
use Rattle.rc_world.specs.declared.event.Event.{Event}
use Rattle.rc_world.specs.Controls.{Controls, Move, Standing, acts, are_free, arm_for, arms_of, assigns, branches, breaks, decides, does, first_place, gets_data, goes_on, held_by, hop_of, is_case, is_choice, is_free, is_none_arm, is_other, loads, low_byte, none_arm, operand_value, or_from, peeks, plainly, puts_items, reaps, releases_locks, rest_at, returns_to, sets_variable, settled, submits, takes_locks, tries_to_take, variable, wrapped, list_at}
use Rattle.rc_world.specs.Faults.{is_holder}
use Rattle.rc_world.specs.Machine.{World, start_world, stmt_answer}
use Rattle.rc_world.specs.Runs.{IsRun, IsStep}
use Rattle.rc_world.proofs.LawLists.{get_in_range}
use Rattle.rc_world.proofs.LawPlaces.{arm_found, arms, op_place, place_passes, put_place}
use Rattle.rc_world.proofs.LawRuns.{IsSound, after_step, start_of}
use Rattle.rc_world.proofs.LawSteps.{Completed, Stepped, completed, stepped, stands_written}
use Rattle.rc_world.proofs.Lists.{get_set}
use Rattle.rc_world.proofs.RingSteps.{rings_same, small_read}
use Rattle.rc_lang.specs.Rows.{read_op, read_stmt}

-- the locks that are open at a place of a thread, and those that a thread holds
abbrev pub locks_at : Program → ℕ → ℕ → Locks
locks_at P i j = locks_in (blocks_at (lines_of P i) j)

abbrev pub held : Holders → ℕ → Locks
held h i = record { sq = is_holder h.sq i; cq = is_holder h.cq i }

-- ---- one lock that thread i takes if it is wanted, or releases

taken_mine : (a : Bool) (o : Option ℕ) (i : ℕ) → is_free a o ≡ true → (is_holder o i || a) ≡ is_holder (if a then Some i else o) i
taken_mine true None i f = sym (eq-eqb i i refl)
taken_mine true (Some j) i f = absurd (cc)
taken_mine false o i f = or-false (is_holder o i)

taken_other : (a : Bool) (o : Option ℕ) (i k : ℕ) → k ≢ i → is_free a o ≡ true → is_holder o k ≡ is_holder (if a then Some i else o) k
taken_other true None i k n f = sym (ne_eqb i k (λ e. n (sym e)))
taken_other true (Some j) i k n f = absurd (cc)
taken_other false o i k n f = refl

taken_by_whom : (a : Bool) (o : Option ℕ) (i j : ℕ) → (if a then Some i else o) ≡ Some j → (j ≡ i) ⊎ (o ≡ Some j)
taken_by_whom true o i j e = inl (sym (same_Some i j e))
taken_by_whom false o i j e = inr e

freed_mine : (r : Bool) (o : Option ℕ) (i : ℕ) → (is_holder o i && not r) ≡ is_holder (if r then None else o) i
freed_mine true o i = and_right (is_holder o i) (not true) refl
freed_mine false o i = kept (is_holder o i)
  where
    kept : (b : Bool) → (b && not false) ≡ b
    kept true = refl
    kept false = refl

freed_other : (r : Bool) (o : Option ℕ) (i k : ℕ) → k ≢ i → (r ≡ true → is_holder o i ≡ true) → is_holder o k ≡ is_holder (if r then None else o) k
freed_other true None i k n h = refl
freed_other true (Some j) i k n h = let q : j ≡ i = eqb-true j i (h refl) in ne_eqb j k (λ e. n (sym e ∙ q))
freed_other false o i k n h = refl

freed_by_whom : (r : Bool) (o : Option ℕ) (j : ℕ) → (if r then None else o) ≡ Some j → o ≡ Some j
freed_by_whom true o j e = absurd (cc)
freed_by_whom false o j e = e

-- ---- a step of thread i

-- Who holds the locks is changed to this, and thread i goes to a place that has the locks which it holds then.
record Turns (P : Program) (h new : Holders) (i place : ℕ) : Type 0 where
  mine : locks_at P i place ≡ held new i
  others : (k : ℕ) → k ≢ i → held h k ≡ held new k
  sq : (j : ℕ) → new.sq ≡ Some j → (j ≡ i) ⊎ (h.sq ≡ Some j)
  cq : (j : ℕ) → new.cq ≡ Some j → (j ≡ i) ⊎ (h.cq ≡ Some j)

module _ (P : Program) (h : Holders) (i j : ℕ) where
  stays : locks_at P i j ≡ held h i → Turns P h h i j
  stays l = record { mine = l; others = λ k n. refl; sq = λ k e. inr e; cq = λ k e. inr e }

  takes : (wanted : Locks) → are_free wanted h ≡ true → locks_at P i j ≡ with_locks (held h i) wanted → Turns P h (held_by (Some i) wanted h) i j
  takes wanted free l =
      let f = and_parts (is_free wanted.sq h.sq) (is_free wanted.cq h.cq) free in
      record {
        mine = l ∙ same_sides (taken_mine wanted.sq h.sq i f.0) (taken_mine wanted.cq h.cq i f.1);
        others = λ k n. same_sides (taken_other wanted.sq h.sq i k n f.0) (taken_other wanted.cq h.cq i k n f.1);
        sq = λ k e. taken_by_whom wanted.sq h.sq i k e;
        cq = λ k e. taken_by_whom wanted.cq h.cq i k e;
      }

  frees : (released : Locks) → (released.sq ≡ true → is_holder h.sq i ≡ true) → (released.cq ≡ true → is_holder h.cq i ≡ true) → locks_at P i j ≡ without_locks (held h i) released → Turns P h (held_by None released h) i j
  frees released p q l = record {
    mine = l ∙ same_sides (freed_mine released.sq h.sq i) (freed_mine released.cq h.cq i);
    others = λ k n. same_sides (freed_other released.sq h.sq i k n p) (freed_other released.cq h.cq i k n q);
    sq = λ k e. inr (freed_by_whom released.sq h.sq k e);
    cq = λ k e. inr (freed_by_whom released.cq h.cq k e);
  }

module _ (P : Program) (is : IsProgram P) (i : ℕ) where
  laid : IsLaid (lines_of P i) (ends_in (slice_get P.threads i))
  laid = laid_in P is i

  -- ---- lines that are no events

  else_same : (j o : ℕ) → stmt_at (lines_of P i) j ≡ Some (Else o) → locks_at P i (end_at P i j + 1) ≡ locks_at P i j
  else_same j o e =
      let c = turns (lines_of P i) laid.each j o e in
      ap locks_in (else_leads (lines_of P i) _ laid j o e).lands.blocks ∙ sym (same_locks (blocks_at (lines_of P i) o) (InIf o) refl) ∙ sym (ap locks_in c.within)

  arm_same : (j o : ℕ) → stmt_at (lines_of P i) j ≡ Some (EndArm o) → locks_at P i (end_at P i o + 1) ≡ locks_at P i j
  arm_same j o e =
      let c = closes_arm (lines_of P i) laid.each j o e in
      ap locks_in (arm_leads (lines_of P i) _ laid j o e).lands.blocks
      ∙ sym (ap locks_in c.within ∙ locks_more (blocks_at (lines_of P i) o) (InPeek o ∷ InArm o ∷ []) ∙ with_none (locks_at P i o))

  settled_same : (n j : ℕ) → locks_at P i (settled P i n j) ≡ locks_at P i j
  settled_same zero j = refl
  settled_same (suc n) j = go (λ k. settled_same n k) (stmt_at (lines_of P i) j) refl
    where
      go : ((k : ℕ) → locks_at P i (settled P i n k) ≡ locks_at P i k) → (s : Option Stmt) → stmt_at (lines_of P i) j ≡ s → locks_at P i (or_from j (λ k. settled P i n k) (hop_of P i j s)) ≡ locks_at P i j
      go on None e = refl
      go on (Some (Else o)) e = on (end_at P i j + 1) ∙ else_same j o e
      go on (Some (EndIf o)) e = on (j + 1) ∙ locks_next (lines_of P i) laid.each j (EndIf o) e
      go on (Some (EndArm o)) e = on (end_at P i o + 1) ∙ arm_same j o e
      go on (Some _) e = refl

  rest_same : (j : ℕ) → locks_at P i (rest_at P i j) ≡ locks_at P i j
  rest_same j = settled_same (length (lines_of P i)) j

  -- ---- the arms of a peek

  module _ (o : ℕ) where
    arm_locks : (k : ℕ) → blocks_at (lines_of P i) (k + 1) ≡ blocks_at (lines_of P i) o ++ InPeek o ∷ InArm o ∷ [] → locks_at P i (k + 1) ≡ locks_at P i o
    arm_locks k e = ap locks_in e ∙ locks_more (blocks_at (lines_of P i) o) (InPeek o ∷ InArm o ∷ []) ∙ with_none (locks_at P i o)

    case_locks : (u : ℕ) (s : Stmt) (k : ℕ) → is_case o u s ≡ true → stmt_at (lines_of P i) k ≡ Some s → locks_at P i (k + 1) ≡ locks_at P i o
    case_locks u (Case p v) k t e =
        let q : p ≡ o = eqb-true p o (and_parts (nat_eq p o) (nat_eq v u) t).0 in
        arm_locks k (case_lands (lines_of P i) _ laid o k v (subst (λ x. stmt_at (lines_of P i) k ≡ Some (Case x v)) q e)).blocks
    case_locks u _ k t e = absurd (cc)

    other_locks : (s : Stmt) (k : ℕ) → is_other o s ≡ true → stmt_at (lines_of P i) k ≡ Some s → locks_at P i (k + 1) ≡ locks_at P i o
    other_locks (Other p) k t e = let q : p ≡ o = eqb-true p o t in arm_locks k (other_lands (lines_of P i) _ laid o k (subst (λ x. stmt_at (lines_of P i) k ≡ Some (Other x)) q e)).blocks
    other_locks _ k t e = absurd (cc)

    none_locks : (s : Stmt) (k : ℕ) → is_none_arm o s ≡ true → stmt_at (lines_of P i) k ≡ Some s → locks_at P i (k + 1) ≡ locks_at P i o
    none_locks (Nothing p) k t e = let q : p ≡ o = eqb-true p o t in arm_locks k (nothing_lands (lines_of P i) _ laid o k (subst (λ x. stmt_at (lines_of P i) k ≡ Some (Nothing x)) q e)).blocks
    none_locks _ k t e = absurd (cc)

    found_locks : (test : Stmt → Bool) → ((s : Stmt) (k : ℕ) → test s ≡ true → stmt_at (lines_of P i) k ≡ Some s → locks_at P i (k + 1) ≡ locks_at P i o) → (k : ℕ) → first_place test (arms_of P i o) ≡ Some k → locks_at P i (o + k + 1) ≡ locks_at P i o
    found_locks test leads k e =
        let p = place_passes test (arms_of P i o) k e in
        leads p.line.stmt (o + k) p.passes (ap stmt_of (get_in_range (lines_of P i) o (end_at P i o) k p.line p.stands))

    module _ (x : ℕ) (here : stmt_at (lines_of P i) o ≡ Some (Peek x)) where
      there : HasArms (lines_of P i) (ends_in (slice_get P.threads i)) o
      there = arms P is i o x here

      none_arm_locks : locks_at P i (none_arm P i o + 1) ≡ locks_at P i o
      none_arm_locks =
          let p = arm_found P is i o x here (is_none_arm o) (Nothing o) there.none.place there.none.stands (eq-eqb o o refl) (nothing_between (lines_of P i) _ laid o there.none.place there.none.stands) in
          ap (λ k. locks_at P i (o + unwrap_or k 0 + 1)) p.1 ∙ found_locks (is_none_arm o) none_locks p.0 p.1

      arm_for_locks : (u : ℕ) → locks_at P i (arm_for P i o u + 1) ≡ locks_at P i o
      arm_for_locks u = go (first_place (is_case o u) (arms_of P i o)) refl
        where
          go : (k : Option ℕ) → first_place (is_case o u) (arms_of P i o) ≡ k → locks_at P i (o + unwrap_or k (unwrap_or (first_place (is_other o) (arms_of P i o)) 0) + 1) ≡ locks_at P i o
          go (Some k) g = found_locks (is_case o u) (case_locks u) k g
          go None g =
              let p = arm_found P is i o x here (is_other o) (Other o) there.other.place there.other.stands (eq-eqb o o refl) (other_between (lines_of P i) _ laid o there.other.place there.other.stands) in
              ap (λ k. locks_at P i (o + unwrap_or k 0 + 1)) p.1 ∙ found_locks (is_other o) other_locks p.0 p.1

  -- ---- what a statement leads to

  module _ (c : Controls) (t : Standing) (a : Answer) (m : Move) where
    same_move : (n : Move) → Some n ≡ Some m → m ≡ n
    same_move n e = sym (same_Some n m e)

    plain_move : (n : Move) (b : Answer) → plainly n b ≡ Some m → m ≡ n
    plain_move n Plain e = same_move n e
    plain_move n _ e = absurd (cc)

    abbrev Done : Type 0
    Done = Turns P c.holders m.holders i m.place

    by_move : (n : Move) → m ≡ n → Turns P c.holders n.holders i n.place → Done
    by_move n e h = subst (λ (k : Move). Turns P c.holders k.holders i k.place) (sym e) h

    by_parts : (j : ℕ) → m.place ≡ j → m.holders ≡ c.holders → locks_at P i j ≡ held c.holders i → Done
    by_parts j p h l = subst (λ k. Turns P c.holders m.holders i k) (sym p) (subst (λ (x : Holders). Turns P c.holders x i j) (sym h) (stays P c.holders i j l))

    -- calls leave the locks as they are
    keeps_by : (n : Move) → m ≡ n → m.holders ≡ n.holders
    keeps_by n e = ap (λ (k : Move). k.holders) e

    load_keeps : (x : ℕ) (b : Answer) → loads c t x b ≡ Some m → m.holders ≡ c.holders
    load_keeps x (Byte v) e = keeps_by _ (same_move _ e)
    load_keeps x _ e = absurd (cc)

    submit_keeps : (x : ℕ) (b : Answer) → submits c t x b ≡ Some m → m.holders ≡ c.holders
    submit_keeps x (Number v) e = keeps_by _ (same_move _ e)
    submit_keeps x _ e = absurd (cc)

    get_keeps : (b : Answer) → gets_data c t b ≡ Some m → m.holders ≡ c.holders
    get_keeps (Front v) e = keeps_by _ (same_move _ e)
    get_keeps _ e = absurd (cc)

    reap_keeps : (b : Answer) → reaps c t b ≡ Some m → m.holders ≡ c.holders
    reap_keeps (Front v) e = keeps_by _ (same_move _ e)
    reap_keeps _ e = absurd (cc)

    assign_keeps : (x : ℕ) (v : ℤ) → assigns c t x v a ≡ Some m → m.holders ≡ c.holders
    assign_keeps x v e = keeps_by _ (plain_move (sets_variable c t x v (VariableSet v)) a e)

    op_keeps : (op : Op) → does c t op a ≡ Some m → m.holders ≡ c.holders
    op_keeps (Set x n) e = assign_keeps x n e
    op_keeps (Assign x y) e = assign_keeps x (variable t y) e
    op_keeps (Add x y z) e = assign_keeps x (wrapped (operand_value t y +ℤ operand_value t z)) e
    op_keeps (Subtract x y z) e = assign_keeps x (wrapped (operand_value t y -ℤ operand_value t z)) e
    op_keeps (Load x b k) e = load_keeps x a e
    op_keeps (Store b k x) e = keeps_by _ (plain_move (goes_on c t (Stored (low_byte (variable t x)))) a e)
    op_keeps (Fill b x) e = keeps_by _ (plain_move (goes_on c t (Filled (low_byte (variable t x)))) a e)
    op_keeps (Print x) e = keeps_by _ (plain_move (goes_on c t (Printed (variable t x))) a e)
    op_keeps GetSqe e = keeps_by _ (plain_move (goes_on c t EntryOpened) a e)
    op_keeps (PrepRead fd b len off) e = keeps_by _ (plain_move (goes_on c t ReadPrepared) a e)
    op_keeps (PrepWrite fd b len off k) e = keeps_by _ (plain_move (goes_on c t WritePrepared) a e)
    op_keeps (PrepFsync fd datasync) e = keeps_by _ (plain_move (goes_on c t FsyncPrepared) a e)
    op_keeps PrepNop e = keeps_by _ (plain_move (goes_on c t NopPrepared) a e)
    op_keeps PrepOther e = keeps_by _ (plain_move (goes_on c t OtherPrepared) a e)
    op_keeps (SetData64 u) e = keeps_by _ (plain_move (goes_on c t (DataSet u)) a e)
    op_keeps (Submit x) e = submit_keeps x a e
    op_keeps (SubmitAndWait x n) e = submit_keeps x a e
    op_keeps CqeGetData64 e = get_keeps a e
    op_keeps CqeSeen e = reap_keeps a e

    room_keeps : (full : Bool) (n : Move) → (if full then None else plainly n a) ≡ Some m → m.holders ≡ n.holders
    room_keeps true n e = absurd (cc)
    room_keeps false n e = keeps_by n (plain_move n a e)

    put_keeps : (pool : Option ℕ) (items : Items) → puts_items P c t pool items a ≡ Some m → m.holders ≡ c.holders
    put_keeps pool items e = room_keeps (overfills P (all_pooled P c.pools) items) (record (goes_on c t ItemsPut) { pools = put_into P pool items c.pools }) e

    if_free : (free : Bool) (n : Move) → (if free then plainly n a else None) ≡ Some m → (free ≡ true) × (m ≡ n)
    if_free true n e = (refl, plain_move n a e)
    if_free false n e = absurd (cc)

    module _ (fits : locks_at P i t.place ≡ held c.holders i) where
      lock_turns : (wanted : Locks) → stmt_at (lines_of P i) t.place ≡ Some (Lock wanted) → acts P c i t (Lock wanted) a ≡ Some m → Done
      lock_turns wanted h e =
          let x = if_free (are_free wanted c.holders) (takes_locks c i t wanted) e in
          by_move (takes_locks c i t wanted) x.1 (takes P c.holders i (t.place + 1) wanted x.0 (locks_next (lines_of P i) laid.each t.place (Lock wanted) h ∙ ap (λ l. with_locks l wanted) fits))

      release_turns : (o : ℕ) (released : Locks) → stmt_at (lines_of P i) t.place ≡ Some (EndLock o released) → plainly (releases_locks c t released) a ≡ Some m → Done
      release_turns o released h e =
          let k = closes_lock (lines_of P i) laid.each t.place o released h in
          let l : held c.holders i ≡ with_locks (locks_at P i o) released = sym fits ∙ ap locks_in k.within ∙ locks_pushed (blocks_at (lines_of P i) o) o released in
          by_move (releases_locks c t released) (plain_move (releases_locks c t released) a e) (
          frees P c.holders i (t.place + 1) released
          (λ q. ap (λ (x : Locks). x.sq) l ∙ or_right (locks_at P i o).sq released.sq q)
          (λ q. ap (λ (x : Locks). x.cq) l ∙ or_right (locks_at P i o).cq released.cq q)
          (locks_next (lines_of P i) laid.each t.place (EndLock o released) h ∙ ap (λ x. without_locks x released) fits))

      break_turns : (o : ℕ) (releases : Locks) (leaves : Bool) → stmt_at (lines_of P i) t.place ≡ Some (Break o releases leaves) → plainly (breaks P c i t o releases leaves) a ≡ Some m → Done
      break_turns o releases leaves h e =
          let b = leaves_loop (lines_of P i) laid.each t.place o releases leaves h in
          let l = ap locks_in (break_leads (lines_of P i) _ laid t.place o releases leaves h).1.lands.blocks ∙ b.locks_outside ∙ ap (λ x. without_locks x releases) fits in
          by_move (breaks P c i t o releases leaves) (plain_move (breaks P c i t o releases leaves) a e) (
          frees P c.holders i (end_at P i o + 1) releases
          (λ q. ap (λ (x : Locks). x.sq) (sym fits) ∙ b.locked.sq q)
          (λ q. ap (λ (x : Locks). x.cq) (sym fits) ∙ b.locked.cq q)
          l)

      module _ (test : Test) (here : stmt_at (lines_of P i) t.place ≡ Some (If test)) where
        false_locks : locks_at P i (end_at P i t.place + 1) ≡ locks_at P i t.place
        false_locks = elim (false_leads (lines_of P i) _ laid t.place test here) [
          | inl x ↦ ap locks_in x.lands.blocks ∙ same_locks (blocks_at (lines_of P i) t.place) (InElse (end_at P i t.place)) refl
          | inr x ↦ ap locks_in x.lands.blocks
        ]

        yes : Turns P c.holders c.holders i (t.place + 1)
        yes = stays P c.holders i (t.place + 1) (locks_next (lines_of P i) laid.each t.place (If test) here ∙ fits)

        no : Turns P c.holders c.holders i (end_at P i t.place + 1)
        no = stays P c.holders i (end_at P i t.place + 1) (false_locks ∙ fits)

        branch_turns : (holds : Bool) → m ≡ branches P c i t holds → Done
        branch_turns true e = by_move _ e yes
        branch_turns false e = by_move _ e no

        take_turns : (pools : Pools) (holds : Bool) → m ≡ (if holds then record (branches P c i t true) { pools = pools } else branches P c i t false) → Done
        take_turns pools true e = by_move _ e yes
        take_turns pools false e = by_move _ e no

        choice_turns : (may holds : Bool) → (if may then Some (branches P c i t holds) else None) ≡ Some m → Done
        choice_turns true holds e = branch_turns holds (same_move _ e)
        choice_turns false holds e = absurd (cc)

        decide_turns : (x : Test) (b : Answer) → decides P c i t x b ≡ Some m → Done
        decide_turns (Compare x comparison n) b e = branch_turns (compares comparison (variable t x) n) (plain_move (branches P c i t (compares comparison (variable t x) n)) b e)
        decide_turns ReadyZero (Number n) e = branch_turns (int_eq n (pos 0)) (same_move _ e)
        decide_turns ReadyZero _ e = absurd (cc)
        decide_turns (SpaceAtLeast k) (Number n) e = branch_turns (int_le (pos k) n) (same_move _ e)
        decide_turns (SpaceAtLeast k) _ e = absurd (cc)
        decide_turns (Take pool k) b e =
            let items : Items = list_at P i t k in
            take_turns (taken_from P pool items c.pools) (includes P (pool_of c.pools pool) items) (plain_move (tries_to_take P c i t pool items) b e)
        decide_turns Any (Number n) e = choice_turns (is_choice n) (int_eq n (pos 1)) e
        decide_turns Any _ e = absurd (cc)

      peek_turns : (x : ℕ) → stmt_at (lines_of P i) t.place ≡ Some (Peek x) → (b : Answer) → peeks P c i t x b ≡ Some m → Done
      peek_turns x h Plain e = by_move _ (same_move _ e) (stays P c.holders i (none_arm P i t.place + 1) (none_arm_locks t.place x h ∙ fits))
      peek_turns x h (Front cqe) e = by_move _ (same_move _ e) (stays P c.holders i (arm_for P i t.place cqe.user_data + 1) (arm_for_locks t.place x h cqe.user_data ∙ fits))
      peek_turns x h (Number n) e = absurd (cc)
      peek_turns x h (Byte n) e = absurd (cc)

      act_turns : (s : Stmt) → stmt_at (lines_of P i) t.place ≡ Some s → acts P c i t (read_stmt P (rows_of P i) t.variables s) a ≡ Some m → Done
      act_turns (Do op) h e =
          let read : Op = read_op P (rows_of P i) t.variables op in
          by_parts (t.place + 1) (op_place P is i c t a m read e) (op_keeps read e) (locks_next (lines_of P i) laid.each t.place (Do op) h ∙ fits)
      act_turns (Put pool k) h e =
          let items : Items = list_at P i t k in
          by_parts (t.place + 1) (put_place P is i c t a m pool items e) (put_keeps pool items e) (locks_next (lines_of P i) laid.each t.place (Put pool k) h ∙ fits)
      act_turns (Lock wanted) h e = lock_turns wanted h e
      act_turns (EndLock o released) h e = release_turns o released h e
      act_turns (If test) h e = decide_turns test h test a e
      act_turns (Peek x) h e = peek_turns x h a e
      act_turns (Loop k) h e = by_move (goes_on c t Looped) (plain_move (goes_on c t Looped) a e) (stays P c.holders i (t.place + 1) (locks_next (lines_of P i) laid.each t.place (Loop k) h ∙ fits))
      act_turns (EndLoop o k) h e = by_move (returns_to c t o) (plain_move (returns_to c t o) a e) (stays P c.holders i (o + 1) (ap locks_in (back_leads (lines_of P i) _ laid t.place o k h).1 ∙ fits))
      act_turns (Break o releases leaves) h e = break_turns o releases leaves h e
      act_turns _ h e = absurd (cc)

-- ---- runs

-- Each thread holds the locks that are open at its place, and who holds a lock is a thread.
pub record Fits (w : World) : Type 0 where
  pub each : (i : ℕ) (t : Standing) → slice_get w.controls.threads i ≡ Some t → locks_at w.program i t.place ≡ held w.controls.holders i
  pub sq : (j : ℕ) → w.controls.holders.sq ≡ Some j → j < length w.controls.threads
  pub cq : (j : ℕ) → w.controls.holders.cq ≡ Some j → j < length w.controls.threads

pub fits_at_start : (program : Program) → Fits (start_world program)
fits_at_start program = record {
  each = λ i t e. ap (λ j. locks_at program i j) (start_of program.threads i t e);
  sq = λ j e. absurd (cc);
  cq = λ j e. absurd (cc);
}

module _ (program : Program) (w : World) (h : IsSound program w) (f : Fits w) where
  after_thread : (i : ℕ) (r : ℤ) (after : World) → Stepped w i r after → Fits after
  after_thread i r after s =
      let P = w.program in
      let a = stmt_answer w r s.line.stmt in
      let v = stands_written w i s.standing s.line s.stands in
      let same = rings_same w h.kept s.standing r s.line.stmt (small_read P h.kept.made i s.standing.variables s.standing.place s.line s.stands.line) s.rings s.in_the_rings in
      let acted = subst (λ (x : Stmt). acts P w.controls i s.standing x a ≡ Some s.move) v.read s.acted in
      let x = act_turns P h.kept.made i w.controls s.standing a s.move (f.each i s.standing s.stands.standing) v.written.stmt v.says acted in
      let t : Standing = record { place = rest_at P i s.move.place; variables = s.move.variables } in
      let lt : i < length w.controls.threads = slice_get_within w.controls.threads i s.standing s.stands.standing in
      let many : length (slice_set w.controls.threads i t) ≡ length w.controls.threads = length-set w.controls.threads i t in
      let within = λ (j : ℕ) (q : j < length w.controls.threads). subst (λ n. j < n) (sym many) q in
      subst (λ y. Fits y) s.same (record {
        each = λ k u e. subst (λ (Q : Program). locks_at Q k u.place ≡ held s.move.holders k) (sym same.program) (elim (get_set w.controls.threads i k t u e) [
          | inl d ↦ subst (λ (y : Standing). locks_at P k y.place ≡ held s.move.holders k) d.1 (subst (λ n. locks_at P n t.place ≡ held s.move.holders n) (sym d.0) (rest_same P h.kept.made i s.move.place ∙ x.mine))
          | inr d ↦ f.each k u d.1 ∙ x.others k d.0
        ]);
        sq = λ j e. within j (elim (x.sq j e) [ inl d ↦ subst (λ n. n < length w.controls.threads) (sym d) lt | inr d ↦ f.sq j d ]);
        cq = λ j e. within j (elim (x.cq j e) [ inl d ↦ subst (λ n. n < length w.controls.threads) (sym d) lt | inr d ↦ f.cq j d ]);
      })

  after_kernel : (k : ℕ) (res : ℤ) (bytes : List ℕ) (after : World) → Completed w k res bytes after → Fits after
  after_kernel k res bytes after c = subst (λ y. Fits y) c.same (record { each = f.each; sq = f.sq; cq = f.cq })

  fits_after : (after : World) (e : Event) → IsStep w e after → Fits after
  fits_after after e s = elim s.step [
    | inl q ↦ after_thread q.0 q.1 after (stepped w q.0 q.1 e after q.2)
    | inr q ↦ after_kernel q.0 q.1 q.2 after (completed w q.0 q.1 q.2 e after (slice_get w.pending q.0) refl q.3)
  ]

pub run_fits : (program : Program) (events : List Event) (w after : World) → IsSound program w → Fits w → IsRun w events after → Fits after
run_fits program [] w after h f r = subst (λ y. Fits y) r f
run_fits program (e ∷ events) w after h f r = run_fits program events r.0 after (after_step program w r.0 e h r.1) (fits_after program w h f r.0 e r.1) r.2
