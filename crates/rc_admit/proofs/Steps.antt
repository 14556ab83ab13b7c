-- Each step of a thread keeps what is true of each world.
use Rattle.std.proofs.Common.{◌≡◌, ℕ, ◌+◌, ◌-◌, ◌≤◌, Bool, true, false, cond, List, [], ◌∷◌, length, Option, Some, None, refl, sym, ap, ◌∙◌, subst, ◌⊎◌, inl, inr, arith}
use Rattle.std.specs.Prelude.{is_some, option_map, slice_set, slice_get, unwrap_or, slice_index_or, nat_eq, nat_le, not, min, ℤ, pos, int_le, if◌then◌else◌}
use Rattle.std.specs.Ordering.{int_eq}
use Rattle.std.proofs.lemmas.Option.{slice_get_within}
use Rattle.std.proofs.lemmas.Bool.{and_from, and_parts, false_from_ne_true, leb-true}
use Rattle.std.specs.List.{list_any}
use Rattle.std.proofs.lemmas.Bool.Decides.{Decides-int_eq}
use Rattle.rc_lang.specs.Comparisons.{compares}
use Rattle.rc_lang.specs.declared.lines.Locks.{Locks}
use Rattle.rc_lang.specs.declared.lines.Op.TheVariants.{Load}
use Rattle.rc_lang.specs.declared.lines.Stmt.{Stmt}
use Rattle.rc_lang.specs.declared.lines.Stmt.TheVariants.{Do, Put, Lock, EndLock, If, Peek, Loop, EndLoop, Break}
use Rattle.rc_lang.specs.declared.lines.Test.{Test}
use Rattle.rc_lang.specs.declared.lines.Test.TheVariants.{Compare, ReadyZero, SpaceAtLeast, Take, Any}
use Rattle.rc_lang.proofs.Closing.{AreAmong}
use Rattle.rc_lang.specs.Program.{Items, Program, end_at, items_at, lists_of}
use Rattle.rc_lang.specs.Kept.{IsItems, IsProgram}
use Rattle.rc_rules.specs.declared.mode.Mode.{Mode}
use Rattle.rc_rules.specs.declared.mode.Peeked.{Peeked}
use Rattle.rc_rules.specs.declared.mode.Peeked.TheVariants.{Unseen, Sees, SeesOther, Got}
use Rattle.rc_rules.specs.declared.mode.Slot.TheVariants.{Closed}
use Rattle.rc_rules.specs.declared.mode.Submitting.{Submitting}
use Rattle.rc_rules.specs.Labels.{Label, Dead, Live}
use Rattle.rc_rules.specs.Premises.{Meets}
use Rattle.rc_rules.specs.Needs.{line_premises}
use Rattle.rc_rules.specs.Rules.{at_most, can_take, freed, has_room, is_got, limit, locked, locks_of, names_peeked, peeked_of, same_slot, take_effect, test_effect, test_mode, with_peeked}
use Rattle.rc_rules.proofs.Weaker.{same_slot_is}
use Rattle.rc_split.specs.Bags.{Part, TokenOf, bag_of, minus, plus}
use Rattle.rc_split.specs.Pools.{all_pooled, includes, overfills, pool_of, pooled, put_into, taken_from}
use Rattle.rc_split.proofs.AllPools.{all_with, all_without, pooled_most}
use Rattle.rc_split.proofs.Named.{included}
use Rattle.rc_world.specs.declared.controls.Answer.TheVariants.{Plain}
use Rattle.rc_world.specs.declared.controls.Look.{Look}
use Rattle.rc_world.specs.declared.controls.Look.TheVariants as looks
use Rattle.rc_world.specs.declared.event.Action.TheVariants.{ItemsPut}
use Rattle.rc_world.specs.declared.event.Completion.{Completion}
use Rattle.rc_world.specs.declared.world.Slot.TheVariants as entries
use Rattle.rc_world.specs.Controls.{Standing, acts, are_free, arm_for, branches, decides, goes_on, held_by, is_choice, is_free, locks, none_arm, peeks, plainly, puts_items, takes_locks, tries_to_take}
use Rattle.rc_world.specs.Machine.{World, front_of, in_rings, slot_len, stmt_answer, test_answer, used_entries}
use Rattle.rc_world.specs.Stray.{strays}
use Rattle.rc_admit.proofs.Flight.{all_unreaped, data_in, front_is, is_reaped}
use Rattle.rc_admit.proofs.Fronts.{starts_head}
use Rattle.rc_admit.proofs.RequestKinds.{owns}
use Rattle.rc_admit.proofs.Lists.{sum_over}
use Rattle.rc_admit.proofs.Moves.{CqPart, Moved, SqPart, moves, put, with_locks, cq_frees, cq_has, cq_step, cq_takes, idle_later, place_later, sq_frees, sq_has, sq_step, sq_still, sq_takes, cq_still, taken, unreaped_later}
use Rattle.rc_admit.proofs.Ops.{Keeps, slot_closed, op_keeps, pooling, quiet}
use Rattle.rc_admit.proofs.Owned.{Stand, Leads, MayPass, EdgeAt, HasEdge, slot_bag, mode_bag, place_bag, unheld, SlotFits, StartsWith, IsNonempty, FrontFits, Owned, WellOwned, bound_one, not_reaped}
use Rattle.rc_admit.proofs.Pool.{items_of, room_for, token_there}
use Rattle.rc_admit.proofs.Rule.{AtLive, CanLeave, Claim, asks_lock, brace_leaves, brace_seen, break_leaves, break_seen, called, held_of, known_sq, put_covered}
use Rattle.rc_admit.proofs.Tokens.{token_owned}
use Rattle.rc_lang.proofs.Reading.{list_alone}

-- what is claimed where a test that always may pass does
as_passed : (l : Label) (K : Claim) → AtLive l (λ c n. Unit {0} → K c n) → AtLive l K
as_passed Dead K a = tt
as_passed (Live b m) K a = a tt

-- A wanted lock is free.
none_of : (wanted : Bool) (holder : Option ℕ) → is_free wanted holder ≡ true → wanted ≡ true → holder ≡ None
none_of true None f e = refl
none_of true (Some j) f e = absurd (cc)
none_of false holder f e = absurd (cc)

-- what a slot owns whose lock is taken, or given back
bag_taken : (P : Program) (b : Bool) (x : Option Submitting) (p : Part) → slot_bag P (unwrap_or (cond b (Some (taken P)) x) (record { queued = 0; slot = Closed })).slot p ≤ slot_bag P (unwrap_or x (record { queued = 0; slot = Closed })).slot p
bag_taken P true x p = omega arith
bag_taken P false x p = omega arith

bag_freed : (P : Program) (b : Bool) (x : Option Submitting) (p : Part) → slot_bag P (unwrap_or (cond b None x) (record { queued = 0; slot = Closed })).slot p ≤ slot_bag P (unwrap_or x (record { queued = 0; slot = Closed })).slot p
bag_freed P true x p = omega arith
bag_freed P false x p = omega arith

-- A front completion that isn't got owns nothing.
nothing_placed : (look : Look) (p : Part) → is_reaped look ≡ false → place_bag look p ≡ 0
nothing_placed looks.Unseen p e = refl
nothing_placed looks.Peeked p e = refl
nothing_placed looks.Got p e = absurd (cc)

module _ (P : Program) (S : Stand) (w : World) (bags : ℕ → Part → ℕ) (modes : ℕ → Mode) (i : ℕ) (o : Owned P S w bags modes) where
  -- The label says that fewer are queued, as they are.
  knows : (n : ℕ) (s : Submitting) → (modes i).sq ≡ Some s → length w.queued + slot_len w.slot ≤ n → Moved P w w bags modes i (bags i) (at_most n (modes i))
  knows n s e few =
      let h = sq_has P S w bags modes i o s e in
      let less : Submitting → Submitting = λ (x : Submitting). record x { queued = min x.queued n } in
      record {
        of = o.of;
        room = o.room;
        same = refl;
        local = λ p.
            let x : mode_bag P (at_most n (modes i)) p ≡ slot_bag P s.slot p = ap (λ (y : Option Submitting). slot_bag P (unwrap_or (option_map less y) (record { queued = 0; slot = Closed })).slot p) e in
            let y : mode_bag P (modes i) p ≡ slot_bag P s.slot p = ap (λ (y : Option Submitting). slot_bag P (unwrap_or y (record { queued = 0; slot = Closed })).slot p) e in
            omega arith;
        submits = subst (λ x. SqPart P w.controls.holders.sq (length w.queued) w.slot modes i x) (sym (ap (option_map less) e)) (sq_step P S w bags modes i o (length w.queued) w.slot s (less s) e (omega (arith, h.1)) h.2);
        reaps = cq_still P S w bags modes i o;
        queued = o.queued;
        pending = o.pending;
        completed = o.completed;
        agree = o.agree;
      }

  -- What the label says that isn't got isn't.
  front_open : (p : Peeked) → (modes i).cq ≡ Some p → not (is_got p) ≡ true → is_reaped w.controls.look ≡ false
  front_open p e n = not_reaped w.controls.look w.completions p n (cq_has P S w bags modes i o p e).1

  known_open : (p : Peeked) → (modes i).cq ≡ Some p → not (is_got (peeked_of (modes i))) ≡ true → is_reaped w.controls.look ≡ false
  known_open p e n = front_open p e (subst (λ x. not (is_got (unwrap_or x Unseen)) ≡ true) e n)

  -- The label says something else of the front, in the same world but for what was done with that; it isn't got.
  sees : (look : Look) (k x : Peeked) → (modes i).cq ≡ Some k → is_reaped w.controls.look ≡ false → is_reaped look ≡ false → FrontFits look w.completions x → Moved P w (with_locks w w.controls.holders look) bags modes i (bags i) (with_peeked x (modes i))
  sees look k x e n m fit = record {
    of = o.of;
    room = o.room;
    same = refl;
    local = λ p. omega (arith, nothing_placed look p m);
    submits = sq_still P S w bags modes i o;
    reaps = subst (λ c. CqPart w.controls.holders.cq look w.completions modes i c) (sym (ap (option_map (λ _. x)) e)) (cq_step P S w bags modes i o look w.completions k x e fit);
    queued = o.queued;
    pending = o.pending;
    completed = o.completed;
    agree = o.agree ∙ ap data_in (all_unreaped w.controls.look w.completions n ∙ sym (all_unreaped look w.completions m));
  }

  -- Each lock is taken or kept,
  sq_taken : (b : Bool) → (b ≡ true → w.controls.holders.sq ≡ None) → SqPart P (if b then Some i else w.controls.holders.sq) (length w.queued) w.slot modes i (cond b (Some (taken P)) (modes i).sq)
  sq_taken true n = sq_takes P S w bags modes i o (n refl)
  sq_taken false n = sq_still P S w bags modes i o

  cq_taken : (b : Bool) → (b ≡ true → w.controls.holders.cq ≡ None) → CqPart (if b then Some i else w.controls.holders.cq) w.controls.look w.completions modes i (cond b (Some Unseen) (modes i).cq)
  cq_taken true n = cq_takes P S w bags modes i o (n refl)
  cq_taken false n = cq_still P S w bags modes i o

  takes : (l : Locks) → (l.sq ≡ true → w.controls.holders.sq ≡ None) → (l.cq ≡ true → w.controls.holders.cq ≡ None) → Moved P w (with_locks w (held_by (Some i) l w.controls.holders) w.controls.look) bags modes i (bags i) (locked P l (modes i))
  takes l n m = record {
    of = o.of;
    room = o.room;
    same = refl;
    local = λ p. omega (arith, bag_taken P l.sq (modes i).sq p);
    submits = sq_taken l.sq n;
    reaps = cq_taken l.cq m;
    queued = o.queued;
    pending = o.pending;
    completed = o.completed;
    agree = o.agree;
  }

  -- or given back.
  sq_freed : (b : Bool) → (b ≡ true → is_some (modes i).sq ≡ true) → (b ≡ true → CanLeave P (modes i)) → SqPart P (if b then None else w.controls.holders.sq) (length w.queued) w.slot modes i (cond b None (modes i).sq)
  sq_freed true l h =
      let s = held_of (modes i).sq (l refl) in
      let known = known_sq (modes i) s.0 s.1 in
      let closed : same_slot s.0.slot Closed ≡ true = subst (λ (x : Submitting). same_slot x.slot Closed ≡ true) known (h refl).closed in
      let left : nat_le s.0.queued P.left ≡ true = subst (λ (x : Submitting). nat_le x.queued P.left ≡ true) known (h refl).few in
      let has = sq_has P S w bags modes i o s.0 s.1 in
      let empty : w.slot ≡ entries.Closed = slot_closed w.slot (subst (λ x. SlotFits w.slot x) (same_slot_is s.0.slot Closed closed) has.2) in
      sq_frees P S w bags modes i o s.0 s.1 (leb-true _ _ left) empty
  sq_freed false l h = sq_still P S w bags modes i o

  cq_freed : (b : Bool) → (b ≡ true → is_some (modes i).cq ≡ true) → (b ≡ true → not (is_got (peeked_of (modes i))) ≡ true) → CqPart (if b then None else w.controls.holders.cq) w.controls.look w.completions modes i (cond b None (modes i).cq)
  cq_freed true l n = let c = held_of (modes i).cq (l refl) in cq_frees P S w bags modes i o w.controls.look c.0 c.1 (known_open c.0 c.1 (n refl))
  cq_freed false l n = cq_still P S w bags modes i o

  frees : (l : Locks) → AreAmong l (locks_of (modes i)) → (l.sq ≡ true → CanLeave P (modes i)) → (l.cq ≡ true → not (is_got (peeked_of (modes i))) ≡ true) → Moved P w (with_locks w (held_by None l w.controls.holders) w.controls.look) bags modes i (bags i) (freed l (modes i))
  frees l held h n = record {
    of = o.of;
    room = o.room;
    same = refl;
    local = λ p. omega (arith, bag_freed P l.sq (modes i).sq p);
    submits = sq_freed l.sq held.sq h;
    reaps = cq_freed l.cq held.cq n;
    queued = o.queued;
    pending = o.pending;
    completed = o.completed;
    agree = o.agree;
  }

  -- A break gives back, and ends what is peeked where it leaves an arm.
  module _ (n : not (is_got (peeked_of (modes i))) ≡ true) where
    cq_broken : (b leaves : Bool) → (b ≡ true → is_some (modes i).cq ≡ true) → (leaves ≡ true → is_some (modes i).cq ≡ true) → CqPart (if b then None else w.controls.holders.cq) (if leaves then looks.Unseen else w.controls.look) w.completions modes i (cond b None (option_map (λ _. Unseen) (modes i).cq))
    cq_broken true leaves l g = let c = held_of (modes i).cq (l refl) in cq_frees P S w bags modes i o (if leaves then looks.Unseen else w.controls.look) c.0 c.1 (idle_later leaves w.controls.look (known_open c.0 c.1 n))
    cq_broken false leaves l g = go (modes i).cq refl leaves g
      where
        go : (c : Option Peeked) → (modes i).cq ≡ c → (leaves : Bool) → (leaves ≡ true → is_some (modes i).cq ≡ true) → CqPart w.controls.holders.cq (if leaves then looks.Unseen else w.controls.look) w.completions modes i (option_map (λ _. Unseen) (modes i).cq)
        go None e false g = subst (λ x. CqPart w.controls.holders.cq w.controls.look w.completions modes i x) (e ∙ sym (ap (option_map (λ _. Unseen)) e)) (cq_still P S w bags modes i o)
        go None e true g = absurd (let f : is_some (modes i).cq ≡ true = g refl in let h : is_some (modes i).cq ≡ false = ap is_some e in cc)
        go (Some s) e v g = subst (λ x. CqPart w.controls.holders.cq (if v then looks.Unseen else w.controls.look) w.completions modes i x) (sym (ap (option_map (λ _. Unseen)) e)) (cq_step P S w bags modes i o (if v then looks.Unseen else w.controls.look) w.completions s Unseen e (idle_later v w.controls.look (known_open s e n)))

    breaks_out : (l : Locks) (leaves : Bool) → AreAmong l (locks_of (modes i)) → (leaves ≡ true → is_some (modes i).cq ≡ true) → (l.sq ≡ true → CanLeave P (modes i)) → Moved P w (with_locks w (held_by None l w.controls.holders) (if leaves then looks.Unseen else w.controls.look)) bags modes i (bags i) (freed l (with_peeked Unseen (modes i)))
    breaks_out l leaves held arm h = record {
      of = o.of;
      room = o.room;
      same = refl;
      local = λ p. omega (arith, bag_freed P l.sq (modes i).sq p, place_later leaves w.controls.look p);
      submits = sq_freed l.sq held.sq h;
      reaps = cq_broken l.cq leaves held.cq arm;
      queued = o.queued;
      pending = o.pending;
      completed = o.completed;
      agree = o.agree ∙ ap data_in (sym (unreaped_later leaves w.controls.look w.completions (λ e. let c = held_of (modes i).cq (arm e) in known_open c.0 c.1 n)));
    }

-- A token that is held or in a pool and a completed request under it would be two of one.
twice : (P : Program) (S : Stand) (w : World) (bags : ℕ → Part → ℕ) (modes : ℕ → Mode) (i : ℕ) (t : Standing) (d : Completion) (ds : List Completion) → Owned P S w bags modes → slice_get w.controls.threads i ≡ Some t → is_reaped w.controls.look ≡ false → w.completions ≡ d ∷ ds → 1 ≤ bags i (TokenOf d.user_data) + all_pooled P w.controls.pools (TokenOf d.user_data) → ⊥
twice P S w bags modes i t d ds o get n e h =
    let p : Part = TokenOf d.user_data in
    let f = front_is w.completed d ds (o.agree ∙ ap data_in (all_unreaped w.controls.look w.completions n ∙ e)) in
    let fl : sum_over (owns P p) w.completed ≡ owns P p f.request + sum_over (owns P p) f.others = ap (sum_over (owns P p)) f.is in
    let one : 1 ≤ owns P p f.request = token_owned P f.request d.user_data f.same in
    let tot : bags i p + unheld P w p ≤ 1 = bound_one P S w bags modes o p i (slice_get_within w.controls.threads i t get) in
    omega arith

module _ (P : Program) (made : IsProgram P) (S : Stand) (edge : HasEdge P S) (w : World) (bags : ℕ → Part → ℕ) (modes : ℕ → Mode) (i : ℕ) (t : Standing) (r : ℤ) (o : Owned P S w bags modes) (get : slice_get w.controls.threads i ≡ Some t) where
  goes : (w1 : World) (k : ℕ) (vars : List ℤ) (b : Part → ℕ) (m : Mode) → Moved P w w1 bags modes i b m → Leads S i b m vars k → WellOwned P S (put P w1 i k vars)
  goes w1 k vars b m v l = moves P S edge w w1 bags modes i t k vars b m o get v l

  still : Moved P w w bags modes i (bags i) (modes i)
  still = quiet P S w w.buffers bags modes i o

  lock_keeps : (l : Locks) → Leads S i (bags i) (locked P l (modes i)) t.variables (t.place + 1) → Keeps P S w.controls i (Some w) (locks w.controls i t l Plain)
  lock_keeps l a = go (are_free l w.controls.holders) refl
    where
      go : (b : Bool) → are_free l w.controls.holders ≡ b → Keeps P S w.controls i (Some w) (if b then plainly (takes_locks w.controls i t l) Plain else None)
      go false e = tt
      go true e =
          let f = and_parts (is_free l.sq w.controls.holders.sq) (is_free l.cq w.controls.holders.cq) e in
          goes _ _ _ _ _ (takes P S w bags modes i o l (none_of l.sq w.controls.holders.sq f.0) (none_of l.cq w.controls.holders.cq f.1)) a

  -- a step to one of two branches
  abbrev branched : Bool → World
  branched holds = put P w i ((if holds then t.place else end_at P i t.place) + 1) t.variables

  ready_keeps : (holds : Bool) → int_eq (pos (used_entries w)) (pos 0) ≡ holds → Meets (line_premises P [] (bags i) (modes i) (If ReadyZero)) → Leads S i (bags i) (test_mode P ReadyZero (modes i)) t.variables (t.place + 1) → Leads S i (bags i) (modes i) t.variables (end_at P i t.place + 1) → WellOwned P S (branched holds)
  ready_keeps false e q a b = goes _ _ _ _ _ still b
  ready_keeps true e q a b =
      let s = held_of (modes i).sq (asks_lock (modes i).sq _ q) in
      let z : pos (used_entries w) ≡ pos 0 = (Decides-int_eq (pos (used_entries w)) (pos 0)).0 e in
      let q : length w.queued + slot_len w.slot ≡ 0 = cc in
      goes _ _ _ _ _ (knows P S w bags modes i o 0 s.0 s.1 (omega arith)) a

  space_keeps : (n : ℕ) (holds : Bool) → int_le (pos n) (pos (w.program.entries - used_entries w)) ≡ holds → Meets (line_premises P [] (bags i) (modes i) (If (SpaceAtLeast n))) → Leads S i (bags i) (test_mode P (SpaceAtLeast n) (modes i)) t.variables (t.place + 1) → Leads S i (bags i) (modes i) t.variables (end_at P i t.place + 1) → WellOwned P S (branched holds)
  space_keeps n false e q a b = goes _ _ _ _ _ still b
  space_keeps n true e q a b =
      let s = held_of (modes i).sq (asks_lock (modes i).sq _ q) in
      let same : w.program.entries ≡ P.entries = ap (λ (Q : Program). Q.entries) o.of in
      let room : length w.queued + slot_len w.slot ≤ P.entries = o.room in
      let q : n ≤ w.program.entries - (length w.queued + slot_len w.slot) = leb-true n (w.program.entries - used_entries w) e in
      goes _ _ _ _ _ (knows P S w bags modes i o (P.entries - n) s.0 s.1 (omega arith)) a

  compare_keeps : (holds : Bool) → (holds ≡ true → Leads S i (bags i) (modes i) t.variables (t.place + 1)) → (holds ≡ false → Leads S i (bags i) (modes i) t.variables (end_at P i t.place + 1)) → WellOwned P S (branched holds)
  compare_keeps true a b = goes _ _ _ _ _ still (a refl)
  compare_keeps false a b = goes _ _ _ _ _ still (b refl)

  -- either branch of a free choice
  choice_keeps : (may : Bool) → Leads S i (bags i) (modes i) t.variables (t.place + 1) → Leads S i (bags i) (modes i) t.variables (end_at P i t.place + 1) → Keeps P S w.controls i (Some w) (if may then Some (branches P w.controls i t (int_eq r (pos 1))) else None)
  choice_keeps true a b = compare_keeps (int_eq r (pos 1)) (λ e. a) (λ e. b)
  choice_keeps false a b = tt

  -- ---- pools

  -- items that go to one
  put_keeps : (pool : Option ℕ) (items : Items) → ((p : Part) → bag_of items p ≤ bags i p) → Leads S i (minus (bags i) (bag_of items)) (modes i) t.variables (t.place + 1) → Keeps P S w.controls i (Some w) (puts_items P w.controls t pool items Plain)
  put_keeps pool items covered l = go (overfills P (all_pooled P w.controls.pools) items)
    where
      go : (y : Bool) → Keeps P S w.controls i (Some w) (if y then None else plainly (record (goes_on w.controls t ItemsPut) { pools = put_into P pool items w.controls.pools }) Plain)
      go true = tt
      go false = goes _ _ _ _ _ (pooling P S w (put_into P pool items w.controls.pools) bags modes i (minus (bags i) (bag_of items)) o (λ p. omega (arith, covered p, all_with P w.controls.pools pool items p))) l

  -- what pools have, no thread and no request has
  module _ (items : Items) (there : (p : Part) → bag_of items p ≤ all_pooled P w.controls.pools p) where
    few : (p : Part) → bags i p + bag_of items p ≤ limit P p
    few p = omega (arith, bound_one P S w bags modes o p i (slice_get_within w.controls.threads i t get), there p)

    -- the token of the peeked completion
    not_peeked : (c : Option Peeked) → (modes i).cq ≡ c → names_peeked items.tokens (unwrap_or c Unseen) ≡ false
    not_peeked None e = refl
    not_peeked (Some Unseen) e = refl
    not_peeked (Some SeesOther) e = refl
    not_peeked (Some Got) e = refl
    not_peeked (Some (Sees u)) e = false_from_ne_true (list_any (λ v. nat_eq v u) items.tokens) (λ h.
        let f = (cq_has P S w bags modes i o (Sees u) e).1 in
        let a = starts_head u w.completions f.1 in
        let one : 1 ≤ all_pooled P w.controls.pools (TokenOf u) = omega (arith, there (TokenOf u), token_there items.tokens u h) in
        twice P S w bags modes i t a.0 a.1 o get (ap is_reaped f.0) a.2 (subst (λ v. 1 ≤ bags i (TokenOf v) + all_pooled P w.controls.pools (TokenOf v)) (sym a.3) (omega (arith, one))))

    may_be_taken : can_take P (bags i) (modes i) items ≡ true
    may_be_taken = and_from (has_room P (bags i) items) (not (names_peeked items.tokens (peeked_of (modes i)))) (room_for P items (bags i) few) (ap not (not_peeked (modes i).cq refl))

  -- items that leave one, or nothing
  take_keeps : (pool : Option ℕ) (items : Items) → IsItems P items → AtLive (take_effect P (bags i) (modes i) items) (λ c n. Leads S i c n t.variables (t.place + 1)) → Leads S i (bags i) (modes i) t.variables (end_at P i t.place + 1) → Keeps P S w.controls i (Some w) (Some (tries_to_take P w.controls i t pool items))
  take_keeps pool items of a b = go (includes P (pool_of w.controls.pools pool) items) refl
    where
      go : (y : Bool) → includes P (pool_of w.controls.pools pool) items ≡ y → Keeps P S w.controls i (Some w) (Some (if y then record (branches P w.controls i t true) { pools = taken_from P pool items w.controls.pools } else branches P w.controls i t false))
      go false e = goes _ _ _ _ _ still b
      go true e =
          let there : (p : Part) → bag_of items p ≤ pooled P (pool_of w.controls.pools pool) p = included P (pool_of w.controls.pools pool) items e in
          let in_all : (p : Part) → bag_of items p ≤ all_pooled P w.controls.pools p = λ p. omega (arith, there p, pooled_most P w.controls.pools pool p) in
          goes _ _ _ _ _ (pooling P S w (taken_from P pool items w.controls.pools) bags modes i (plus (bags i) (bag_of items)) o (λ p. omega (arith, all_without P w.controls.pools pool items there p)))
          (subst (λ c. AtLive (cond c (Live (plus (bags i) (bag_of items)) (modes i)) Dead) (λ c n. Leads S i c n t.variables (t.place + 1))) (may_be_taken items in_all) a)

  if_keeps : (test : Test) → Meets (line_premises P [] (bags i) (modes i) (If test)) → AtLive (test_effect P (lists_of P i) (bags i) (modes i) test) (λ c n. MayPass test t.variables true → Leads S i c n t.variables (t.place + 1)) → (MayPass test t.variables false → Leads S i (bags i) (modes i) t.variables (end_at P i t.place + 1)) → Keeps P S w.controls i (Some w) (decides P w.controls i t test (test_answer w r test))
  if_keeps (Compare x c n) q a b = compare_keeps (compares c (slice_index_or t.variables x (pos 0)) n) a b
  if_keeps ReadyZero q a b = ready_keeps (int_eq (pos (used_entries w)) (pos 0)) refl q (a tt) (b tt)
  if_keeps (SpaceAtLeast n) q a b = space_keeps n (int_le (pos n) (pos (w.program.entries - used_entries w))) refl q (a tt) (b tt)
  if_keeps (Take pool k) q a b =
      let items : Items = items_at (lists_of P i) k in
      subst (λ (x : Items). Keeps P S w.controls i (Some w) (Some (tries_to_take P w.controls i t pool x))) (sym (list_alone P made i t.variables k)) (
      take_keeps pool items (items_of P made i k) (as_passed (take_effect P (bags i) (modes i) items) (λ c n. Leads S i c n t.variables (t.place + 1)) a) (b tt))
  if_keeps Any q a b = choice_keeps (is_choice r) (a tt) (b tt)

  -- an arm of a peek, before which the front isn't got
  module _ (s : Peeked) (e : (modes i).cq ≡ Some s) (n : is_reaped w.controls.look ≡ false) where
    arm_keeps : (look : Look) (x : Peeked) (k : ℕ) (vars : List ℤ) → is_reaped look ≡ false → FrontFits look w.completions x → Leads S i (bags i) (with_peeked x (modes i)) vars k → WellOwned P S (put P (with_locks w w.controls.holders look) i k vars)
    arm_keeps look x k vars m f l = goes _ _ _ _ _ (sees P S w bags modes i o look s x e n m f) l

    peek_keeps : (cs : List Completion) (x : ℕ) → w.completions ≡ cs
        → ((u : ℕ) (v : ℤ) → (1 ≤ bags i (TokenOf u)) ⊎ (Leads S i (bags i) (with_peeked (Sees u) (modes i)) (slice_set t.variables x v) (arm_for P i t.place u + 1) ⊎ Leads S i (bags i) (with_peeked SeesOther (modes i)) (slice_set t.variables x v) (arm_for P i t.place u + 1)))
        → ((v : ℤ) → Leads S i (bags i) (with_peeked Unseen (modes i)) (slice_set t.variables x v) (none_arm P i t.place + 1)) → Keeps P S w.controls i (Some w) (peeks P w.controls i t x (front_of cs))
    peek_keeps [] x ec g h = arm_keeps w.controls.look Unseen _ _ n n (h _)
    peek_keeps (d ∷ ds) x ec g h = elim (g d.user_data d.res) [
      | inl k ↦ absurd (twice P S w bags modes i t d ds o get n ec (omega (arith, k)))
      | inr k ↦ elim k [
        | inl l ↦ arm_keeps looks.Peeked (Sees d.user_data) _ _ refl (refl, subst (λ cs. StartsWith d.user_data cs) (sym ec) refl) l
        | inr l ↦ arm_keeps looks.Peeked SeesOther _ _ refl (refl, subst IsNonempty (sym ec) tt) l
      ]
    ]

  release_keeps : (l : Locks) → AreAmong l (locks_of (modes i)) → Meets (line_premises P [] (bags i) (modes i) (EndLock 0 l)) → Leads S i (bags i) (freed l (modes i)) t.variables (t.place + 1) → WellOwned P S (put P (with_locks w (held_by None l w.controls.holders) w.controls.look) i (t.place + 1) t.variables)
  release_keeps l held h a = goes _ _ _ _ _ (frees P S w bags modes i o l held (brace_leaves P (bags i) (modes i) l.sq l.cq h) (brace_seen P (bags i) (modes i) l.sq l.cq h)) a

  break_keeps : (l : Locks) (leaves : Bool) (k : ℕ) → AreAmong l (locks_of (modes i)) → (leaves ≡ true → is_some (modes i).cq ≡ true) → Meets (line_premises P [] (bags i) (modes i) (Break 0 l false)) → Leads S i (bags i) (freed l (with_peeked Unseen (modes i))) t.variables k → WellOwned P S (put P (with_locks w (held_by None l w.controls.holders) (if leaves then looks.Unseen else w.controls.look)) i k t.variables)
  break_keeps l leaves k held arm h a = goes _ _ _ _ _ (breaks_out P S w bags modes i o (break_seen P (bags i) (modes i) l.sq h) l leaves held arm (break_leaves P (bags i) (modes i) l.sq h)) a

  pub line_keeps : (s : Stmt) → EdgeAt P S i (bags i) (modes i) t.variables t.place (Some s) → Keeps P S w.controls i (in_rings w t r s) (acts P w.controls i t s (stmt_answer w r s))
  line_keeps (EndLock p l) h = release_keeps l h.0 h.1 h.2
  line_keeps (EndLoop p k) h = goes _ _ _ _ _ still h
  line_keeps (Put pool k) h =
      let items : Items = items_at (lists_of P i) k in
      subst (λ (x : Items). Keeps P S w.controls i (Some w) (puts_items P w.controls t pool x Plain)) (sym (list_alone P made i t.variables k)) (put_keeps pool items (put_covered P items (bags i) (modes i) pool h.0) h.1)
  line_keeps (Do op) h = op_keeps P made S edge w bags modes i t r o get op h
  line_keeps (Lock l) h = lock_keeps l h
  line_keeps (If test) h = if_keeps test h.0 h.1 h.2
  line_keeps (Peek x) h = let s = called (modes i).cq _ h.0 in peek_keeps s.known s.is (front_open P S w bags modes i o s.known s.is (s.asked 20)) w.completions x refl h.1 h.2
  line_keeps (Loop k) h = goes _ _ _ _ _ still h
  line_keeps (Break p releases leaves) h = break_keeps releases leaves (end_at P i p + 1) h.0 h.1 h.2 h.3
  line_keeps _ h = tt

  -- and so does a stray one
  pub stray_keeps : (byte : ℕ) (s : Stmt) → EdgeAt P S i (bags i) (modes i) t.variables t.place (Some s) → Keeps P S w.controls i (Some w) (strays P w.controls i t byte s)
  stray_keeps byte (If (Take pool k)) h = goes _ _ _ _ _ still (h.2 tt)
  stray_keeps byte (Do (Load x b j)) h = goes _ _ _ _ _ still (h.1 _ (pos byte, refl))
  stray_keeps byte _ h = tt
