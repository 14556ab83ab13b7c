-- In a world of a run without a fault each thread with something left has a step, and each pending request can complete.
use Rattle.std.proofs.Common.{◌≡◌, ℕ, ◌+◌, ◌<◌, ◌≤◌, Bool, true, false, ◌&&◌, not, if◌then◌else◌, List, [], ◌∷◌, ◌++◌, length, nat_eq, nat_le, nat_lt, Option, Some, None, refl, sym, ap, ◌∙◌, subst, slice_get, slice_index, slice_index_or, slice_set, replicate, inl, inr, ℤ, pos, arith, eq-eqb, leb-false, lt-ltb}
use Rattle.std.specs.Ordering.{int_eq}
use Rattle.std.proofs.lemmas.Bool.{le-leb, and_parts, and_from, false_from_ne_true, or_cases, or_left, or_parts, or_right, not-false, true≢false}
use Rattle.rc_lang.specs.declared.lines.Line.{Line}
use Rattle.rc_lang.specs.declared.lines.Locks.{Locks}
use Rattle.rc_lang.specs.declared.lines.Op.{Op}
use Rattle.rc_lang.specs.declared.lines.Op.TheVariants.{Load, Store, Fill, GetSqe, PrepRead, PrepWrite, PrepFsync, PrepNop, PrepOther, SetData64, Submit, SubmitAndWait, CqeGetData64, CqeSeen}
use Rattle.rc_lang.specs.declared.lines.Stmt.{Stmt}
use Rattle.rc_lang.specs.declared.lines.Stmt.TheVariants.{Do, Put, Lock, EndLock, If, Peek, Loop, EndLoop, Break}
use Rattle.rc_lang.specs.declared.lines.Test.{Test}
use Rattle.rc_lang.specs.declared.lines.Test.TheVariants.{Compare, ReadyZero, SpaceAtLeast, Take, Any}
use Rattle.rc_lang.specs.declared.request.Kind.TheVariants.{Fsync, Read, Write}
use Rattle.rc_lang.specs.declared.request.Request.{Request}
use Rattle.rc_lang.specs.Program.{Items, Program, bytes_at, line_at, lines_of, Rows, rows_of}
use Rattle.rc_lang.specs.Resolved.{IsResolvedOp}
use Rattle.rc_lang.specs.Requests.{may_complete}
use Rattle.rc_lang.proofs.Rests.{may_rest}
use Rattle.rc_split.specs.Pools.{all_pooled, overfills, put_into}
use Rattle.rc_world.specs.declared.controls.Answer.TheVariants.{Plain, Byte}
use Rattle.rc_world.specs.declared.controls.Look.{Look}
use Rattle.rc_world.specs.declared.controls.Look.TheVariants.{Unseen, Peeked, Got}
use Rattle.rc_world.specs.declared.event.Completion.{Completion}
use Rattle.rc_world.specs.declared.event.Action.TheVariants.{ItemsPut}
use Rattle.rc_world.specs.declared.event.Event.{Event}
use Rattle.rc_world.specs.declared.event.Event.TheVariants.{ByKernel, ByThread}
use Rattle.rc_world.specs.declared.fault.FaultKind.{FaultKind}
use Rattle.rc_world.specs.declared.fault.FaultKind.TheVariants.{WriteOfPending, ReadOfFilling, RingFull, UnknownReap, NoLock, RawEntry, OutOfBuffer, DoublePut}
use Rattle.rc_world.specs.declared.world.Slot.{Slot}
use Rattle.rc_world.specs.declared.world.Slot.TheVariants.{Closed, Vacant, Prepared}
use Rattle.rc_world.specs.Controls.{Move, Standing, acts, are_free, as_event, branches, gets_data, goes_on, loads, low_byte, made, moved, number_of_event, peeks, reaps, takes_locks, variable, list_at, list_here, next_at, variables_in}
use Rattle.rc_world.specs.Faults.{clashes, fault_of, front_is_known, has_buffer, has_cq, has_fault, has_sq, is_closed, is_cq_call, is_filling, is_named, is_prepared, is_sq_call, is_vacant, may_put, names, reads_into}
use Rattle.rc_world.specs.Harm.{IsHarmless}
use Rattle.rc_world.specs.Laws.{CompletesFreely, GoesOn, NoHiddenHarm, IsAtEnd}
use Rattle.rc_world.specs.Kept.{IsKept, IsMemory}
use Rattle.rc_world.specs.Machine.{Pending, World, byte_of, bytes_brought, completes, completion_of, count_in, fills, fits_buffer, front_of, gets_front, given_back, hands_over, in_rings, is_read, is_take, kernel_event, kernel_step_of, may_be_given, new_request, opens_entry, prepared_nop, prepared_other, prepares, queues, reaps_front, slot_len, start_world, stmt_answer, stores, thread_step, with_bytes, with_controls}
use Rattle.rc_world.proofs.Laid.{resolved_in}
use Rattle.rc_world.proofs.LawFaultless.{calm_in, harmless_in}
use Rattle.rc_world.proofs.LawLists.{get_at, get_past}
use Rattle.rc_world.proofs.Lists.{get_none, get_of}
use Rattle.rc_world.proofs.Memory.{read_has_buffer}
use Rattle.rc_world.proofs.LawRuns.{IsSound, run_sound, sound_at_start}
use Rattle.rc_world.proofs.LawSteps.{StandsAt, next_of_standing, step_is, stands_written}
use Rattle.rc_lang.proofs.Reading.{nothing_at, stmt_alone}
use Rattle.rc_lang.specs.Rows.{list_read_at, read_stmt}

-- ---- tests

pub and_false : (a b : Bool) → (a && b) ≡ false → a ≡ true → b ≡ false
and_false true b e h = e
and_false false b e h = absurd (cc)

-- ---- buffers

filling_is_named : (b : ℕ) (ps : List Pending) → is_filling ps b ≡ true → is_named ps b ≡ true
filling_is_named b [] e = absurd (cc)
filling_is_named b (p ∷ ps) e = elim (or_cases (reads_into b p.request) (is_filling ps b) e) [
  | inl h ↦ or_left (names b p.request) (is_named ps b) (and_from (has_buffer p.request.kind) (nat_eq p.request.buffer b) (read_has_buffer p.request.kind (and_parts (is_read p.request.kind) _ h).0) (and_parts (is_read p.request.kind) (nat_eq p.request.buffer b) h).1)
  | inr h ↦ or_right (names b p.request) (is_named ps b) (filling_is_named b ps h)
]

-- The buffer has its bytes.
record Stands (program : Program) (buffers : List (Option (List ℕ))) (b : ℕ) : Type 0 where
  bytes : List ℕ
  there : slice_index_or buffers b None ≡ Some bytes
  many : length bytes ≡ bytes_at program.buffers b

-- where no pending read fills it
buffer_stands : (program : Program) (ps : List Pending) (buffers : List (Option (List ℕ))) (b : ℕ) → IsMemory program ps buffers → b < length program.buffers → is_filling ps b ≡ false → Stands program buffers b
buffer_stands program ps buffers b m lt f = go (slice_index_or buffers b None) refl
  where
    go : (x : Option (List ℕ)) → slice_index_or buffers b None ≡ x → Stands program buffers b
    go None e =
        let n : length buffers ≡ length program.buffers = m.as_many in
        let d = m.filled b (get_none buffers b (omega arith) e) in
        absurd (cc)
    go (Some bytes) e = record { bytes = bytes; there = e; many = m.sized b bytes (get_of buffers b bytes e) }

-- ---- the rings

opens : (w : World) (s : Slot) → not (is_closed s) ≡ false → nat_le w.program.entries (length w.queued + slot_len s) ≡ false → (v : World) × (opens_entry w s ≡ Some v)
opens w Closed a b =
    let h : length w.queued + 0 < w.program.entries = leb-false w.program.entries (length w.queued + 0) b in
    (record w { slot = Vacant }, ap (λ c. if c then Some (record w { slot = Vacant }) else None) (lt-ltb (length w.queued) w.program.entries (omega arith)))
opens w Vacant a b = absurd (cc)
opens w (Prepared r) a b = absurd (cc)

prepares_vacant : (w : World) (r : Request) → fits_buffer w.program r ≡ true → (s : Slot) → not (is_vacant s) ≡ false → (v : World) × (prepares w r s ≡ Some v)
prepares_vacant w r f Closed a = absurd (cc)
prepares_vacant w r f Vacant a = (record w { slot = Prepared r }, ap (λ b. if b then Some (record w { slot = Prepared r }) else None) f)
prepares_vacant w r f (Prepared q) a = absurd (cc)

queues_prepared : (w : World) (u : ℕ) (s : Slot) → not (is_prepared s) ≡ false → (v : World) × (queues w u s ≡ Some v)
queues_prepared w u Closed a = absurd (cc)
queues_prepared w u Vacant a = absurd (cc)
queues_prepared w u (Prepared r) a = (record w { slot = Closed; queued = w.queued ++ record r { serial = w.made + 1; user_data = u } ∷ []; made = w.made + 1 }, refl)

has_front : (w : World) (look : Look) (cs : List Completion) → not (front_is_known w look cs) ≡ false → (c : Completion) × (rest : List Completion) × (cs ≡ c ∷ rest)
has_front w Unseen cs e = absurd (cc)
has_front w Peeked [] e = absurd (cc)
has_front w Peeked (c ∷ cs) e = (c, cs, refl)
has_front w Got [] e = absurd (cc)
has_front w Got (c ∷ cs) e = (c, cs, refl)

-- ---- the next line of a thread

-- The thread can do this.
record CanDo (w : World) (i : ℕ) (t : Standing) (r : ℤ) (s : Stmt) : Type 0 where
  rings : World
  move : Move
  in_the_rings : in_rings w t r s ≡ Some rings
  acted : acts w.program w.controls i t s (stmt_answer w r s) ≡ Some move

abbrev HasNoFault : World → ℕ → Stmt → Type 0
HasNoFault w i s = (kind : FaultKind) → has_fault w kind i s ≡ false

module _ (w : World) (i : ℕ) (t : Standing) (r : ℤ) where
  -- a thread at a call holds the lock of its side
  locks_held : (s : Stmt) → HasNoFault w i s → ((is_sq_call s && not (has_sq w i)) ≡ false) × ((is_cq_call s && not (has_cq w i)) ≡ false)
  locks_held s f = or_parts (is_sq_call s && not (has_sq w i)) (is_cq_call s && not (has_cq w i)) (f NoLock)

  holds_sq : (s : Stmt) → is_sq_call s ≡ true → HasNoFault w i s → has_sq w i ≡ true
  holds_sq s c f = not-false (has_sq w i) (and_false (is_sq_call s) (not (has_sq w i)) (locks_held s f).0 c)

  holds_cq : (s : Stmt) → is_cq_call s ≡ true → HasNoFault w i s → has_cq w i ≡ true
  holds_cq s c f = not-false (has_cq w i) (and_false (is_cq_call s) (not (has_cq w i)) (locks_held s f).1 c)

  -- a prep of an entry that the thread has opened
  can_prepare : (op : Op) (q : Request) (m : Move) → is_sq_call (Do op) ≡ true → HasNoFault w i (Do op) → (has_sq w i && not (is_vacant w.slot)) ≡ false → fits_buffer w.program q ≡ true
      → in_rings w t r (Do op) ≡ prepares w q w.slot → acts w.program w.controls i t (Do op) (stmt_answer w r (Do op)) ≡ Some m → CanDo w i t r (Do op)
  can_prepare op q m c f raw room e a =
      let v = prepares_vacant w q room w.slot (and_false (has_sq w i) _ raw (holds_sq (Do op) c f)) in
      record { rings = v.0; move = m; in_the_rings = e ∙ v.1; acted = a }

  can_submit : (n : ℤ) → is_take w n ≡ true → (if is_take w n then Some (hands_over w (count_in n)) else None) ≡ Some (hands_over w (count_in n))
  can_submit n e = ap (λ b. if b then Some (hands_over w (count_in n)) else None) e

  module _ (m : IsMemory w.program w.pending w.buffers) where
    stands : (b : ℕ) → b < length w.program.buffers → is_filling w.pending b ≡ false → Stands w.program w.buffers b
    stands b lt f = buffer_stands w.program w.pending w.buffers b m lt f

    not_named : (b : ℕ) → is_named w.pending b ≡ false → is_filling w.pending b ≡ false
    not_named b e = false_from_ne_true (is_filling w.pending b) (λ t. true≢false (sym (filling_is_named b w.pending t) ∙ e))

    -- the place lies in the buffer
    inside : (b k : ℕ) → nat_le (bytes_at w.program.buffers b) k ≡ false → (s : Stands w.program w.buffers b) → nat_lt k (length s.bytes) ≡ true
    inside b k e s =
        let lt : k < bytes_at w.program.buffers b = leb-false (bytes_at w.program.buffers b) k e in
        let n : length s.bytes ≡ bytes_at w.program.buffers b = s.many in
        lt-ltb k (length s.bytes) (omega arith)

    can_do : (n : ℕ) (op : Op) → IsResolvedOp w.program n op → HasNoFault w i (Do op) → may_be_given w r (Do op) ≡ true → CanDo w i t r (Do op)
    can_do n (Load x b k) a f u =
        let s = stands b a.1 (f ReadOfFilling) in
        record {
          rings = w;
          move = _;
          in_the_rings = refl;
          acted = ap (λ o. loads w.controls t x (byte_of k o)) s.there ∙ ap (λ c. loads w.controls t x (if c then Byte (slice_index s.bytes k) else Plain)) (inside b k (f OutOfBuffer) s);
        }
    can_do n (Store b k x) a f u =
        let s = stands b a.0 (not_named b (f WriteOfPending)) in
        record {
          rings = with_bytes w b (slice_set s.bytes k (low_byte (variable t x)));
          move = _;
          in_the_rings = ap (stores w b k (low_byte (variable t x))) s.there ∙ ap (λ c. if c then Some (with_bytes w b (slice_set s.bytes k (low_byte (variable t x)))) else None) (inside b k (f OutOfBuffer) s);
          acted = refl;
        }
    can_do n (Fill b x) a f u =
        let s = stands b a.0 (not_named b (f WriteOfPending)) in
        record { rings = with_bytes w b (replicate (length s.bytes) (low_byte (variable t x))); move = _; in_the_rings = ap (fills w b (low_byte (variable t x))) s.there; acted = refl }
    can_do n GetSqe a f u =
        let h = holds_sq (Do GetSqe) refl f in
        let v = opens w w.slot (and_false (has_sq w i) _ (f RawEntry) h) (and_false (has_sq w i) _ (f RingFull) h) in
        record { rings = v.0; move = _; in_the_rings = v.1; acted = refl }
    can_do n (PrepRead fd b len off) a f u = can_prepare (PrepRead fd b len off) (new_request Read (pos fd) b len off) _ refl f (f RawEntry) (not-false (nat_le len (bytes_at w.program.buffers b)) (f OutOfBuffer)) refl refl
    can_do n (PrepWrite fd b len off k) a f u = can_prepare (PrepWrite fd b len off k) (new_request Write (pos fd) b len off) _ refl f (f RawEntry) (not-false (nat_le len (bytes_at w.program.buffers b)) (f OutOfBuffer)) refl refl
    can_do n (PrepFsync fd datasync) a f u = can_prepare (PrepFsync fd datasync) (new_request Fsync (pos fd) 0 0 0) _ refl f (f RawEntry) (le-leb 0 (bytes_at w.program.buffers 0) (omega arith)) refl refl
    can_do n PrepNop a f u = can_prepare PrepNop prepared_nop _ refl f (f RawEntry) (le-leb 0 (bytes_at w.program.buffers 0) (omega arith)) refl refl
    can_do n PrepOther a f u = can_prepare PrepOther prepared_other _ refl f (f RawEntry) (le-leb 0 (bytes_at w.program.buffers 0) (omega arith)) refl refl
    can_do n (SetData64 d) a f u =
        let v = queues_prepared w d w.slot (and_false (has_sq w i) _ (f RawEntry) (holds_sq (Do (SetData64 d)) refl f)) in
        record { rings = v.0; move = _; in_the_rings = v.1; acted = refl }
    can_do n (Submit x) a f u = record { rings = hands_over w (count_in r); move = _; in_the_rings = can_submit r u; acted = refl }
    can_do n (SubmitAndWait x k) a f u = record { rings = hands_over w (count_in r); move = _; in_the_rings = can_submit r u; acted = refl }
    can_do n CqeGetData64 a f u =
        let c = has_front w w.controls.look w.completions (and_false (has_cq w i) _ (f UnknownReap) (holds_cq (Do CqeGetData64) refl f)) in
        record { rings = _; move = _; in_the_rings = ap (gets_front w) c.2; acted = ap (λ cs. gets_data w.controls t (front_of cs)) c.2 }
    can_do n CqeSeen a f u =
        let c = has_front w w.controls.look w.completions (and_false (has_cq w i) _ (f UnknownReap) (holds_cq (Do CqeSeen) refl f)) in
        record { rings = _; move = _; in_the_rings = ap (reaps_front w) c.2; acted = ap (λ cs. reaps w.controls t (front_of cs)) c.2 }
    can_do n _ a f u = record { rings = w; move = _; in_the_rings = refl; acted = refl }

  can_decide : (test : Test) → may_be_given w r (If test) ≡ true → CanDo w i t r (If test)
  can_decide (Compare x comparison n) u = record { rings = w; move = _; in_the_rings = refl; acted = refl }
  can_decide ReadyZero u = record { rings = w; move = _; in_the_rings = refl; acted = refl }
  can_decide (SpaceAtLeast n) u = record { rings = w; move = _; in_the_rings = refl; acted = refl }
  can_decide (Take pool k) u = record { rings = w; move = _; in_the_rings = refl; acted = refl }
  can_decide Any u =
      let chosen : Move = branches w.program w.controls i t (int_eq r (pos 1)) in
      record { rings = w; move = chosen; in_the_rings = refl; acted = ap (λ b. if b then Some chosen else None) u }

  -- the locks that a put asks for
  put_held : (pool : Option ℕ) (k : ℕ) → HasNoFault w i (Put pool k) → may_put w i pool ≡ true
  put_held None k f = and_from (has_sq w i) (has_cq w i) (holds_sq (Put None k) refl f) (holds_cq (Put None k) refl f)
  put_held (Some n) k f = refl

  -- a put that isn't one too many
  can_put : slice_get w.controls.threads i ≡ Some t → (pool : Option ℕ) (k : ℕ) → HasNoFault w i (Put pool k) → CanDo w i t r (Put pool k)
  can_put c pool k f =
      let items : Items = list_at w.program i t k in
      let here : list_here w.program w.controls i k ≡ items = ap (λ x. list_read_at w.program i (variables_in x) k) c in
      let room = ap (overfills w.program (all_pooled w.program w.controls.pools)) (sym here) ∙ and_false (may_put w i pool) (overfills w.program (all_pooled w.program w.controls.pools) (list_here w.program w.controls i k)) (f DoublePut) (put_held pool k f) in
      record {
        rings = w;
        move = record (goes_on w.controls t ItemsPut) { pools = put_into w.program pool items w.controls.pools };
        in_the_rings = refl;
        acted = ap (λ b. if b then None else Some (record (goes_on w.controls t ItemsPut) { pools = put_into w.program pool items w.controls.pools })) room;
      }

  can_peek : (x : ℕ) → CanDo w i t r (Peek x)
  can_peek x = go w.completions refl
    where
      go : (cs : List Completion) → w.completions ≡ cs → CanDo w i t r (Peek x)
      go [] e = record { rings = w; move = _; in_the_rings = refl; acted = ap (λ cs. peeks w.program w.controls i t x (front_of cs)) e }
      go (c ∷ cs) e = record { rings = w; move = _; in_the_rings = refl; acted = ap (λ cs. peeks w.program w.controls i t x (front_of cs)) e }

  can_lock : (wanted : Locks) → are_free wanted w.controls.holders ≡ true → CanDo w i t r (Lock wanted)
  can_lock wanted e = record { rings = w; move = takes_locks w.controls i t wanted; in_the_rings = refl; acted = ap (λ b. if b then Some (takes_locks w.controls i t wanted) else None) e }

  steps : (l : Line) → StandsAt w i t l → CanDo w i t r l.stmt → (s : Event × World) × (thread_step w i r ≡ Some s)
  steps l s d = (
    (ByThread i (number_of_event w.program i l l.stmt) d.move.action, record d.rings { controls = moved w.program w.controls i d.move }),
    step_is w i r t l s
        ∙ ap (λ v. with_controls v (as_event w.program i l (made w.program w.controls i (acts w.program w.controls i t l.stmt (stmt_answer w r l.stmt))))) d.in_the_rings
        ∙ ap (λ m. with_controls (Some d.rings) (as_event w.program i l (made w.program w.controls i m))) d.acted,
  )

-- ---- what each thread has next

-- a statement that is read is an event where the one that stands there is
rests_read : (P : Program) (rows : Rows) (vars : List ℤ) (s : Stmt) → may_rest (Some (read_stmt P rows vars s)) ≡ may_rest (Some s)
rests_read P rows vars (Do op) = refl
rests_read P rows vars _ = refl

module _ (w : World) (kept : IsKept w) (i : ℕ) (harmless : IsHarmless w i) (t : Standing) (c : slice_get w.controls.threads i ≡ Some t) where
  no_fault : (l : Line) → StandsAt w i t l → HasNoFault w i l.stmt
  no_fault l s kind = harmless kind l (next_of_standing w i t l s)

  ready : (l : Line) → StandsAt w i t l → (s : Stmt) → l.stmt ≡ s → ((r : ℤ) → may_be_given w r s ≡ true → CanDo w i t r s) → GoesOn w i
  ready l a s e d = inr (inr (l, next_of_standing w i t l a, λ r u. steps w i t r l a (subst (λ x. CanDo w i t r x) (sym e) (d r (subst (λ x. may_be_given w r x ≡ true) e u)))))

  op_goes : (l : Line) → StandsAt w i t l → (op : Op) → l.stmt ≡ Do op → GoesOn w i
  op_goes l a op e =
      let h = resolved_in w.program kept.made i t.place (Do op) (stmt_alone w.program kept.made i t.variables t.place l a.line ∙ ap Some e) in
      ready l a (Do op) e (λ r u. can_do w i t r kept.memory h.0 op h.3 (subst (λ x. HasNoFault w i x) e (no_fault l a)) u)

  lock_goes : (l : Line) → StandsAt w i t l → (wanted : Locks) → l.stmt ≡ Lock wanted → (free : Bool) → are_free wanted w.controls.holders ≡ free → GoesOn w i
  lock_goes l a wanted e true h = ready l a (Lock wanted) e (λ r u. can_lock w i t r wanted h)
  lock_goes l a wanted e false h = inr (inl (l, wanted, next_of_standing w i t l a, e, h))

  -- at a line that is an event
  pub line_goes : (l : Line) → StandsAt w i t l → (s : Stmt) → l.stmt ≡ s → may_rest (Some s) ≡ true → GoesOn w i
  line_goes l a (Do op) e h = op_goes l a op e
  line_goes l a (Put pool k) e h = ready l a (Put pool k) e (λ r u. can_put w i t r c pool k (subst (λ x. HasNoFault w i x) e (no_fault l a)))
  line_goes l a (Lock wanted) e h = lock_goes l a wanted e (are_free wanted w.controls.holders) refl
  line_goes l a (EndLock o released) e h = ready l a (EndLock o released) e (λ r u. record { rings = w; move = _; in_the_rings = refl; acted = refl })
  line_goes l a (If test) e h = ready l a (If test) e (λ r u. can_decide w i t r test u)
  line_goes l a (Peek x) e h = ready l a (Peek x) e (λ r u. can_peek w i t r x)
  line_goes l a (Loop k) e h = ready l a (Loop k) e (λ r u. record { rings = w; move = _; in_the_rings = refl; acted = refl })
  line_goes l a (EndLoop o k) e h = ready l a (EndLoop o k) e (λ r u. record { rings = w; move = _; in_the_rings = refl; acted = refl })
  line_goes l a (Break o releases leaves) e h = ready l a (Break o releases leaves) e (λ r u. record { rings = w; move = _; in_the_rings = refl; acted = refl })
  line_goes l a _ e h = absurd (cc)

module _ (program : Program) (w : World) (safe : fault_of w ≡ None) (sound : IsSound program w) (i : ℕ) (t : Standing) (c : slice_get w.controls.threads i ≡ Some t) where
  -- no thread of a run is at a line that is no event
  at_rest : (l : Line) → StandsAt w i t l → may_rest (Some l.stmt) ≡ true
  at_rest l a =
      let v = stands_written w i t l a in
      ap (λ s. may_rest (Some s)) v.read ∙ rests_read w.program (rows_of w.program i) t.variables v.written.stmt ∙ sym (ap may_rest v.says) ∙ (sound.rest.each i t c).rests

  at_the_end : line_at w.program i t.place ≡ None → IsAtEnd w i
  at_the_end e =
      let le : t.place ≤ length (lines_of w.program i) = (sound.rest.each i t c).within in
      let p : length (lines_of w.program i) ≤ t.place = get_past (lines_of w.program i) t.place e in
      (t, c, omega arith)

  thread_goes : (l : Option Line) → next_at w.program i (Some t) ≡ l → GoesOn w i
  thread_goes None e = inl (at_the_end (nothing_at w.program i t.variables t.place e))
  thread_goes (Some l) e = let a : StandsAt w i t l = record { standing = c; line = e } in line_goes w sound.kept i (harmless_in w safe i) t c l a l.stmt refl (at_rest l a)

pub threads_go : (program : Program) (w : World) → fault_of w ≡ None → IsSound program w → (i : ℕ) → i < length program.threads → GoesOn w i
threads_go program w safe sound i lt =
    let many : length w.controls.threads ≡ length program.threads = sound.rest.as_many ∙ ap (λ (p : Program). length p.threads) sound.same in
    let t = get_at w.controls.threads i (omega arith) in
    thread_goes program w safe sound i t.0 t.1 (next_at w.program i (Some t.0)) refl

-- ---- the kernel

module _ (w : World) (safe : clashes w.pending ≡ false) where
  -- the bytes of its buffer are with a read
  given : (m : IsMemory w.program w.pending w.buffers) (k : ℕ) (p : Pending) → slice_get w.pending k ≡ Some p → (bytes : List ℕ) (stood : Option (List ℕ)) → p.bytes ≡ stood → (b : List (Option (List ℕ))) × (given_back w p.request bytes stood ≡ Some b)
  given m k p e bytes (Some stood) q = (_, refl)
  given m k p e bytes None q = (w.buffers, ap (λ c. if c then None else Some w.buffers) (false_from_ne_true (is_read p.request.kind) (λ r. true≢false (sym ((m.pending k p e).stands r q) ∙ safe))))

  pub completes_freely : IsMemory w.program w.pending w.buffers → CompletesFreely w
  completes_freely m k p res bytes e may n =
      let g = given m k p e bytes p.bytes refl in
      let allowed = and_from (may_complete p.request res) (nat_eq (length bytes) (bytes_brought p.request)) may (eq-eqb (length bytes) (bytes_brought p.request) n) in (
        (ByKernel (completion_of p.request res), completes w k res p.request g.0),
        ap (kernel_step_of w k res bytes) e
            ∙ ap (λ b. if b then kernel_event w k res p.request (given_back w p.request bytes p.bytes) else None) allowed
            ∙ ap (kernel_event w k res p.request) g.1,
      )

pub no_harm_hides : NoHiddenHarm
no_harm_hides program events w made run safe =
    let sound : IsSound program w = run_sound program events (start_world program) w (sound_at_start program made) run in
    (threads_go program w safe sound, completes_freely w (calm_in w safe) sound.kept.memory)
