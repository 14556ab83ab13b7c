-- An item that is enabled names a step, and the events of a trace are a run.
use Rattle.std.proofs.Common.{◌≡◌, sym, ℕ, ◌+◌, ◌≤◌, Bool, true, false, if◌then◌else◌, List, [], ◌∷◌, drop, length, length-append, length-drop, replicate, take, Option, Some, None, refl, ap, ◌∙◌, subst, slice_get, inl, inr, ℤ, arith}
use Rattle.std.proofs.lemmas.Bool.{le-leb, leb-true, and_parts}
use Rattle.std.proofs.lemmas.List.{length-replicate, length-take}
use Rattle.rc_lang.specs.declared.lines.Line.{Line}
use Rattle.rc_lang.specs.declared.lines.Stmt.{Stmt}
use Rattle.rc_lang.specs.declared.lines.Locks.{Locks}
use Rattle.rc_lang.specs.declared.lines.Op.TheVariants.{Submit, SubmitAndWait}
use Rattle.rc_lang.specs.declared.lines.Stmt.TheVariants.{Do, If, Lock, Else, EndIf, Case, Other, Nothing, EndArm, EndPeek}
use Rattle.rc_lang.specs.declared.lines.Test.TheVariants.{Any}
use Rattle.rc_lang.specs.Program.{bytes_at, lines_of}
use Rattle.rc_lang.specs.Requests.{may_complete}
use Rattle.rc_world.specs.declared.controls.Next.TheVariants.{Ready, TakenLock}
use Rattle.rc_world.specs.declared.event.Event.{Event}
use Rattle.rc_world.specs.declared.event.Item.{Item}
use Rattle.rc_world.specs.declared.event.Item.TheVariants.{Thread, Kernel}
use Rattle.rc_world.specs.declared.fault.Fault.{Fault}
use Rattle.rc_world.specs.Controls.{Standing, are_free, next_at, next_line}
use Rattle.rc_world.specs.Faults.{clashes, fault_of}
use Rattle.rc_world.specs.Harm.{IsHarmless}
use Rattle.rc_world.specs.Items.{filled, given, given_at, is_enabled, is_given, is_ready, item_bytes, item_step, kernel_item, kernel_may, next_by, next_of, pending_at, pending_place, ready_or_taken, takes, usual}
use Rattle.rc_world.specs.Kept.{IsKept}
use Rattle.rc_world.specs.Laws.{EnabledItemsStep, GoesOn, TracesAreRuns}
use Rattle.rc_world.specs.Machine.{Pending, World, bytes_brought, count_in, is_read, kernel_step, may_be_given, start_world, thread_step}
use Rattle.rc_world.specs.Runs.{IsRun, IsStep}
use Rattle.rc_world.specs.Trace.{at_item, trace_from}
use Rattle.rc_world.proofs.LawFaultless.{calm_in, harmless_in}
use Rattle.rc_world.proofs.LawGoes.{completes_freely, line_goes}
use Rattle.rc_lang.proofs.Rests.{may_rest}
use Rattle.rc_world.proofs.Kernel.{count_within}
use Rattle.rc_world.proofs.LawRuns.{IsSound, run_sound, sound_at_start}
use Rattle.rc_world.proofs.LawSteps.{past_lines}

-- ---- the items of threads

-- a statement may be given what is usual, and the number that an enabled item brings
pub usual_allowed : (w : World) (s : Stmt) → may_be_given w (usual w s) s ≡ true
usual_allowed w (Do (Submit x)) = le-leb (length w.queued) (length w.queued) (omega arith)
usual_allowed w (Do (SubmitAndWait x n)) = le-leb (length w.queued) (length w.queued) (omega arith)
usual_allowed w (Do _) = refl
usual_allowed w (If Any) = refl
usual_allowed w (If _) = refl
usual_allowed w _ = refl

given_allowed : (w : World) (take : Option ℤ) (s : Stmt) → takes w take s ≡ true → may_be_given w (given w take s) s ≡ true
given_allowed w None s e = usual_allowed w s
given_allowed w (Some r) s e = (and_parts (is_given s) (may_be_given w r s) e).1

-- what is enabled takes the number
free_takes : (w : World) (take : Option ℤ) (l : Line) (wanted : Locks) (free : Bool) → is_ready w take (if free then Ready l else TakenLock wanted) ≡ true → takes w take l.stmt ≡ true
free_takes w take l wanted true e = e
free_takes w take l wanted false e = absurd (cc)

ready_takes : (w : World) (take : Option ℤ) (l : Line) (s : Stmt) → is_ready w take (ready_or_taken w.controls.holders l s) ≡ true → takes w take l.stmt ≡ true
ready_takes w take l (Else o) e = absurd (cc)
ready_takes w take l (EndIf o) e = absurd (cc)
ready_takes w take l (Case o u) e = absurd (cc)
ready_takes w take l (Other o) e = absurd (cc)
ready_takes w take l (Nothing o) e = absurd (cc)
ready_takes w take l (EndArm o) e = absurd (cc)
ready_takes w take l (EndPeek o) e = absurd (cc)
ready_takes w take l (Lock wanted) e = free_takes w take l wanted (are_free wanted w.controls.holders) e
ready_takes w take l _ e = e

-- what is enabled is at an event
ready_rests : (w : World) (take : Option ℤ) (l : Line) (s : Stmt) → is_ready w take (ready_or_taken w.controls.holders l s) ≡ true → may_rest (Some s) ≡ true
ready_rests w take l (Else o) e = absurd (cc)
ready_rests w take l (EndIf o) e = absurd (cc)
ready_rests w take l (Case o u) e = absurd (cc)
ready_rests w take l (Other o) e = absurd (cc)
ready_rests w take l (Nothing o) e = absurd (cc)
ready_rests w take l (EndArm o) e = absurd (cc)
ready_rests w take l (EndPeek o) e = absurd (cc)
ready_rests w take l _ e = refl

module _ (w : World) (kept : IsKept w) (i : ℕ) (harmless : IsHarmless w i) (take : Option ℤ) (ready : is_ready w take (next_of w.program w.controls i) ≡ true) where
  -- it isn't enabled where the thread has ended, nor at a taken lock
  not_ended : next_line w.program w.controls i ≡ None → ⊥
  not_ended e = let d : is_ready w take (next_of w.program w.controls i) ≡ false = ap (λ l. is_ready w take (next_by w.controls.holders l)) e in cc

  -- the step that the item names
  abbrev Names : ℤ → Type 0
  Names r = (s : Event × World) × (thread_step w i r ≡ Some s)

  goes : GoesOn w i → Names (given_at w take (next_line w.program w.controls i))
  goes (inl z) = absurd (not_ended (ap (next_at w.program i) z.1 ∙ past_lines w.program i z.0 (let q : z.0.place ≡ length (lines_of w.program i) = z.2 in omega arith)))
  goes (inr (inl z)) =
      let d : is_ready w take (next_of w.program w.controls i) ≡ false =
      ap (λ l. is_ready w take (next_by w.controls.holders l)) z.2 ∙ ap (λ s. is_ready w take (ready_or_taken w.controls.holders z.0 s)) z.3 ∙ ap (λ free. is_ready w take (if free then Ready z.0 else TakenLock z.1)) z.4 in
      absurd (cc)
  goes (inr (inr z)) =
      let allowed = given_allowed w take z.0.stmt (ready_takes w take z.0 z.0.stmt (sym (ap (λ o. is_ready w take (next_by w.controls.holders o)) z.1) ∙ ready)) in
      subst Names (sym (ap (given_at w take) z.1)) (z.2 (given w take z.0.stmt) allowed)

  at_line : (t : Standing) → slice_get w.controls.threads i ≡ Some t → (o : Option Line) → next_at w.program i (Some t) ≡ o → GoesOn w i
  at_line t c None e = absurd (not_ended (ap (next_at w.program i) c ∙ e))
  at_line t c (Some l) e =
      let r = sym (ap (λ o. is_ready w take (next_by w.controls.holders o)) (ap (next_at w.program i) c ∙ e)) ∙ ready in
      line_goes w kept i harmless t c l (record { standing = c; line = e }) l.stmt refl (ready_rests w take l l.stmt r)

  at_thread : (o : Option Standing) → slice_get w.controls.threads i ≡ o → GoesOn w i
  at_thread None e = absurd (not_ended (ap (next_at w.program i) e))
  at_thread (Some t) e = at_line t e (next_at w.program i (Some t)) refl

  pub thread_steps : Names (given_at w take (next_line w.program w.controls i))
  thread_steps = goes (at_thread (slice_get w.controls.threads i) refl)

-- ---- the items of the kernel

filled_length : (c fill len : ℕ) (stood : List ℕ) → c ≤ len → len ≤ length stood → length (filled c fill len (Some stood)) ≡ len
filled_length c fill len stood le lt =
    omega (arith, length-append (replicate c fill) (drop c (take len stood)), length-replicate c fill, length-drop c (take len stood), length-take len stood)

module _ (w : World) (calm : clashes w.pending ≡ false) (kept : IsKept w) (res : ℤ) (fill : ℕ) where
  -- the item names as many bytes as the request brings
  item_length : (k : ℕ) (p : Pending) → slice_get w.pending k ≡ Some p → may_complete p.request res ≡ true → length (item_bytes res fill (Some p)) ≡ bytes_brought p.request
  item_length k p e may = go (is_read p.request.kind) refl
    where
      room : p.request.len ≤ bytes_at w.program.buffers p.request.buffer
      room = leb-true p.request.len _ (kept.memory.pending k p e).fitting.room

      stands : is_read p.request.kind ≡ true → (bytes : Option (List ℕ)) → p.bytes ≡ bytes → length (filled (count_in res) fill p.request.len bytes) ≡ p.request.len
      stands read None q = let d = (kept.memory.pending k p e).stands read q in absurd (cc (d, calm))
      stands read (Some stood) q =
          let all : length stood ≡ bytes_at w.program.buffers p.request.buffer = (kept.memory.pending k p e).sized stood q in
          let le : p.request.len ≤ bytes_at w.program.buffers p.request.buffer = room in
          filled_length (count_in res) fill p.request.len stood (count_within p.request read res may) (omega arith)

      go : (b : Bool) → is_read p.request.kind ≡ b → length (if b then filled (count_in res) fill p.request.len p.bytes else []) ≡ (if b then p.request.len else 0)
      go true r = stands r p.bytes refl
      go false r = refl

  kernel_at : (k : ℕ) (p : Option Pending) → slice_get w.pending k ≡ p → kernel_may res fill p ≡ true → (s : Event × World) × (kernel_step w k res (item_bytes res fill p) ≡ Some s)
  kernel_at k None e h = absurd (cc)
  kernel_at k (Some p) e h =
      let may = (and_parts (may_complete p.request res) _ h).0 in
      completes_freely w calm kept.memory k p res (item_bytes res fill (Some p)) e may (item_length k p e may)

  pub kernel_steps : (place : Option ℕ) → kernel_may res fill (pending_at w place) ≡ true → (s : Event × World) × (kernel_item w res fill place ≡ Some s)
  kernel_steps None h = absurd (cc)
  kernel_steps (Some k) h = kernel_at k (slice_get w.pending k) refl h

pub enabled_steps : EnabledItemsStep
enabled_steps program events w item made run safe h = go item h
  where
    sound : IsSound program w
    sound = run_sound program events (start_world program) w (sound_at_start program made) run

    go : (x : Item) → is_enabled w x ≡ true → (s : Event × World) × (item_step w x ≡ Some s)
    go (Thread i take) e = thread_steps w sound.kept i (harmless_in w safe i) take e
    go (Kernel u res fill) e = kernel_steps w (calm_in w safe) sound.kept res fill (pending_place w u) e

-- ---- traces

-- the step of an item is a step of a run
kernel_made : (w next : World) (e : Event) (res : ℤ) (fill : ℕ) (place : Option ℕ) → fault_of w ≡ None → kernel_item w res fill place ≡ Some (e, next) → IsStep w e next
kernel_made w next e res fill None safe h = absurd (cc)
kernel_made w next e res fill (Some k) safe h = record { no_fault = safe; step = inr (k, res, item_bytes res fill (slice_get w.pending k), h) }

item_made : (w next : World) (e : Event) (item : Item) → fault_of w ≡ None → item_step w item ≡ Some (e, next) → IsStep w e next
item_made w next e (Thread i take) safe h = record { no_fault = safe; step = inl (i, given_at w take (next_line w.program w.controls i), h) }
item_made w next e (Kernel u res fill) safe h = kernel_made w next e res fill (pending_place w u) safe h

trace_runs : (w : World) (i : ℕ) (items : List Item) → IsRun w (trace_from w i items).events (trace_from w i items).world
trace_runs w i [] = refl
trace_runs w i (item ∷ items) = go (λ next. trace_runs next (i + 1) items) (fault_of w) refl (is_enabled w item) (item_step w item) refl
  where
    go : ((next : World) → IsRun next (trace_from next (i + 1) items).events (trace_from next (i + 1) items).world) → (f : Option Fault) → fault_of w ≡ f → (b : Bool) (s : Option (Event × World)) → item_step w item ≡ s
        → IsRun w (at_item w i (λ next. trace_from next (i + 1) items) f b s).events (at_item w i (λ next. trace_from next (i + 1) items) f b s).world
    go others (Some f) e b s h = refl
    go others None e false s h = refl
    go others None e true None h = refl
    go others None e true (Some (event, next)) h = (next, item_made w next event item e h, others next)

pub traces_run : TracesAreRuns
traces_run program items made = trace_runs (start_world program) 1 items
