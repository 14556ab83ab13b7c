-- A thread that hasn't ended waits only while the run moves on: what a dispatch leaves of that.
use Rattle.std.proofs.Common.{◌≡◌, ◌≢◌, ◌⊎◌, ℕ, zero, suc, ◌+◌, ◌<◌, ◌≤◌, inl, inr, Bool, true, false, ◌&&◌, ◌||◌, List, [], ◌∷◌, length, nat_eq, Option, Some, None, refl, sym, ap, ◌∙◌, subst, slice_set, slice_get, arith}
use Rattle.std.specs.Prelude.{not}
use Rattle.std.proofs.lemmas.Bool.{and_parts, cases_lt}
use Rattle.std.proofs.lemmas.Option.{slice_get_past}
use Rattle.rc_lang.specs.declared.lines.Line.{Line}
use Rattle.rc_lang.specs.Program.{lines_in, lines_of}
use Rattle.rc_world.specs.declared.controls.Next.{Next}
use Rattle.rc_world.specs.declared.controls.Next.TheVariants.{Ready as ReadyLine, TakenLock, Ended}
use Rattle.rc_world.specs.Controls.{Standing, next_at}
use Rattle.rc_world.specs.Items.{next_by, next_of}
use Rattle.rc_world.specs.Machine.{World}
use Rattle.rc_run.specs.declared.scheduler.State.{State}
use Rattle.rc_run.specs.declared.scheduler.State.TheVariants.{Running, Ready, Waiting}
use Rattle.rc_run.specs.Lives.{HoldersGo, Live, can_move, has_ended, is_end, is_ready, is_taken_lock}
use Rattle.rc_run.specs.Scheduler.{AnyRuns, Dispatches, MovesOn, NobodyIn, RunQueue, due, is_due, is_held_back, is_running, state_at}
use Rattle.rc_run.specs.LockedRun.{LockedRun}
use Rattle.rc_world.proofs.LawSteps.{past_lines}

-- Nobody up to the next place either.
pub nobody_more : (test : ℕ → Bool) (from n : ℕ) → NobodyIn test from n → test n ≡ false → NobodyIn test from (n + 1)
nobody_more test from n before here i low high = elim (cases_lt i n) [
  | inl lt ↦ before i low lt
  | inr le ↦ (let e : i ≡ n = omega (arith, le, high) in subst (λ k. test k ≡ false) (sym e) here)
]

-- ---- who runs

-- There is no thread past the last one.
no_thread : (w : World) (i : ℕ) → length w.program.threads ≤ i → next_of w.program w.controls i ≡ Ended
no_thread w i past = ap (next_by w.controls.holders) (no_line (slice_get w.controls.threads i))
  where
    no_lines : lines_of w.program i ≡ []
    no_lines = ap lines_in (slice_get_past w.program.threads i past)

    no_line : (t : Option Standing) → next_at w.program i t ≡ None
    no_line None = refl
    no_line (Some t) = past_lines w.program i t (subst (λ (ls : List Line). length ls ≤ t.place) (sym no_lines) (omega arith))

-- Where none of the threads runs and can make an event, nobody does.
pub nobody_runs : (s : Live) (q : RunQueue) (n : ℕ) → length s.world.program.threads ≤ n → ((j : ℕ) → j < n → state_at q.states j ≡ Running → can_move s.world j ≢ true) → AnyRuns s q → ⊥
nobody_runs s q n past none a = elim (cases_lt a.0 n) [
  | inl lt ↦ none a.0 lt a.1 a.2
  | inr le ↦ (let e : can_move s.world a.0 ≡ false = ap is_ready (no_thread s.world a.0 (omega (arith, past, le))) in let t : can_move s.world a.0 ≡ true = a.2 in absurd (cc))
]

-- A thread that is put among those that run, runs.
runs_at : (states : List State) (i : ℕ) → state_at (slice_set states i Running) i ≡ Running
runs_at [] i = refl
runs_at (x ∷ states) zero = refl
runs_at (x ∷ states) (suc i) = runs_at states i

-- ---- who is held back

-- A thread that isn't due, though it can make an event, runs or waits for a pending request.
runs_or_waits : (s : Live) (put k : ℕ) (x : State) → (is_due s put k x && true) ≡ false → (x ≡ Running) ⊎ (0 < length s.world.pending)
runs_or_waits s put k Running e = inl refl
runs_or_waits s put k Ready e = absurd (cc)
runs_or_waits s put k (Waiting since) e = inr (some_pending (length s.world.pending) _ e)
  where
    some_pending : (n : ℕ) (b : Bool) → ((nat_eq n 0 || b) && true) ≡ false → 0 < n
    some_pending zero b e = absurd (cc)
    some_pending (suc n) b e = omega arith

module _ (s : Live) (q : RunQueue) where
  -- the run moves on by this thread
  by_thread : (k : ℕ) → can_move s.world k ≡ true → due s q k ≡ false → AnyRuns s q ⊎ (0 < length s.world.pending)
  by_thread k can rests = elim (runs_or_waits s q.last_put k (state_at q.states k) (subst (λ b. (is_due s q.last_put k (state_at q.states k) && b) ≡ false) can rests)) [
    | inl e ↦ inl (k, e, can)
    | inr p ↦ inr p
  ]

  not_ended : (k : ℕ) → (not (is_running (state_at q.states k)) && not (has_ended s.world k)) ≡ true → has_ended s.world k ≡ true → ⊥
  not_ended k held over = absurd (let bad : not true ≡ true = subst (λ b. not b ≡ true) over (and_parts (not (is_running (state_at q.states k))) (not (has_ended s.world k)) held).1 in cc)

  -- Where nobody is due, who is held back can make an event, or waits for a lock whose holder can.
  nobody_due : HoldersGo s.world → ((i : ℕ) → due s q i ≡ false) → (k : ℕ) → (not (is_running (state_at q.states k)) && not (has_ended s.world k)) ≡ true → AnyRuns s q ⊎ (0 < length s.world.pending)
  nobody_due holders nobody k held = by_next (next_of s.world.program s.world.controls k) refl
    where
      by_next : (n : Next) → next_of s.world.program s.world.controls k ≡ n → AnyRuns s q ⊎ (0 < length s.world.pending)
      by_next (ReadyLine line) e = by_thread k (ap is_ready e) (nobody k)
      by_next (TakenLock wanted) e = let h = holders k (ap is_taken_lock e) in by_thread h.0 h.2 (nobody h.0)
      by_next Ended e = absurd (not_ended k held (ap is_end e))

pub moves_on : (t : LockedRun) (s : Live) (q v : RunQueue) (o : Option ℕ) → s ≡ t.run → HoldersGo s.world → Dispatches s q o v → MovesOn (record { run = t; queue = v })
moves_on t s q v (Some i) same holders d k held =
    let e = subst (λ (l : Live). Dispatches l q (Some i) v) same d in
    let passes : due t.run q i ≡ true = elim e.1 [
      | inl f ↦ f.2
      | inr f ↦ f.1.2
    ] in
    let can = (and_parts (is_due t.run q.last_put i (state_at q.states i)) (can_move t.run.world i) passes).1 in
    inl (i, ap (λ (w : RunQueue). state_at w.states i) e.2 ∙ runs_at q.states i, can)
moves_on t s q v None same holders d k held =
    let e = subst (λ (l : Live). Dispatches l q None v) same d in
    let locks = subst (λ (l : Live). HoldersGo l.world) same holders in
    let held_so : is_held_back (record { run = t; queue = q }) k ≡ true = subst (λ w. is_held_back (record { run = t; queue = w }) k ≡ true) e.1 held in
    let moves : AnyRuns t.run q ⊎ (0 < length t.run.world.pending) = elim e.0 [
      | inl a ↦ inl a
      | inr nobody ↦ nobody_due t.run q locks nobody k held_so
    ] in
    elim moves [
      | inl a ↦ inl (subst (AnyRuns t.run) (sym e.1) a)
      | inr p ↦ inr p
    ]
