-- In each world of a run no two requests in flight have the same user data.
use Rattle.std.proofs.Common.{◌≡◌, ℕ, ◌+◌, ◌≤◌, Bool, true, false, ◌||◌, List, [], ◌∷◌, ◌++◌, map, take, drop, Option, Some, None, refl, sym, ap, ◌∙◌, subst, inl, inr, arith}
use Rattle.std.proofs.lemmas.Bool.{eqb-true, or_parts}
use Rattle.std.specs.List.{list_any}
use Rattle.std.specs.Prelude.{nat_eq, slice_get, ℤ, if◌then◌else◌}
use Rattle.rc_lang.specs.declared.lines.Line.{Line}
use Rattle.rc_lang.specs.declared.lines.Op.TheVariants.{SetData64}
use Rattle.rc_lang.specs.declared.lines.Stmt.{Stmt}
use Rattle.rc_lang.specs.declared.lines.Stmt.TheVariants.{Do}
use Rattle.rc_lang.specs.declared.request.Request.{Request}
use Rattle.rc_lang.specs.Program.{Program}
use Rattle.rc_world.specs.declared.controls.Look.{Look}
use Rattle.rc_world.specs.declared.controls.Look.TheVariants.{Unseen, Peeked, Got}
use Rattle.rc_world.specs.declared.event.Completion.{Completion}
use Rattle.rc_world.specs.declared.event.Event.{Event}
use Rattle.rc_world.specs.Controls.{Controls, Standing, controls_step, next_line}
use Rattle.rc_world.specs.Faults.{count_of, fault_of, has_data, is_in_flight}
use Rattle.rc_world.specs.Machine.{Pending, World, hands_over, in_rings, start_world, stmt_answer, thread_step, thread_step_at, with_controls, kernel_step, without_data, without_front}
use Rattle.rc_world.specs.Runs.{IsRun}
use Rattle.rc_admit.specs.Worlds.{DataIsOne}
use Rattle.rc_world.proofs.Cases.{OnSome, in_rings_by}
use Rattle.rc_admit.proofs.Flight.{begun, completed_sum, in_flight, of_pending, taken_sum}
use Rattle.rc_admit.proofs.Kernel.{AfterStep, kernel_after}
use Rattle.rc_admit.proofs.Lists.{sum_over, sum_over-append, sum_over-map}
use Rattle.rc_admit.proofs.Worlds.{none_in_flight}

-- ---- counts as sums

abbrev one_if : Bool → ℕ
one_if b = if b then 1 else 0

abbrev one : ℕ → Request → ℕ
one u r = one_if (has_data u r)

count_is : (u : ℕ) (rs : List Request) → count_of u rs ≡ sum_over (one u) rs
count_is u [] = refl
count_is u (r ∷ rs) = ap (λ n. one u r + n) (count_is u rs)

none_counted : {A : Type 0} (test : A → Bool) (xs : List A) → list_any test xs ≡ false → sum_over (λ x. one_if (test x)) xs ≡ 0
none_counted test [] e = refl
none_counted test (x ∷ xs) e =
    let h = or_parts (test x) (list_any test xs) e in
    let a : one_if (test x) ≡ 0 = ap one_if h.0 in
    let b : sum_over (λ x. one_if (test x)) xs ≡ 0 = none_counted test xs h.1 in
    omega (arith, a, b)

-- A request that is reaped goes, or none does.
data_less : (f : Request → ℕ) (u : ℕ) (rs : List Request) → sum_over f (without_data u rs) ≤ sum_over f rs
data_less f u [] = omega arith
data_less f u (r ∷ rs) = go (nat_eq r.user_data u) (data_less f u rs)
  where
    go : (b : Bool) → sum_over f (without_data u rs) ≤ sum_over f rs → sum_over f (if b then rs else r ∷ without_data u rs) ≤ f r + sum_over f rs
    go true h = omega arith
    go false h = omega arith

front_less : (f : Request → ℕ) (look : Look) (u : ℕ) (rs : List Request) → sum_over f (without_front look u rs) ≤ sum_over f rs
front_less f Unseen u rs = data_less f u rs
front_less f Peeked u rs = data_less f u rs
front_less f Got u rs = omega arith

-- ---- what each world keeps

pub record IsTidy (w : World) : Type 0 where
  pub one_each : (u : ℕ) → in_flight (one u) w ≤ 1

pub one_of_each : (w : World) → IsTidy w → DataIsOne w
one_of_each w h u =
    let a : count_of u w.queued ≡ sum_over (one u) w.queued = count_is u w.queued in
    let b : count_of u (map (λ (x : Pending). x.request) w.pending) ≡ sum_over (of_pending (one u)) w.pending = count_is u (map (λ (x : Pending). x.request) w.pending) ∙ sym (sum_over-map (one u) (λ (x : Pending). x.request) w.pending) in
    let c : count_of u w.completed ≡ sum_over (one u) w.completed = count_is u w.completed in
    omega (arith, a, b, c, h.one_each u)

module _ (w : World) (h : IsTidy w) where
  -- the user data of a new request is no other's
  queued_tidy : (u : ℕ) (new : Request) → new.user_data ≡ u → is_in_flight w u ≡ false → (v : ℕ) → in_flight (one v) (record w { queued = w.queued ++ new ∷ [] }) ≤ 1
  queued_tidy u new is none v = go (nat_eq u v) refl
    where
      nothing : in_flight (one u) w ≡ 0
      nothing =
          let two = or_parts (list_any (has_data u) w.queued || list_any (λ (p : Pending). has_data u p.request) w.pending) (list_any (has_data u) w.completed) none in
          let first = or_parts (list_any (has_data u) w.queued) (list_any (λ (p : Pending). has_data u p.request) w.pending) two.0 in
          let a : sum_over (one u) w.queued ≡ 0 = none_counted (has_data u) w.queued first.0 in
          let b : sum_over (of_pending (one u)) w.pending ≡ 0 = none_counted (λ (p : Pending). has_data u p.request) w.pending first.1 in
          let c : sum_over (one u) w.completed ≡ 0 = none_counted (has_data u) w.completed two.1 in
          omega (arith, a, b, c)

      more : sum_over (one v) (w.queued ++ new ∷ []) ≡ sum_over (one v) w.queued + (one v new + 0)
      more = sum_over-append (one v) w.queued (new ∷ [])

      new_is : (b : Bool) → nat_eq u v ≡ b → one v new ≡ one_if b
      new_is b q = ap (λ n. one_if (nat_eq n v)) is ∙ ap one_if q

      go : (b : Bool) → nat_eq u v ≡ b → in_flight (one v) (record w { queued = w.queued ++ new ∷ [] }) ≤ 1
      go true q = let y : in_flight (one v) w ≡ 0 = subst (λ n. in_flight (one n) w ≡ 0) (eqb-true u v q) nothing in omega (arith, new_is true q, y, more)
      go false q = let y : in_flight (one v) w ≤ 1 = h.one_each v in omega (arith, new_is false q, y, more)

  taken_tidy : (n : ℕ) → IsTidy (hands_over w n)
  taken_tidy n =
      let b = begun (record w { queued = drop n w.queued }) (take n w.queued) in
      subst IsTidy (sym b.is) (record { one_each = λ u. omega (arith, taken_sum (one u) n w.queued w.pending b.pending b.are, h.one_each u) })

  -- whatever is left in the completion ring
  reaped_tidy : (c : Completion) (cs : List Completion) → IsTidy (record w { completions = cs; completed = without_front w.controls.look c.user_data w.completed })
  reaped_tidy c cs = record { one_each = λ u. omega (arith, front_less (one u) w.controls.look c.user_data w.completed, h.one_each u) }

  line_tidy : (t : Standing) (r : ℤ) (s : Stmt) → ((u : ℕ) → s ≡ Do (SetData64 u) → is_in_flight w u ≡ false) → OnSome IsTidy (in_rings w t r s)
  line_tidy t r s none = in_rings_by IsTidy w t r s (record {
    nothing = h;
    bytes = λ b old new e n. record { one_each = h.one_each };
    opens = λ e lt. record { one_each = h.one_each };
    prepares = λ q p e fits. record { one_each = h.one_each };
    queues = λ u q e x. record { one_each = queued_tidy u _ refl (none u e) };
    submits = taken_tidy;
    gets = λ c cs e. reaped_tidy c w.completions;
    reaps = λ c cs e. reaped_tidy c cs;
  })

  thread_tidy : fault_of w ≡ None → (i : ℕ) (r : ℤ) → AfterStep IsTidy (thread_step w i r)
  thread_tidy none i r = go (slice_get w.controls.threads i) (next_line w.program w.controls i) refl
    where
      moved : (v : Option World) → OnSome IsTidy v → (x : Option (Event × Controls)) → AfterStep IsTidy (with_controls v x)
      moved None g x = tt
      moved (Some v) g None = tt
      moved (Some v) g (Some x) = record { one_each = g.one_each }

      go : (x : Option Standing) (y : Option Line) → next_line w.program w.controls i ≡ y → AfterStep IsTidy (thread_step_at w i r x y)
      go None y f = tt
      go (Some t) None f = tt
      go (Some t) (Some l) f = moved (in_rings w t r l.stmt) (line_tidy t r l.stmt (λ u e. none_in_flight w none i u (l, f, e))) (controls_step w.program w.controls i (stmt_answer w r l.stmt))

  kernel_tidy : (k : ℕ) (res : ℤ) (bytes : List ℕ) → AfterStep IsTidy (kernel_step w k res bytes)
  kernel_tidy k res bytes = kernel_after w IsTidy k res bytes (λ x bs e. record { one_each = λ u. omega (arith, completed_sum (one u) k w.pending w.completed x e, h.one_each u) })

pub run_tidy : (events : List Event) (w after : World) → IsTidy w → IsRun w events after → IsTidy after
run_tidy [] w after h r = subst IsTidy r h
run_tidy (e ∷ events) w after h r = run_tidy events r.0 after (elim r.1.step [ inl t ↦ subst (AfterStep IsTidy) t.2 (thread_tidy w h r.1.no_fault t.0 t.1) | inr k ↦ subst (AfterStep IsTidy) k.3 (kernel_tidy w h k.0 k.1 k.2) ]) r.2

pub start_tidy : (P : Program) → IsTidy (start_world P)
start_tidy P = record { one_each = λ u. omega arith }
