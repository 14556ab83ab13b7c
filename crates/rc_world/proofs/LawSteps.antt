-- What a step is made of.
use Rattle.std.proofs.Common.{◌≡◌, ℕ, Bool, true, false, if◌then◌else◌, List, length, nat_eq, ◌&&◌, Option, Some, None, refl, sym, ap, ◌∙◌, slice_get, ℤ, ◌≤◌, option_map}
use Rattle.std.proofs.lemmas.Bool.{eqb-true, and_parts}
use Rattle.std.proofs.lemmas.Option.{some_pair_parts, slice_get_past}
use Rattle.rc_lang.specs.declared.lines.Line.{Line}
use Rattle.rc_lang.specs.Requests.{may_complete}
use Rattle.rc_lang.proofs.Reading.{IsReadOf, written_at}
use Rattle.rc_world.specs.declared.event.Event.{Event}
use Rattle.rc_world.specs.Controls.{Move, Standing, acts, as_event, made, moved, next_at, next_line}
use Rattle.rc_world.specs.Machine.{Pending, World, bytes_brought, completes, given_back, in_rings, kernel_event, kernel_step_of, stmt_answer, thread_step, thread_step_at, with_controls}
use Rattle.rc_world.proofs.StepParts.{step_at}
use Rattle.rc_lang.specs.Program.{Program, lines_of, rows_of}
use Rattle.rc_lang.specs.Rows.{read_line}

-- The thread has this line next.
pub record StandsAt (w : World) (i : ℕ) (t : Standing) (l : Line) : Type 0 where
  pub standing : slice_get w.controls.threads i ≡ Some t
  pub line : next_at w.program i (Some t) ≡ Some l

-- and which one stands there
pub stands_written : (w : World) (i : ℕ) (t : Standing) (l : Line) → StandsAt w i t l → IsReadOf w.program i t.variables t.place l
stands_written w i t l s = written_at w.program i t.variables t.place l s.line

-- past its last line it has none
pub past_lines : (P : Program) (i : ℕ) (t : Standing) → length (lines_of P i) ≤ t.place → next_at P i (Some t) ≡ None
past_lines P i t le = ap (option_map (read_line P (rows_of P i) t.variables)) (slice_get_past (lines_of P i) t.place le)

pub next_of_standing : (w : World) (i : ℕ) (t : Standing) (l : Line) → StandsAt w i t l → next_line w.program w.controls i ≡ Some l
next_of_standing w i t l s = ap (next_at w.program i) s.standing ∙ s.line

pub step_is : (w : World) (i : ℕ) (r : ℤ) (t : Standing) (l : Line) → StandsAt w i t l
    → thread_step w i r ≡ with_controls (in_rings w t r l.stmt) (as_event w.program i l (made w.program w.controls i (acts w.program w.controls i t l.stmt (stmt_answer w r l.stmt))))
step_is w i r t l s =
    ap (λ x. thread_step_at w i r x (next_line w.program w.controls i)) s.standing
    ∙ ap (thread_step_at w i r (Some t)) (next_of_standing w i t l s)
    ∙ ap (with_controls (in_rings w t r l.stmt)) (step_at w.program w.controls i (stmt_answer w r l.stmt) t l s.standing s.line)

-- What happened in a step of a thread.
pub record Stepped (w : World) (i : ℕ) (r : ℤ) (after : World) : Type 0 where
  pub standing : Standing
  pub line : Line
  pub stands : StandsAt w i standing line
  pub rings : World
  pub in_the_rings : in_rings w standing r line.stmt ≡ Some rings
  pub move : Move
  pub acted : acts w.program w.controls i standing line.stmt (stmt_answer w r line.stmt) ≡ Some move
  pub same : record rings { controls = moved w.program w.controls i move } ≡ after

module _ (w : World) (i : ℕ) (r : ℤ) (e : Event) (after : World) where
  at_line : (t : Standing) (l : Line) → StandsAt w i t l → (v : Option World) → in_rings w t r l.stmt ≡ v → (m : Option Move) → acts w.program w.controls i t l.stmt (stmt_answer w r l.stmt) ≡ m
      → with_controls v (as_event w.program i l (made w.program w.controls i m)) ≡ Some (e, after) → Stepped w i r after
  at_line t l s None g m h q = absurd (cc)
  at_line t l s (Some v) g None h q = absurd (cc)
  at_line t l s (Some v) g (Some m) h q = record { standing = t; line = l; stands = s; rings = v; in_the_rings = g; move = m; acted = h; same = (some_pair_parts _ _ _ _ q).1 }

  at_place : (t : Standing) → slice_get w.controls.threads i ≡ Some t → (l : Option Line) → next_at w.program i (Some t) ≡ l → thread_step_at w i r (Some t) l ≡ Some (e, after) → Stepped w i r after
  at_place t g None h q = absurd (cc)
  at_place t g (Some l) h q =
      let s : StandsAt w i t l = record { standing = g; line = h } in
      at_line t l s (in_rings w t r l.stmt) refl (acts w.program w.controls i t l.stmt (stmt_answer w r l.stmt)) refl
      (sym (ap (with_controls (in_rings w t r l.stmt)) (step_at w.program w.controls i (stmt_answer w r l.stmt) t l g h)) ∙ q)

  at_thread : (t : Option Standing) → slice_get w.controls.threads i ≡ t → thread_step_at w i r t (next_at w.program i t) ≡ Some (e, after) → Stepped w i r after
  at_thread None g q = absurd (cc)
  at_thread (Some t) g q = at_place t g (next_at w.program i (Some t)) refl q

  pub stepped : thread_step w i r ≡ Some (e, after) → Stepped w i r after
  stepped q = at_thread (slice_get w.controls.threads i) refl q

-- What happened in a step of the kernel.
pub record Completed (w : World) (k : ℕ) (res : ℤ) (bytes : List ℕ) (after : World) : Type 0 where
  pub pending : Pending
  pub here : slice_get w.pending k ≡ Some pending
  pub many : length bytes ≡ bytes_brought pending.request
  pub buffers : List (Option (List ℕ))
  pub given : given_back w pending.request bytes pending.bytes ≡ Some buffers
  pub same : completes w k res pending.request buffers ≡ after

if_some : {A : Type 0} (b : Bool) (x : Option A) (y : A) → (if b then x else None) ≡ Some y → (b ≡ true) × (x ≡ Some y)
if_some true x y e = (refl, e)
if_some false x y e = absurd (cc)

module _ (w : World) (k : ℕ) (res : ℤ) (bytes : List ℕ) (e : Event) (after : World) where
  with_buffers : (p : Pending) → slice_get w.pending k ≡ Some p → length bytes ≡ bytes_brought p.request → (b : Option (List (Option (List ℕ)))) → given_back w p.request bytes p.bytes ≡ b
      → kernel_event w k res p.request b ≡ Some (e, after) → Completed w k res bytes after
  with_buffers p g n None h q = absurd (cc)
  with_buffers p g n (Some b) h q = record { pending = p; here = g; many = n; buffers = b; given = h; same = (some_pair_parts _ _ _ _ q).1 }

  pub completed : (p : Option Pending) → slice_get w.pending k ≡ p → kernel_step_of w k res bytes p ≡ Some (e, after) → Completed w k res bytes after
  completed None g q = absurd (cc)
  completed (Some p) g q =
      let h = if_some (may_complete p.request res && nat_eq (length bytes) (bytes_brought p.request)) (kernel_event w k res p.request (given_back w p.request bytes p.bytes)) (e, after) q in
      with_buffers p g (eqb-true (length bytes) (bytes_brought p.request) (and_parts (may_complete p.request res) (nat_eq (length bytes) (bytes_brought p.request)) h.0).1) (given_back w p.request bytes p.bytes) refl h.1
