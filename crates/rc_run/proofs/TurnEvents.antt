-- What is known of the events of steps.
use Rattle.std.proofs.Common.{◌≡◌, ℕ, List, length, Option, Some, None, slice_get, sym, ap}
use Rattle.std.proofs.lemmas.Option.{same_Some}
use Rattle.std.specs.Prelude.{ℤ, Bool, true, false, ◌&&◌, if◌then◌else◌, nat_eq}
use Rattle.rc_lang.specs.declared.lines.Line.{Line}
use Rattle.rc_lang.specs.declared.request.Request.{Request}
use Rattle.rc_lang.specs.Program.{Program}
use Rattle.rc_lang.specs.Requests.{may_complete}
use Rattle.rc_world.specs.declared.controls.Answer.{Answer}
use Rattle.rc_world.specs.declared.event.Action.{Action}
use Rattle.rc_world.specs.declared.event.Event.{Event}
use Rattle.rc_world.specs.declared.event.Event.TheVariants.{ByThread, ByKernel}
use Rattle.rc_world.specs.Controls.{Controls, Standing, acts, acts_on, as_event, controls_step, made, next_line, number_of_event}
use Rattle.rc_world.specs.Machine.{Pending, World, bytes_brought, completion_of, given_back, in_rings, kernel_event, kernel_step_of, stmt_answer, thread_step, thread_step_at, with_controls}

-- It is one of this thread.
pub record IsOf (i : ℕ) (e : Event) : Type 0 where
  pub line : ℕ
  pub action : Action
  pub is : e ≡ ByThread i line action

evented : (P : Program) (i : ℕ) (l : Line) (m : Option (Action × Controls)) (e : Event) (d : Controls) → as_event P i l m ≡ Some (e, d) → IsOf i e
evented P i l None e d h = absurd (cc)
evented P i l (Some (action, c)) e d h = record {
  line = number_of_event P i l l.stmt;
  action = action;
  is = sym (ap (λ (p : Event × Controls). p.0) (same_Some _ _ h));
}

acted : (P : Program) (c : Controls) (i : ℕ) (a : Answer) (t : Option Standing) (l : Option Line) (e : Event) (d : Controls) → acts_on P c i a t l ≡ Some (e, d) → IsOf i e
acted P c i a None l e d h = absurd (cc)
acted P c i a (Some t) None e d h = absurd (cc)
acted P c i a (Some t) (Some l) e d h = evented P i l (made P c i (acts P c i t l.stmt a)) e d h

joined : (x : Option World) (y : Option (Event × Controls)) (e : Event) (v : World) → with_controls x y ≡ Some (e, v) → (d : Controls) × (y ≡ Some (e, d))
joined None y e v h = absurd (cc)
joined (Some w) None e v h = absurd (cc)
joined (Some w) (Some (f, d)) e v h = (d, ap (λ x. Some (x, d)) (ap (λ (p : Event × World). p.0) (same_Some _ _ h)))

stepped : (w : World) (i : ℕ) (r : ℤ) (t : Option Standing) (l : Option Line) (e : Event) (v : World) → thread_step_at w i r t l ≡ Some (e, v) → IsOf i e
stepped w i r None l e v h = absurd (cc)
stepped w i r (Some t) None e v h = absurd (cc)
stepped w i r (Some t) (Some l) e v h =
    let d = joined (in_rings w t r l.stmt) (controls_step w.program w.controls i (stmt_answer w r l.stmt)) e v h in
    acted w.program w.controls i (stmt_answer w r l.stmt) (slice_get w.controls.threads i) (next_line w.program w.controls i) e d.0 d.1

pub of_thread : (w : World) (i : ℕ) (r : ℤ) (e : Event) (v : World) → thread_step w i r ≡ Some (e, v) → IsOf i e
of_thread w i r e v h = stepped w i r (slice_get w.controls.threads i) (next_line w.program w.controls i) e v h

-- It is that of a request's completion.
kernel_made : (w v : World) (k : ℕ) (res : ℤ) (r : Request) (o : Option (List (Option (List ℕ)))) (e : Event) → kernel_event w k res r o ≡ Some (e, v) → e ≡ ByKernel (completion_of r res)
kernel_made w v k res r None e h = absurd (cc)
kernel_made w v k res r (Some buffers) e h = sym (ap (λ (p : Event × World). p.0) (same_Some _ _ h))

pub of_completion : (w v : World) (k : ℕ) (res : ℤ) (bytes : List ℕ) (p : Pending) (e : Event) → kernel_step_of w k res bytes (Some p) ≡ Some (e, v) → e ≡ ByKernel (completion_of p.request res)
of_completion w v k res bytes p e h = go (may_complete p.request res && nat_eq (length bytes) (bytes_brought p.request)) h
  where
    go : (b : Bool) → (if b then kernel_event w k res p.request (given_back w p.request bytes p.bytes) else None) ≡ Some (e, v) → e ≡ ByKernel (completion_of p.request res)
    go true q = kernel_made w v k res p.request (given_back w p.request bytes p.bytes) e q
    go false q = absurd (cc)
