-- The step of a thread in a world, at the line that it has next.
use Rattle.std.proofs.Common.{ℕ, ℤ, ◌≡◌, ◌<◌, length, Option, Some, None, IsSome, slice_get, refl, sym, ap, subst, ◌∙◌}
use Rattle.std.proofs.lemmas.Option.{get_or_from_slice_get, slice_get_within}
use Rattle.rc_lang.specs.declared.lines.Line.{Line}
use Rattle.rc_lang.specs.Program.{Program}
use Rattle.rc_world.specs.declared.controls.Answer.{Answer}
use Rattle.rc_world.specs.declared.event.Event.{Event}
use Rattle.rc_world.specs.Changes.{StmtIsSmall, nowhere, standing_at}
use Rattle.rc_world.specs.Controls.{Controls, Standing, controls_step, next_at, next_line}
use Rattle.rc_world.specs.Kept.{IsKept}
use Rattle.rc_world.specs.Machine.{World, in_rings, stmt_answer, thread_step, thread_step_at, with_controls}
use Rattle.rc_world.proofs.RingSteps.{IsSameBut, rings_same, small_read}

-- The thread has this line next.
pub record IsAtLine (P : Program) (c : Controls) (i : ℕ) (l : Line) : Type 0 where
  pub found : slice_get c.threads i ≡ Some (standing_at c i)
  pub exists : i < length c.threads
  pub line : next_at P i (Some (standing_at c i)) ≡ Some l

pub at_line : (P : Program) (c : Controls) (i : ℕ) (l : Line) → next_line P c i ≡ Some l → IsAtLine P c i l
at_line P c i l e = go (slice_get c.threads i) refl e
  where
    go : (o : Option Standing) → slice_get c.threads i ≡ o → next_at P i o ≡ Some l → IsAtLine P c i l
    go None h q = absurd (cc)
    go (Some t) h q =
        let same = get_or_from_slice_get c.threads i t nowhere h in
        record { found = h ∙ ap Some (sym same); exists = slice_get_within c.threads i t h; line = ap (λ (x : Standing). next_at P i (Some x)) same ∙ q }

module _ (w : World) (k : IsKept w) (i : ℕ) (r : ℤ) (l : Line) (next : next_line w.program w.controls i ≡ Some l) where
  here : IsAtLine w.program w.controls i l
  here = at_line w.program w.controls i l next

  pub step_is : thread_step w i r ≡ with_controls (in_rings w (standing_at w.controls i) r l.stmt) (controls_step w.program w.controls i (stmt_answer w r l.stmt))
  step_is = ap (λ o. thread_step_at w i r o (next_line w.program w.controls i)) here.found ∙ ap (thread_step_at w i r (Some (standing_at w.controls i))) next

  both_some : (o : Option World) (s : Option (Event × Controls)) → IsSome (with_controls o s) → IsSome o × IsSome s
  both_some None s h = absurd (cc)
  both_some (Some v) None h = absurd (cc)
  both_some (Some v) (Some (e, c)) h = (refl, refl)

  pub step_some : IsSome (thread_step w i r) → IsSome (in_rings w (standing_at w.controls i) r l.stmt) × IsSome (controls_step w.program w.controls i (stmt_answer w r l.stmt))
  step_some h = both_some _ _ (subst IsSome step_is h)

  pub small_here : StmtIsSmall w.program l.stmt
  small_here = small_read w.program k.made i (standing_at w.controls i).variables (standing_at w.controls i).place l here.line

  module _ (after : World) (rings : in_rings w (standing_at w.controls i) r l.stmt ≡ Some after) (a : Answer) (answer : a ≡ stmt_answer w r l.stmt) where
    same : IsSameBut w after
    same = rings_same w k (standing_at w.controls i) r l.stmt small_here after rings

    turned : controls_step after.program after.controls i a ≡ controls_step w.program w.controls i (stmt_answer w r l.stmt)
    turned =
        ap (λ P. controls_step P after.controls i a) same.program
        ∙ ap (λ c. controls_step w.program c i a) same.controls
        ∙ ap (controls_step w.program w.controls i) answer

    -- the step in the controls, once the rings have changed
    pub step_ready : IsSome (thread_step w i r) → IsSome (controls_step after.program after.controls i a)
    step_ready h = subst IsSome (sym turned) (step_some h).1

    pub step_done : (e : Event) (c : Controls) → controls_step after.program after.controls i a ≡ Some (e, c) → thread_step w i r ≡ Some (e, record after { controls = c })
    step_done e c step =
        step_is
        ∙ ap (λ o. with_controls o (controls_step w.program w.controls i (stmt_answer w r l.stmt))) rings
        ∙ ap (with_controls (Some after)) (sym turned ∙ step)
