-- The step of a thread in its controls, at the line that it has next.
use Rattle.std.proofs.Common.{ℕ, ◌≡◌, ◌<◌, ◌≤◌, length, Option, Some, None, option_map, slice_get, refl, sym, ap, ◌∙◌, arith}
use Rattle.std.proofs.lemmas.Option.{get_or_from_slice_get, same_Some, slice_get_within}
use Rattle.rc_lang.specs.declared.lines.Line.{Line}
use Rattle.rc_lang.specs.Program.{Program, line_at, lines_of, stmt_of}
use Rattle.rc_lang.specs.Kept.{IsProgram}
use Rattle.rc_lang.proofs.Reading.{line_alone}
use Rattle.rc_world.specs.declared.controls.Answer.{Answer}
use Rattle.rc_world.specs.declared.event.Action.{Action}
use Rattle.rc_world.specs.declared.event.Event.TheVariants.{ByThread}
use Rattle.rc_world.specs.Changes.{StandsAt, nowhere, standing_at}
use Rattle.rc_world.specs.Controls.{Controls, Standing, acts, acts_on, as_event, controls_step, made, next_at, next_line, number_of_event}
use Rattle.rc_world.proofs.Laid.{laid}

-- The thread is at this place.
pub record IsFound (c : Controls) (i j : ℕ) : Type 0 where
  pub found : slice_get c.threads i ≡ Some (standing_at c i)
  pub exists : i < length c.threads
  pub place : (standing_at c i).place ≡ j

pub found_at : (c : Controls) (i j : ℕ) → option_map (λ (t : Standing). t.place) (slice_get c.threads i) ≡ Some j → IsFound c i j
found_at c i j e = go (slice_get c.threads i) refl e
  where
    go : (o : Option Standing) → slice_get c.threads i ≡ o → option_map (λ (t : Standing). t.place) o ≡ Some j → IsFound c i j
    go None h q = absurd (cc)
    go (Some t) h q =
        let same = get_or_from_slice_get c.threads i t nowhere h in
        record { found = h ∙ ap Some (sym same); exists = slice_get_within c.threads i t h; place = ap (λ (x : Standing). x.place) same ∙ same_Some _ _ q }

-- the line that it has next is the one at its place
pub line_here : (P : Program) → IsProgram P → (c : Controls) (i j : ℕ) (l : Line) → IsFound c i j → next_line P c i ≡ Some l → line_at P i j ≡ Some l
line_here P made c i j l f e =
    ap (line_at P i) (sym f.place) ∙ sym (line_alone P made i (standing_at c i).variables (standing_at c i).place) ∙ ap (next_at P i) (sym f.found) ∙ e

pub stands : (P : Program) → IsProgram P → (c : Controls) (i j : ℕ) (l : Line) → IsFound c i j → next_line P c i ≡ Some l → StandsAt P c i j l.stmt
stands P made c i j l f e =
    let here = line_here P made c i j l f e in
    let lt : j < length (lines_of P i) = slice_get_within (lines_of P i) j l here in
    let few : length (lines_of P i) ≤ 4096 = (laid P made i).few in
    record { made = made; exists = f.exists; place = f.place; within = omega arith; line = ap stmt_of here }

pub step_at : (P : Program) (c : Controls) (i : ℕ) (a : Answer) (t : Standing) (l : Line) → slice_get c.threads i ≡ Some t → next_at P i (Some t) ≡ Some l
    → controls_step P c i a ≡ as_event P i l (made P c i (acts P c i t l.stmt a))
step_at P c i a t l here line = ap (λ o. acts_on P c i a o (next_at P i o)) here ∙ ap (λ o. acts_on P c i a (Some t) o) line

pub step_made : (P : Program) (c new : Controls) (i j n : ℕ) (a : Answer) (l : Line) (action : Action) → IsFound c i j → next_line P c i ≡ Some l → n ≡ number_of_event P i l l.stmt
    → made P c i (acts P c i (standing_at c i) l.stmt a) ≡ Some (action, new) → controls_step P c i a ≡ Some (ByThread i n action, new)
step_made P c new i j n a l action f line number m =
    step_at P c i a (standing_at c i) l f.found (ap (next_at P i) (sym f.found) ∙ line)
    ∙ ap (as_event P i l) m
    ∙ ap (λ k. Some (ByThread i k action, new)) (sym number)
