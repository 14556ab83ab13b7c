-- The stray step of a thread in its controls, at the line that it has next.
use Rattle.std.proofs.Common.{ℕ, ◌≡◌, true, false, Option, Some, None, IsSome, slice_get, refl, sym, ap, ◌∙◌}
use Rattle.std.specs.Prelude.{is_some}
use Rattle.rc_lang.specs.declared.lines.Line.{Line}
use Rattle.rc_lang.specs.declared.lines.Op.TheVariants.{Load}
use Rattle.rc_lang.specs.declared.lines.Stmt.{Stmt}
use Rattle.rc_lang.specs.declared.lines.Stmt.TheVariants.{Do, If, EndLoop}
use Rattle.rc_lang.specs.declared.lines.Test.TheVariants.{Take}
use Rattle.rc_lang.specs.Program.{Program}
use Rattle.rc_world.specs.declared.event.Action.{Action}
use Rattle.rc_world.specs.declared.event.Event.TheVariants.{ByThread}
use Rattle.rc_world.specs.Changes.{standing_at}
use Rattle.rc_world.specs.Controls.{Controls, Move, Standing, as_event, made, next_at, next_line, number_of_event}
use Rattle.rc_world.specs.Stray.{controls_stray, strays, strays_on}
use Rattle.rc_world.proofs.StepParts.{IsFound}
use Rattle.rc_world.proofs.WorldSteps.{at_line}

module _ (P : Program) (c : Controls) (i : ℕ) where
  stray_at : (byte : ℕ) (t : Standing) (l : Line) → slice_get c.threads i ≡ Some t → next_at P i (Some t) ≡ Some l → controls_stray P c i byte ≡ as_event P i l (made P c i (strays P c i t byte l.stmt))
  stray_at byte t l here line = ap (λ o. strays_on P c i byte o (next_at P i o)) here ∙ ap (λ o. strays_on P c i byte (Some t) o) line

  -- ---- whether there is one

  some_made : (l : Line) (m : Option Move) → is_some (as_event P i l (made P c i m)) ≡ is_some m
  some_made l None = refl
  some_made l (Some m) = refl

  pub some_stray : (byte : ℕ) (l : Line) → next_line P c i ≡ Some l → is_some (controls_stray P c i byte) ≡ is_some (strays P c i (standing_at c i) byte l.stmt)
  some_stray byte l next = let here = at_line P c i l next in ap is_some (stray_at byte (standing_at c i) l here.found here.line) ∙ some_made l (strays P c i (standing_at c i) byte l.stmt)

  pub no_stray : (byte : ℕ) → next_line P c i ≡ None → is_some (controls_stray P c i byte) ≡ false
  no_stray byte next = ap (λ y. is_some (strays_on P c i byte (slice_get c.threads i) y)) next ∙ go (slice_get c.threads i)
    where
      go : (o : Option Standing) → is_some (strays_on P c i byte o None) ≡ false
      go None = refl
      go (Some t) = refl

  -- with each byte there is one, or with none
  same_stray : (t : Standing) (a b : ℕ) (s : Stmt) → is_some (strays P c i t a s) ≡ is_some (strays P c i t b s)
  same_stray t a b (If (Take pool k)) = refl
  same_stray t a b (Do (Load x d j)) = refl
  same_stray t a b _ = refl

  pub stray_with : (byte : ℕ) (l : Line) → next_line P c i ≡ Some l → is_some (controls_stray P c i 0) ≡ true → IsSome (strays P c i (standing_at c i) byte l.stmt)
  stray_with byte l next h = same_stray (standing_at c i) byte 0 l.stmt ∙ sym (some_stray 0 l next) ∙ h

  -- ---- what it is

  stray_number : (t : Standing) (byte : ℕ) (l : Line) (s : Stmt) → IsSome (strays P c i t byte s) → number_of_event P i l s ≡ l.number
  stray_number t byte l (EndLoop o k) h = absurd (cc)
  stray_number t byte l _ h = refl

  pub stray_made : (j byte : ℕ) (l : Line) (action : Action) (new : Controls) → IsFound c i j → next_line P c i ≡ Some l → IsSome (strays P c i (standing_at c i) byte l.stmt)
      → made P c i (strays P c i (standing_at c i) byte l.stmt) ≡ Some (action, new) → controls_stray P c i byte ≡ Some (ByThread i l.number action, new)
  stray_made j byte l action new f line some m =
      stray_at byte (standing_at c i) l f.found (ap (next_at P i) (sym f.found) ∙ line)
      ∙ ap (as_event P i l) m
      ∙ ap (λ n. Some (ByThread i n action, new)) (stray_number (standing_at c i) byte l l.stmt some)
