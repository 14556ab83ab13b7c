-- A lock that is taken, and one that is released.
use Rattle.std.proofs.Common.{ℕ, ◌≡◌, Bool, true, false, if◌then◌else◌, Some, None, IsSome, sym, ap, ◌∙◌}
use Rattle.rc_lang.specs.declared.lines.Locks.{Locks}
use Rattle.rc_lang.specs.Program.{Program}
use Rattle.rc_world.specs.declared.controls.Answer.{Answer}
use Rattle.rc_world.specs.declared.event.Action.{Action}
use Rattle.rc_world.specs.declared.event.Action.TheVariants.{Locked, Released}
use Rattle.rc_world.specs.Changes.{standing_at, with_holders}
use Rattle.rc_world.specs.Controls.{Controls, Move, are_free, goes_on, held_by, locks, made, plainly, releases_locks, takes_locks}
use Rattle.rc_world.proofs.Pooling.{plain_some}

free_some : (free : Bool) (m : Move) (a : Answer) → IsSome (if free then plainly m a else None) → (if free then plainly m a else None) ≡ Some m
free_some true m a h = plain_some m a h
free_some false m a h = absurd (cc)

module _ (P : Program) (c : Controls) (i : ℕ) (a : Answer) where
  -- The thread goes on, in controls with other holders.
  goes_with : (d : Controls) (action : Action) (e : Controls) → e ≡ d → made P d i (Some (goes_on d (standing_at d i) action)) ≡ made P e i (Some (goes_on e (standing_at e i) action))
  goes_with d action e q = ap (λ (k : Controls). made P k i (Some (goes_on k (standing_at k i) action))) (sym q)

  pub locks_is : (wanted : Locks) → IsSome (locks c i (standing_at c i) wanted a) → (d : Controls) → d ≡ with_holders c (held_by (Some i) wanted c.holders)
      → made P c i (locks c i (standing_at c i) wanted a) ≡ made P d i (Some (goes_on d (standing_at d i) (Locked wanted)))
  locks_is wanted some d e =
      ap (made P c i) (free_some (are_free wanted c.holders) (takes_locks c i (standing_at c i) wanted) a some)
      ∙ goes_with (with_holders c (held_by (Some i) wanted c.holders)) (Locked wanted) d e

  pub releases_is : (released : Locks) → IsSome (plainly (releases_locks c (standing_at c i) released) a) → (d : Controls) → d ≡ with_holders c (held_by None released c.holders)
      → made P c i (plainly (releases_locks c (standing_at c i) released) a) ≡ made P d i (Some (goes_on d (standing_at d i) (Released released)))
  releases_is released some d e =
      ap (made P c i) (plain_some (releases_locks c (standing_at c i) released) a some)
      ∙ goes_with (with_holders c (held_by None released c.holders)) (Released released) d e
