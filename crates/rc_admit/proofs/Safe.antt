-- Every world of every weak run is well owned, over any claim of how a thread may stand that has the edge law.
use Rattle.std.proofs.Common.{ℕ, ◌≤◌, List, [], ◌∷◌, subst, sym, inl, inr}
use Rattle.std.specs.Prelude.{ℤ}
use Rattle.rc_lang.specs.Program.{Program}
use Rattle.rc_lang.specs.Kept.{IsProgram}
use Rattle.rc_rules.specs.declared.mode.Mode.{Mode}
use Rattle.rc_rules.specs.Labellings.{Accepts, headers_bag}
use Rattle.rc_rules.specs.Rules.{limit}
use Rattle.rc_split.specs.Bags.{Part, begun}
use Rattle.rc_world.specs.declared.event.Event.{Event}
use Rattle.rc_world.specs.Machine.{World, start_world}
use Rattle.rc_world.specs.Runs.{IsRun, IsSafe, IsStep}
use Rattle.rc_world.specs.WeakRuns.{IsWeakRun, IsWeakStep, IsWeaklySafe}
use Rattle.rc_admit.specs.Laws.{AcceptedIsSafe, AcceptedIsWeaklySafe}
use Rattle.rc_admit.specs.Worlds.{CompletionsAgree, OfAcceptedWorlds}
use Rattle.rc_admit.proofs.Excludes.{no_fault}
use Rattle.rc_admit.proofs.Flat.{labelled_edge}
use Rattle.rc_admit.proofs.FlatPlaces.{Labelled}
use Rattle.rc_admit.proofs.FlatStart.{headers_within, labelled_start}
use Rattle.rc_admit.proofs.Kernel.{AfterStep, kernel_keeps, stray_step_keeps, thread_keeps}
use Rattle.rc_admit.proofs.Owned.{Stand, HasEdge, HasStart, WellOwned}
use Rattle.rc_admit.proofs.Start.{start_has}

-- A claim that the threads begin with and that each of their lines keeps, of headers that give no more than there is.
pub record IsClaim (P : Program) (S : ℕ → (Part → ℕ) → Mode → List ℤ → ℕ → Type 0) : Type 0 where
  pub edge : HasEdge P S
  pub start : HasStart P S
  pub within : (p : Part) → headers_bag (begun P.stock P.threads) p ≤ limit P p

step_keeps : (P : Program) → IsProgram P → (S : Stand) → HasEdge P S → (w after : World) (e : Event) → WellOwned P S w → IsWeakStep w e after → WellOwned P S after
step_keeps P made S edge w after e h s = elim s [
  | inl t ↦ subst (λ x. AfterStep (WellOwned P S) x) t.2 (thread_keeps P made S edge w t.0 t.1 h)
  | inr s ↦ elim s [
    | inl k ↦ subst (λ x. AfterStep (WellOwned P S) x) k.3 (kernel_keeps P S w k.0 k.1 k.2 h)
    | inr t ↦ subst (λ x. AfterStep (WellOwned P S) x) t.3 (stray_step_keeps P made S edge w t.0 t.1 h)
  ]
]

pub run_keeps : (P : Program) → IsProgram P → (S : Stand) → HasEdge P S → (events : List Event) (w after : World) → WellOwned P S w → IsWeakRun w events after → WellOwned P S after
run_keeps P made S edge [] w after h r = subst (λ v. WellOwned P S v) r h
run_keeps P made S edge (e ∷ events) w after h r = run_keeps P made S edge events r.0 after (step_keeps P made S edge w r.0 e h r.1) r.2

-- The worlds of a program with such a claim are well owned, and it is weakly safe.
pub worlds_owned : (P : Program) → IsProgram P → (S : Stand) → IsClaim P S → (events : List Event) (w : World) → IsWeakRun (start_world P) events w → WellOwned P S w
worlds_owned P made S c events w r = run_keeps P made S c.edge events (start_world P) w (start_has P S c.start c.within) r

pub safe_by : (P : Program) → IsProgram P → (S : Stand) → IsClaim P S → IsWeaklySafe P
safe_by P made S c events w r = no_fault P made S c.edge w (worlds_owned P made S c events w r)

-- The labels of an accepted program are such a claim.
pub labelled_claim : (P : Program) → IsProgram P → Accepts P → IsClaim P (Labelled P)
labelled_claim P made a = record { edge = labelled_edge P made; start = labelled_start P made a; within = headers_within P a }

pub accepted_is_weakly_safe : AcceptedIsWeaklySafe
accepted_is_weakly_safe P made a = safe_by P made (Labelled P) (labelled_claim P made a)

-- A run is a weak run.
weak_step : (w after : World) (e : Event) → IsStep w e after → IsWeakStep w e after
weak_step w after e s = elim s.step [ inl t ↦ inl t | inr k ↦ inr (inl k) ]

weak_run : (events : List Event) (w after : World) → IsRun w events after → IsWeakRun w events after
weak_run [] w after r = r
weak_run (e ∷ events) w after r = (r.0, weak_step w r.0 e r.1, weak_run events r.0 after r.2)

pub safe_from_weakly : (P : Program) → IsWeaklySafe P → IsSafe P
safe_from_weakly P safe events w r = safe events w (weak_run events (start_world P) w r)

pub accepted_is_safe : AcceptedIsSafe
accepted_is_safe P made a = safe_from_weakly P (accepted_is_weakly_safe P made a)

-- The completions of an accepted program are those of its completed requests.
pub completions_agree : OfAcceptedWorlds CompletionsAgree
completions_agree P made a events w r = sym (worlds_owned P made (Labelled P) (labelled_claim P made a) events w (weak_run events (start_world P) w r)).2.agree
