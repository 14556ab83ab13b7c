-- Hidden steps and lines, joined.
use Rattle.std.proofs.Common.{◌≡◌, ℕ, List, [], ◌∷◌, ◌++◌, Some, refl, sym, subst, inl, inr}
use Rattle.rc_lang.specs.Program.{Program}
use Rattle.rc_log.specs.declared.call.Call.{Call}
use Rattle.rc_log.specs.declared.call.Said.{Said}
use Rattle.rc_world.specs.declared.event.Event.{Event}
use Rattle.rc_world.specs.Machine.{World}
use Rattle.rc_world.specs.WeakRuns.{IsWeakRun}
use Rattle.rc_follow.specs.Followed.{Goes, Hides, Noted, Says, noted_line}

pub hides_join : (n : Noted) (w v u : World) (es ds : List Event) → Hides n w es v → Hides n v ds u → Hides n w (es ++ ds) u
hides_join n w v u [] ds h k = subst (λ x. Hides n x ds u) (sym h) k
hides_join n w v u (e ∷ es) ds h k = (h.0, h.1, h.2, hides_join n h.0 v u es ds h.3 k)

-- ---- and as weak runs

weak_join : (w v u : World) (es ds : List Event) → IsWeakRun w es v → IsWeakRun v ds u → IsWeakRun w (es ++ ds) u
weak_join w v u [] ds h k = subst (λ x. IsWeakRun x ds u) (sym h) k
weak_join w v u (e ∷ es) ds h k = (h.0, h.1, weak_join h.0 v u es ds h.2 k)

hides_weak : (n : Noted) (w v : World) (es : List Event) → Hides n w es v → IsWeakRun w es v
hides_weak n w v [] h = h
hides_weak n w v (e ∷ es) h = (h.0, h.1, hides_weak n h.0 v es h.3)

says_weak : (P : Program) (n : Noted) (w v : World) (i : ℕ) (call : Call) → Says P n w i call v → (es : List Event) × IsWeakRun w es v
says_weak P n w v i call s = elim s [
  | inl c ↦ (c.0 ∷ [], (v, c.1, refl))
  | inr a ↦ ([], a.1)
]

pub goes_weak : (P : Program) (n : Noted) (w v : World) (ls : List Said) → Goes P n w ls v → (es : List Event) × IsWeakRun w es v
goes_weak P n w v [] g = (g.0, hides_weak n w v g.0 g.1)
goes_weak P n w v (l ∷ ls) g =
    let said : (es : List Event) × IsWeakRun g.1 es g.5 = says_weak P n g.1 g.5 g.3 l.call g.6 in
    let rest : (es : List Event) × IsWeakRun g.5 es v = goes_weak P (noted_line P n l) g.5 v ls g.7 in
    (g.0 ++ (said.0 ++ rest.0), weak_join w g.1 v g.0 (said.0 ++ rest.0) (hides_weak n w g.1 g.0 g.2) (weak_join g.1 g.5 v said.0 rest.0 said.1 rest.1))
