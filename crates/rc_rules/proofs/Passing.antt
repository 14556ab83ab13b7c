-- Needs in the order of the numbers of their causes: the first that isn't met is the least premise that fails.
use Rattle.std.proofs.Common.{◌≡◌, ℕ, ◌≤◌, Bool, true, false, List, [], ◌∷◌, Option, Some, None, Result, Ok, Err, length, get_or, refl, sym, subst, arith}
use Rattle.std.specs.Prelude.{is_some}
use Rattle.rc_lang.specs.Program.{Program, Items}
use Rattle.rc_split.specs.Bags.{Part}
use Rattle.rc_rules.specs.declared.needs.Asks.{Asks}
use Rattle.rc_rules.specs.declared.needs.Asks.TheVariants.{SqLock, CqLock, Loop}
use Rattle.rc_rules.specs.declared.cause.Cause.{Cause}
use Rattle.rc_rules.specs.declared.mode.Mode.{Mode}
use Rattle.rc_rules.specs.Needs.{AreOrdered, IsMetNeed, listed}
use Rattle.rc_rules.specs.Causes.{premise_number}
use Rattle.rc_rules.specs.Premises.{Premise, Is, IsMet, MeetsBelow, FailsFirst, IsFrom, Tests}
use Rattle.rc_rules.specs.Rules.{then_asked, premises_of, with_lock}

none_below : (n : ℕ) (ps : List (ℕ × Premise)) → IsFrom n ps → MeetsBelow n ps
none_below n [] h = tt
none_below n (p ∷ ps) h = (λ lt. absurd (omega (arith, h.0, lt)), none_below n ps h.1)

stops : (n : ℕ) (x : Premise) (ps : List (ℕ × Premise)) → (IsMet x → ⊥) → IsFrom n ps → FailsFirst n ((n, x) ∷ ps)
stops n x ps h f = record { below = (λ lt. absurd (omega (arith, lt)), none_below n ps f); fails = λ m. h (m.0 (omega arith)) }

stops_twice : (n : ℕ) (x y : Premise) (ps : List (ℕ × Premise)) → (IsMet x × IsMet y → ⊥) → IsFrom n ps → FailsFirst n ((n, x) ∷ (n, y) ∷ ps)
stops_twice n x y ps h f = record { below = (λ lt. absurd (omega (arith, lt)), (λ lt. absurd (omega (arith, lt)), none_below n ps f)); fails = λ m. h (m.0 (omega arith), m.1.0 (omega arith)) }

goes_on : {X : Type 0} (r : Result X Cause) (n : ℕ) (x : Premise) (ps : List (ℕ × Premise)) → IsMet x → Tests r ps → Tests r ((n, x) ∷ ps)
goes_on (Ok y) n x ps h t = (h, t)
goes_on (Err c) n x ps h t = record { below = (λ lt. h, t.below); fails = λ m. t.fails m.1 }

-- ---- a lock

lock_from : {A : Type 0} (n v : ℕ) (o : Option A) (F : A → List (ℕ × Premise)) → n ≤ v → ((s : A) → IsFrom n (F s)) → IsFrom n (with_lock v o F)
lock_from n v None F l h = (l, tt)
lock_from n v (Some s) F l h = h s

lock_unmet : {A : Type 0} (v : ℕ) (o : Option A) (F : A → List (ℕ × Premise)) → (is_some o ≡ true → ⊥) → FailsFirst v (with_lock v o F)
lock_unmet v None F h = stops v (Is false) [] (λ e. cc) tt
lock_unmet v (Some s) F h = absurd (h refl)

lock_met : {A X : Type 0} (v : ℕ) (o : Option A) (F : Option A → List (ℕ × Premise)) (r : Result X Cause) → is_some o ≡ true → Tests r (F o) → Tests r (with_lock v o (λ s. F (Some s)))
lock_met v None F r e t = absurd (cc)
lock_met v (Some s) F r e t = t

-- ---- needs

module _ (P : Program) (lists : List Items) (z : Bool) (bag : Part → ℕ) where
  from_asked : (m : Mode) (n v : ℕ) (a : Asks) (rest : Mode → List (ℕ × Premise)) → n ≤ v → ((k : Mode) → IsFrom n (rest k)) → IsFrom n (then_asked P lists z bag m v a rest)
  from_asked m n v SqLock rest l h = lock_from n v m.sq _ l (λ s. h (record m { sq = Some s }))
  from_asked m n v CqLock rest l h = lock_from n v m.cq _ l (λ p. h (record m { cq = Some p }))
  from_asked m n v (Loop k) rest l h = (l, (l, h m))
  from_asked m n v _ rest l h = (l, h m)

  pub from_ordered : (m : Mode) (n v : ℕ) (needs : List (Cause × Asks)) → n ≤ v → AreOrdered v needs → IsFrom n (premises_of P lists z bag m needs)
  from_ordered m n v [] l h = tt
  from_ordered m n v (need ∷ needs) l h = from_asked m n (premise_number need.0) need.1 (λ k. premises_of P lists z bag k needs) (omega (arith, l, h.0)) (λ k. from_ordered k n (premise_number need.0) needs (omega (arith, l, h.0)) h.1)

  unmet_asked : (m : Mode) (v : ℕ) (a : Asks) (rest : Mode → List (ℕ × Premise)) → (IsMetNeed P lists z bag m a → ⊥) → ((k : Mode) → IsFrom v (rest k)) → FailsFirst v (then_asked P lists z bag m v a rest)
  unmet_asked m v SqLock rest h f = lock_unmet v m.sq _ (λ e. h (refl, e))
  unmet_asked m v CqLock rest h f = lock_unmet v m.cq _ (λ e. h (refl, e))
  unmet_asked m v (Loop k) rest h f = stops_twice v _ _ (rest m) h (f m)
  unmet_asked m v _ rest h f = stops v _ (rest m) (λ e. h (refl, e)) (f m)

  met_asked : {X : Type 0} (m : Mode) (v : ℕ) (a : Asks) (rest : Mode → List (ℕ × Premise)) (r : Result X Cause) → IsMetNeed P lists z bag m a → Tests r (rest m) → Tests r (then_asked P lists z bag m v a rest)
  met_asked m v SqLock rest r h t = lock_met v m.sq (λ o. rest (record m { sq = o })) r h.1 t
  met_asked m v CqLock rest r h t = lock_met v m.cq (λ o. rest (record m { cq = o })) r h.1 t
  met_asked m v (Loop k) rest r h t = goes_on r v _ _ h.0 (goes_on r v _ (rest m) h.1 t)
  met_asked m v _ rest r h t = goes_on r v _ (rest m) h.1 t

  pub unmet : (m : Mode) (v : ℕ) (need : Cause × Asks) (needs : List (Cause × Asks)) → AreOrdered v (need ∷ needs) → (IsMetNeed P lists z bag m need.1 → ⊥) → FailsFirst (premise_number need.0) (premises_of P lists z bag m (need ∷ needs))
  unmet m v need needs h u = unmet_asked m (premise_number need.0) need.1 (λ k. premises_of P lists z bag k needs) u (λ k. from_ordered k (premise_number need.0) (premise_number need.0) needs (omega arith) h.1)

  pub first_unmet : (m : Mode) (v : ℕ) (xs : List (Option (Cause × Asks))) (d : Option (Cause × Asks)) (need : Cause × Asks) → 1 ≤ length xs → get_or xs 0 d ≡ Some need → AreOrdered v (listed xs) → (IsMetNeed P lists z bag m need.1 → ⊥) → FailsFirst (premise_number need.0) (premises_of P lists z bag m (listed xs))
  first_unmet m v [] d need l e h u = absurd (omega (arith, l))
  first_unmet m v (x ∷ xs) d need l e h u = subst (λ y. AreOrdered v (listed (y ∷ xs)) → FailsFirst (premise_number need.0) (premises_of P lists z bag m (listed (y ∷ xs)))) (sym e) (λ r. unmet m v need (listed xs) r u) h

  pub met : {X : Type 0} (m : Mode) (need : Cause × Asks) (needs : List (Cause × Asks)) (r : Result X Cause) → IsMetNeed P lists z bag m need.1 → Tests r (premises_of P lists z bag m needs) → Tests r (premises_of P lists z bag m (need ∷ needs))
  met m need needs r h t = met_asked m (premise_number need.0) need.1 (λ k. premises_of P lists z bag k needs) r h t
