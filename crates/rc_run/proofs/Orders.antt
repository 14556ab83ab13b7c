-- In each world of a run the requests that are pending and queued are in the order of their serial numbers, and those
-- that move no bytes ask for none.
use Rattle.std.proofs.Common.{◌≡◌, ℕ, zero, suc, ◌+◌, ◌<◌, ◌≤◌, List, [], ◌∷◌, ◌++◌, append_assoc, map, take, drop, Some, refl, sym, ap, ◌∙◌, subst, inl, inr, arith, ℤ}
use Rattle.std.proofs.lemmas.List.{map-append, take-append-drop}
use Rattle.std.proofs.lemmas.Option.{same_Some}
use Rattle.std.specs.Prelude.{slice_get}
use Rattle.rc_lang.specs.declared.lines.Op.TheVariants.{PrepRead, PrepWrite, PrepFsync, PrepNop, PrepOther}
use Rattle.rc_lang.specs.declared.lines.Stmt.{Stmt}
use Rattle.rc_lang.specs.declared.lines.Stmt.TheVariants.{Do}
use Rattle.rc_lang.specs.declared.request.Request.{Request}
use Rattle.rc_lang.specs.Program.{Program}
use Rattle.rc_world.specs.declared.event.Event.{Event}
use Rattle.rc_world.specs.declared.world.Slot.{Slot}
use Rattle.rc_world.specs.declared.world.Slot.TheVariants.{Closed, Vacant, Prepared}
use Rattle.rc_world.specs.Controls.{Standing}
use Rattle.rc_world.specs.Machine.{Pending, World, hands_over, in_rings, start_world, without}
use Rattle.rc_world.specs.Runs.{IsRun, IsStep}
use Rattle.rc_admit.proofs.Flight.{begun}
use Rattle.rc_run.specs.Calm.{IsPlain}
use Rattle.rc_run.specs.Lives.{IsInOrder}
use Rattle.rc_world.proofs.Cases.{OnSome, in_rings_by, prepared_by}
use Rattle.rc_world.proofs.LawSteps.{stepped, completed}

abbrev requests : List Pending → List Request
requests ps = map (λ (x : Pending). x.request) ps

-- serial numbers from above `low` up to `high`, each greater than the one before it
abbrev Rising : ℕ → List Request → ℕ → Type 0
Rising low [] high = low ≤ high
Rising low (r ∷ rs) high = (low < r.serial) × IsPlain r × Rising r.serial rs high

abbrev SlotIsPlain : Slot → Type 0
SlotIsPlain Closed = Unit {0}
SlotIsPlain Vacant = Unit {0}
SlotIsPlain (Prepared r) = IsPlain r

pub record IsOrderly (w : World) : Type 0 where
  pub slot : SlotIsPlain w.slot
  pub rising : Rising 0 (requests w.pending ++ w.queued) w.made

-- ---- lists that rise

lower : (low lower : ℕ) (rs : List Request) (high : ℕ) → lower ≤ low → Rising low rs high → Rising lower rs high
lower low l [] high le h = omega (arith, h)
lower low l (r ∷ rs) high le h = (omega (arith, h.0), h.1, h.2)

rising_push : (low : ℕ) (rs : List Request) (high : ℕ) (r : Request) → r.serial ≡ high + 1 → IsPlain r → Rising low rs high → Rising low (rs ++ r ∷ []) (high + 1)
rising_push low [] high r e plain h = (omega (arith, h), plain, omega arith)
rising_push low (q ∷ rs) high r e plain h = (h.0, h.1, rising_push q.serial rs high r e plain h.2)

rising_without : (low : ℕ) (k : ℕ) (ps : List Pending) (rs : List Request) (high : ℕ) → Rising low (requests ps ++ rs) high → Rising low (requests (without k ps) ++ rs) high
rising_without low zero [] rs high h = h
rising_without low (suc k) [] rs high h = h
rising_without low zero (p ∷ ps) rs high h = lower p.request.serial low (requests ps ++ rs) high (let lt : low < p.request.serial = h.0 in omega arith) h.2
rising_without low (suc k) (p ∷ ps) rs high h = (h.0, h.1, rising_without p.request.serial k ps rs high h.2)

above : (low : ℕ) (ps : List Pending) (rs : List Request) (high k : ℕ) (q : Pending) → Rising low (requests ps ++ rs) high → slice_get ps k ≡ Some q → low < q.request.serial
above low [] rs high k q h e = absurd (cc)
above low (p ∷ ps) rs high zero q h e = subst (λ (x : Pending). low < x.request.serial) (same_Some _ _ e) h.0
above low (p ∷ ps) rs high (suc k) q h e =
    let up : p.request.serial < q.request.serial = above p.request.serial ps rs high k q h.2 e in
    let lt : low < p.request.serial = h.0 in
    omega arith

in_order : (low : ℕ) (ps : List Pending) (rs : List Request) (high : ℕ) → Rising low (requests ps ++ rs) high → IsInOrder ps
in_order low [] rs high h j k p q lt d e = absurd (cc)
in_order low (x ∷ ps) rs high h zero zero p q lt d e = absurd (omega arith)
in_order low (x ∷ ps) rs high h zero (suc k) p q lt d e = subst (λ (y : Pending). y.request.serial < q.request.serial) (same_Some _ _ d) (above x.request.serial ps rs high k q h.2 e)
in_order low (x ∷ ps) rs high h (suc j) zero p q lt d e = absurd (omega arith)
in_order low (x ∷ ps) rs high h (suc j) (suc k) p q lt d e = in_order x.request.serial ps rs high h.2 j k p q (omega arith) d e

each_plain : (low : ℕ) (ps : List Pending) (rs : List Request) (high k : ℕ) (p : Pending) → Rising low (requests ps ++ rs) high → slice_get ps k ≡ Some p → IsPlain p.request
each_plain low [] rs high k p h e = absurd (cc)
each_plain low (x ∷ ps) rs high zero p h e = subst (λ (y : Pending). IsPlain y.request) (same_Some _ _ e) h.1
each_plain low (x ∷ ps) rs high (suc k) p h e = each_plain x.request.serial ps rs high k p h.2 e

pub orderly_in_order : (w : World) → IsOrderly w → IsInOrder w.pending
orderly_in_order w h = in_order 0 w.pending w.queued w.made h.rising

pub orderly_plain : (w : World) → IsOrderly w → (k : ℕ) (p : Pending) → slice_get w.pending k ≡ Some p → IsPlain p.request
orderly_plain w h k p e = each_plain 0 w.pending w.queued w.made k p h.rising e

-- ---- steps

plain_prepared : (s : Stmt) (r : Request) → prepared_by s ≡ Some r → IsPlain r
plain_prepared (Do (PrepRead fd b len off)) r e = subst IsPlain (same_Some _ _ e) (λ n. absurd (cc))
plain_prepared (Do (PrepWrite fd b len off k)) r e = subst IsPlain (same_Some _ _ e) (λ n. absurd (cc))
plain_prepared (Do (PrepFsync fd datasync)) r e = subst IsPlain (same_Some _ _ e) (λ n. refl)
plain_prepared (Do PrepNop) r e = subst IsPlain (same_Some _ _ e) (λ n. refl)
plain_prepared (Do PrepOther) r e = subst IsPlain (same_Some _ _ e) (λ n. refl)
plain_prepared _ r e = absurd (cc)

module _ (w : World) (h : IsOrderly w) where
  handed : (n : ℕ) → IsOrderly (hands_over w n)
  handed n =
      let b = begun (record w { queued = drop n w.queued }) (take n w.queued) in
      let all : requests (w.pending ++ b.pending) ++ drop n w.queued ≡ requests w.pending ++ w.queued =
      ap (λ rs. rs ++ drop n w.queued) (map-append (λ (x : Pending). x.request) w.pending b.pending ∙ ap (λ rs. requests w.pending ++ rs) b.are)
      ∙ append_assoc (requests w.pending) (take n w.queued) (drop n w.queued)
      ∙ ap (λ rs. requests w.pending ++ rs) (take-append-drop n w.queued)
      in
      subst IsOrderly (sym b.is) (record { slot = h.slot; rising = subst (λ rs. Rising 0 rs w.made) (sym all) h.rising })

  rings_orderly : (t : Standing) (r : ℤ) (s : Stmt) → OnSome IsOrderly (in_rings w t r s)
  rings_orderly t r s = in_rings_by IsOrderly w t r s (record {
    nothing = h;
    bytes = λ b old new e n. record { slot = h.slot; rising = h.rising };
    opens = λ e lt. record { slot = tt; rising = h.rising };
    prepares = λ q e v room. record { slot = plain_prepared s q e; rising = h.rising };
    queues = λ u q e p.
        let new : Request = record q { serial = w.made + 1; user_data = u } in
        record { slot = tt; rising = subst (λ rs. Rising 0 rs (w.made + 1)) (append_assoc (requests w.pending) w.queued (new ∷ [])) (rising_push 0 (requests w.pending ++ w.queued) w.made new refl (subst SlotIsPlain p h.slot) h.rising) };
    submits = handed;
    gets = λ c cs e. record { slot = h.slot; rising = h.rising };
    reaps = λ c cs e. record { slot = h.slot; rising = h.rising };
  })

  step_orderly : (after : World) (e : Event) → IsStep w e after → IsOrderly after
  step_orderly after e q = elim q.step [
    | inl t ↦
        let s = stepped w t.0 t.1 e after t.2 in
        let o : IsOrderly s.rings = subst (OnSome IsOrderly) s.in_the_rings (rings_orderly s.standing t.1 s.line.stmt) in
        subst IsOrderly s.same (record { slot = o.slot; rising = o.rising })
    | inr k ↦
        let c = completed w k.0 k.1 k.2 e after (slice_get w.pending k.0) refl k.3 in
        subst IsOrderly c.same (record { slot = h.slot; rising = rising_without 0 k.0 w.pending w.queued w.made h.rising })
  ]

pub run_orderly : (events : List Event) (w after : World) → IsOrderly w → IsRun w events after → IsOrderly after
run_orderly [] w after h r = subst IsOrderly r h
run_orderly (e ∷ events) w after h r = run_orderly events r.0 after (step_orderly w h r.0 e r.1) r.2

pub start_orderly : (P : Program) → IsOrderly (start_world P)
start_orderly P = record { slot = tt; rising = omega arith }
