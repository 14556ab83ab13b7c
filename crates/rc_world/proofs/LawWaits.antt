-- Who holds a lock goes on, and so no threads wait for each other.
use Rattle.std.proofs.Common.{◌≡◌, ℕ, ◌<◌, Bool, true, false, ◌&&◌, length, Option, Some, None, refl, sym, ap, ◌∙◌, slice_get, inl, inr, arith, eq-eqb, []}
use Rattle.rc_lang.specs.declared.lines.Locks.{Locks}
use Rattle.rc_lang.specs.declared.lines.Stmt.TheVariants.{Lock}
use Rattle.rc_lang.specs.Locks.{no_lock}
use Rattle.rc_lang.specs.Nesting.{blocks_at, breaks_order, locks_in}
use Rattle.rc_lang.specs.Program.{Program, Thread, lines_in, lines_of, stmt_at}
use Rattle.rc_lang.specs.Kept.{IsProgram}
use Rattle.rc_lang.proofs.Fitting.{no_cq_in_cq, none_in_sq}
use Rattle.rc_lang.proofs.Lookups.{nested_here}
use Rattle.rc_lang.proofs.Reading.{stmt_alone}
use Rattle.rc_lang.proofs.Rests.{laid_in}
use Rattle.rc_world.specs.Controls.{Standing, are_free, is_free, next_at}
use Rattle.rc_world.specs.Faults.{is_holder}
use Rattle.rc_world.specs.Laws.{GoesOn, HasStep, HoldsLock, IsAtEnd, NoDeadlock, WaitsForLock}
use Rattle.rc_world.specs.Machine.{World, start_world}
use Rattle.rc_world.proofs.LawGoes.{threads_go}
use Rattle.rc_world.proofs.LawLists.{get_at}
use Rattle.rc_world.proofs.LawRuns.{IsSound, run_sound, sound_at_start}
use Rattle.rc_world.proofs.LawLocks.{Fits, fits_at_start, held, locks_at, run_fits}

-- no lock that is free is taken
free_none : (a : Bool) → is_free a None ≡ true
free_none true = refl
free_none false = refl

-- at the end no block is open
closed_at_end : (P : Program) → IsProgram P → (i : ℕ) → blocks_at (lines_of P i) (length (lines_of P i)) ≡ []
closed_at_end P made i = go (slice_get P.threads i) refl
  where
    go : (o : Option Thread) → slice_get P.threads i ≡ o → blocks_at (lines_in o) (length (lines_in o)) ≡ []
    go None e = refl
    go (Some t) e = (made.each i t e).nested.closed

module _ (w : World) (made : IsProgram w.program) (f : Fits w) (j : ℕ) (t : Standing) (e : slice_get w.controls.threads j ≡ Some t) where
  open_here : locks_at w.program j t.place ≡ held w.controls.holders j
  open_here = f.each j t e

  has_own : (o : Option ℕ) → o ≡ Some j → is_holder o j ≡ true
  has_own o q = ap (λ x. is_holder x j) q ∙ eq-eqb j j refl

  at_end : IsAtEnd w j → held w.controls.holders j ≡ no_lock
  at_end z = sym (f.each j z.0 z.1) ∙ ap (λ k. locks_at w.program j k) z.2 ∙ ap locks_in (closed_at_end w.program made j)

  order : (z : WaitsForLock w j) → breaks_order (blocks_at (lines_of w.program j) t.place) z.1 ≡ false
  order z =
      let here : stmt_at (lines_of w.program j) t.place ≡ Some (Lock z.1) = stmt_alone w.program made j t.variables t.place z.0 (sym (ap (next_at w.program j) e) ∙ z.2) ∙ ap Some z.3 in
      (nested_here (lines_of w.program j) (laid_in w.program made j).each t.place (Lock z.1) here).0

  -- who has the submission side wants no lock
  sq_goes : w.controls.holders.sq ≡ Some j → GoesOn w j → HasStep w j
  sq_goes q (inl z) = let a : true ≡ false = sym (has_own w.controls.holders.sq q) ∙ ap (λ (l : Locks). l.sq) (at_end z) in absurd (cc)
  sq_goes q (inr (inl z)) =
      let taken : (locks_at w.program j t.place).sq ≡ true = ap (λ (l : Locks). l.sq) open_here ∙ has_own w.controls.holders.sq q in
      let none : z.1 ≡ no_lock = none_in_sq (blocks_at (lines_of w.program j) t.place) z.1 (order z) taken in
      let free : are_free z.1 w.controls.holders ≡ true = ap (λ (l : Locks). are_free l w.controls.holders) none in
      absurd (cc (free, z.4))
  sq_goes q (inr (inr step)) = step

  -- and who has the completion side at most that of the submission side, which is free
  cq_goes : w.controls.holders.sq ≡ None → w.controls.holders.cq ≡ Some j → GoesOn w j → HasStep w j
  cq_goes s q (inl z) = let a : true ≡ false = sym (has_own w.controls.holders.cq q) ∙ ap (λ (l : Locks). l.cq) (at_end z) in absurd (cc)
  cq_goes s q (inr (inl z)) =
      let taken : (locks_at w.program j t.place).cq ≡ true = ap (λ (l : Locks). l.cq) open_here ∙ has_own w.controls.holders.cq q in
      let none : z.1.cq ≡ false = no_cq_in_cq (blocks_at (lines_of w.program j) t.place) z.1 (order z) taken in
      let free : are_free z.1 w.controls.holders ≡ true =
      ap (λ b. is_free z.1.sq w.controls.holders.sq && is_free b w.controls.holders.cq) none
      ∙ ap (λ o. is_free z.1.sq o && true) s
      ∙ ap (λ b. b && true) (free_none z.1.sq) in
      absurd (cc (free, z.4))
  cq_goes s q (inr (inr step)) = step

pub none_deadlocked : NoDeadlock
none_deadlocked program events w i made run safe z = go w.controls.holders.sq refl w.controls.holders.cq refl
  where
    sound : IsSound program w
    sound = run_sound program events (start_world program) w (sound_at_start program made) run

    fits : Fits w
    fits = run_fits program events (start_world program) w (sound_at_start program made) (fits_at_start program) run

    goes : (j : ℕ) → j < length w.controls.threads → GoesOn w j
    goes j lt =
        let many : length w.controls.threads ≡ length program.threads = sound.rest.as_many ∙ ap (λ (p : Program). length p.threads) sound.same in
        threads_go program w safe sound j (omega arith)

    go : (s : Option ℕ) → w.controls.holders.sq ≡ s → (c : Option ℕ) → w.controls.holders.cq ≡ c → (j : ℕ) × HoldsLock w j × HasStep w j
    go (Some j) a c b =
        let lt : j < length w.controls.threads = fits.sq j a in
        let t = get_at w.controls.threads j lt in
        (j, inl a, sq_goes w sound.kept.made fits j t.0 t.1 a (goes j lt))
    go None a (Some j) b =
        let lt : j < length w.controls.threads = fits.cq j b in
        let t = get_at w.controls.threads j lt in
        (j, inr b, cq_goes w sound.kept.made fits j t.0 t.1 a b (goes j lt))
    go None a None b =
        let free : are_free z.1 w.controls.holders ≡ true =
        ap (λ o. is_free z.1.sq o && is_free z.1.cq w.controls.holders.cq) a
        ∙ ap (λ x. x && is_free z.1.cq w.controls.holders.cq) (free_none z.1.sq)
        ∙ ap (is_free z.1.cq) b
        ∙ free_none z.1.cq in
        absurd (cc (free, z.4))
