-- Loops, their ends and their breaks.
use Rattle.std.proofs.Common.{◌≡◌, ℕ, zero, suc, ◌+◌, ◌<◌, ◌≤◌, Bool, true, false, cond, nat_eq, List, [], ◌∷◌, ◌++◌, drop, length, length-append, take, Option, Some, Result, Ok, Err, refl, sym, ap, subst, ◌∙◌, arith, slice_get}
use Rattle.std.specs.Prelude.{IsSome, OnOk}
use Rattle.std.proofs.lemmas.Bool.{eqb-true}
use Rattle.rc_lang.specs.declared.lines.Block.{Block}
use Rattle.rc_lang.specs.declared.lines.Block.TheVariants.{InLock, InIf, InElse, InPeek, InArm, InLoop}
use Rattle.rc_lang.specs.declared.lines.Line.{Line}
use Rattle.rc_lang.specs.declared.lines.Locks.{Locks}
use Rattle.rc_lang.specs.declared.lines.Stmt.{Stmt}
use Rattle.rc_lang.specs.declared.lines.Stmt.TheVariants.{Loop, EndLoop, Break}
use Rattle.rc_lang.specs.Nesting.{blocks_at, locks_in}
use Rattle.rc_lang.specs.Program.{Items, Program, Thread, items_at, no_items, stmt_at, stmt_of}
use Rattle.rc_lang.specs.Kept.{IsList}
use Rattle.rc_lang.proofs.Closing.{closes_loop, in_loop, leaves_loop}
use Rattle.rc_lang.proofs.Lookups.{blocks_next}
use Rattle.rc_lang.proofs.Placed.{EachPlaced}
use Rattle.rc_rules.specs.declared.cause.Cause.{Cause}
use Rattle.rc_rules.specs.Causes.{premise_number}
use Rattle.rc_rules.specs.Labels.{Label, Dead, IsStrongest}
use Rattle.rc_rules.specs.Labellings.{break_end, break_ends, here, label_at}
use Rattle.rc_rules.specs.Premises.{Premise}
use Rattle.rc_rules.specs.Rules.{asked, broken, top}
use Rattle.rc_rules.specs.Sides.{Sides, brings, forgets, on, turns}
use Rattle.rc_rules.specs.States.{State, Gives, IsOfSame, OnBoth, label_of, program_of, sides_of}
use Rattle.rc_verify.specs.declared.walk.Walk.{Walk}
use Rattle.rc_verify.specs.Stack.{last_of, rest_of}
use Rattle.rc_verify.specs.Loops.{ClosesLoop, KeepsDead}
use Rattle.rc_verify.specs.Walk.{AreKept, Fits, IsClosed, IsLoop, OnKept, PassesLine, Reaches, branch_place, loop_place, most_at, peek_place, places}
use Rattle.rc_verify.proofs.Branching.{on_ok}
use Rattle.rc_verify.proofs.Fit.{brings_fit, fits_more, strongest_fits, top_fits}
use Rattle.rc_verify.proofs.Keeping.{KeepsLast, few_loops, few_places, keep_more, kept_length, last_kept, nothing_more, places_pushed, pushed_none, same_last, some_last}
use Rattle.rc_verify.proofs.Peeking.{dead_fits, dead_strongest}
use Rattle.rc_verify.proofs.Plainly.{branches_same, fits_behind, fits_known, opens_none, peek_same}
use Rattle.rc_verify.proofs.Standing.{asked_at, breaks_next, here_is, loops_stay, of_same, onward, passes, refused, seen_at, took}
use Rattle.rc_verify.proofs.Strongest.{get_front}

-- ---- lists

no_break : (s : Stmt) (o : ℕ) (x : Label) → ((releases : Locks) (leaves : Bool) → s ≡ Break o releases leaves → ⊥) → break_end s o x ≡ []
no_break (Break p releases leaves) o x n = go (nat_eq p o) refl
  where
    go : (b : Bool) → nat_eq p o ≡ b → cond b (broken releases x ∷ []) [] ≡ []
    go true e = absurd (n releases leaves (ap (λ q. Break q releases leaves) (eqb-true p o e)))
    go false e = refl
no_break _ o x n = refl

no_breaks : (lines : List Line) (labels : List Sides) (o : ℕ) (z : Bool) → ((k : ℕ) (l : Line) → slice_get lines k ≡ Some l → (releases : Locks) (leaves : Bool) → l.stmt ≡ Break o releases leaves → ⊥) → break_ends lines labels o z ≡ []
no_breaks [] labels o z n = refl
no_breaks (l ∷ lines) labels o z n = ap (λ xs. xs ++ break_ends lines (drop 1 labels) o z) (no_break l.stmt o (label_at labels 0 z) (n 0 l refl)) ∙ no_breaks lines (drop 1 labels) o z (λ k m e. n (suc k) m e)

pub no_loop_places : (bs : List Block) → in_loop bs ≡ false → places loop_place bs ≡ []
no_loop_places [] e = refl
no_loop_places (InLock o l ∷ bs) e = no_loop_places bs e
no_loop_places (InIf o ∷ bs) e = no_loop_places bs e
no_loop_places (InElse o ∷ bs) e = no_loop_places bs e
no_loop_places (InPeek o ∷ bs) e = no_loop_places bs e
no_loop_places (InArm o ∷ bs) e = no_loop_places bs e
no_loop_places (InLoop o k ∷ bs) e = absurd (cc)

-- A loop that is open is before.
pub loops_before : (lines : List Line) (j : ℕ) (outer bs : List Block) → EachPlaced lines j outer bs → (k o : ℕ) → slice_get (places loop_place bs) k ≡ Some o → o < j
loops_before lines j outer [] h k o e = absurd (cc)
loops_before lines j outer (InLock p l ∷ bs) h k o e = loops_before lines j (outer ++ InLock p l ∷ []) bs h.1 k o e
loops_before lines j outer (InIf p ∷ bs) h k o e = loops_before lines j (outer ++ InIf p ∷ []) bs h.1 k o e
loops_before lines j outer (InElse p ∷ bs) h k o e = loops_before lines j (outer ++ InElse p ∷ []) bs h.1 k o e
loops_before lines j outer (InPeek p ∷ bs) h k o e = loops_before lines j (outer ++ InPeek p ∷ []) bs h.1 k o e
loops_before lines j outer (InArm p ∷ bs) h k o e = loops_before lines j (outer ++ InArm p ∷ []) bs h.1 k o e
loops_before lines j outer (InLoop p n ∷ bs) h zero o e = let q : p ≡ o = cc in subst (λ x. x < j) q h.0.before
loops_before lines j outer (InLoop p n ∷ bs) h (suc k) o e = loops_before lines j (outer ++ InLoop p n ∷ []) bs h.1 k o e

dead_closed : (s : Label) → s ≡ Dead → IsClosed s
dead_closed s e = subst (λ z. IsClosed z) (sym e) tt

module _ (P : Program) (t : Thread) (j : ℕ) (w : Walk) (r : Reaches P t j w) where
  few_loops_kept : length w.loops ≤ length (blocks_at t.lines j)
  few_loops_kept = omega (arith, kept_length (OnKept (IsLoop P t j r.labels)) (places loop_place (blocks_at t.lines j)) w.loops r.at.keeps.loops, few_places loop_place few_loops (blocks_at t.lines j))

  -- ---- where a loop begins

  pub loop_room : (k : ℕ) → stmt_at t.lines j ≡ Some (Loop k) → length w.loops < 31
  loop_room k e =
      let n : length (blocks_at t.lines (j + 1)) ≡ length (blocks_at t.lines j ++ InLoop j k ∷ []) = ap length (blocks_next t.lines j (Loop k) e) in
      omega (arith, n, length-append (blocks_at t.lines j) (InLoop j k ∷ []), few_loops_kept, r.thread.nested.depth (j + 1))

  loop_items : (k : ℕ) → k < length t.lists → IsList P (items_at t.lists k)
  loop_items k lt = r.thread.lists k no_items lt

  pub loop_list : (k : ℕ) (items : Items) → k < length t.lists → items ≡ items_at t.lists k → IsList (program_of w.state) items
  loop_list k items lt q = subst (λ (p : Program). IsList p items) (sym r.at.here.of.program) (subst (λ (i : Items). IsList P i) (sym q) (loop_items k lt))

  none_broken : (k : ℕ) (new : Sides) (z : Bool) → stmt_at t.lines j ≡ Some (Loop k) → break_ends (take (j + 1) t.lines) (r.labels ++ new ∷ []) j z ≡ []
  none_broken k new z e = breaks_next P t j w r (Loop k) e new j z ∙ nothing_more (break_ends (take j t.lines) r.labels j z) ∙ no_breaks (take j t.lines) r.labels j z before
    where
      before : (i : ℕ) (l : Line) → slice_get (take j t.lines) i ≡ Some l → (releases : Locks) (leaves : Bool) → l.stmt ≡ Break j releases leaves → ⊥
      before i l is releases leaves f =
          let h = get_front t.lines j i l is in
          let at : stmt_at t.lines i ≡ Some (Break j releases leaves) = ap stmt_of h.0 ∙ ap Some f in
          let c = leaves_loop t.lines r.thread.nested.each i j releases leaves at in
          let lt : j < i = c.before in
          omega (arith, lt, h.1)

  begun : (k : ℕ) (s : State) (new : Sides) → stmt_at t.lines j ≡ Some (Loop k) → OnBoth (λ x. x ≡ Dead) s → IsOfSame s w.state → IsLoop P t (j + 1) (r.labels ++ new ∷ []) j s
  begun k s new e d p = record {
    breaks = record {
      of = of_same P t s w.state r.at.here.of p;
      strongest = λ z. subst (λ xs. IsStrongest (label_of s z) xs) (sym (none_broken k new z e)) (dead_strongest (label_of s z) (d z));
      fits = λ z. dead_fits (locks_in (blocks_at t.lines j)) (most_at (j + 1)) (label_of s z) (d z);
    };
    closed = λ z. dead_closed (label_of s z) (d z);
  }

  -- what the rule of a loop gives, with these items
  abbrev pub Loops : {X : Type 0} → Items → State → Result X Cause → Type 0
  Loops items new x = Gives w.state new x (asked (program_of w.state) (items ∷ []) (label_of w.state) (Loop 0)) (λ z. brings (λ y. turns (forgets w.state.flag) y z) (λ s. top (program_of w.state) items z s) (label_of w.state))

  pub loop_passes : {X : Type 0} (k : ℕ) (items : Items) (new : State) (kept : List (Option State)) (x : Result X Cause) → stmt_at t.lines j ≡ Some (Loop k) → items ≡ items_at t.lists k → Loops items new x → OnOk x (KeepsDead w.state w.loops kept) → PassesLine P t j (record { state = new; branches = w.branches; peek = w.peek; loops = kept }) x
  loop_passes k items new kept x e q g d =
      let w' : Walk = record { state = new; branches = w.branches; peek = w.peek; loops = kept } in
      let i = items_at t.lists k in
      let g' : Loops i new x = subst (λ (y : Items). Loops y new x) q g in
      let F : Program → Option ℕ → Sides → List (ℕ × Premise) = λ p f l. asked p (i ∷ []) (λ z. on z l) (Loop 0) in
      let B : Program → Option ℕ → Sides → Bool → List Label = λ p f l z. brings (λ y. turns (forgets f) y z) (λ s. top p i z s) (λ y. on y l) in
      let gave = took P t w.state new (seen_at t j r.labels) x F B r.at.here.of (here_is P t j w r (Loop k) e) g' in
      let bs = blocks_at t.lines j in
      let n : blocks_at t.lines (j + 1) ≡ bs ++ InLoop j k ∷ [] = blocks_next t.lines j (Loop k) e in
      let same = opens_none t j bs (InLoop j k) refl n in
      let lt : k < length t.lists = r.thread.resolved j (Loop k) e in
      let f : (z y : Bool) → Fits (locks_in bs) (most_at j + 18) (top P i z (here (take j t.lines) r.labels y)) = λ z y. top_fits P i z (locks_in bs) (most_at j) (most_at j + 18) _ (loop_items k lt) (omega arith) (fits_known P t j w r (Loop k) e y) in
      passes P t j w r (Loop k) e w' x gave
      (λ b z. fits_behind P t j w r (Loop k) e (label_of new z) (strongest_fits (locks_in bs) (most_at j + 18) (label_of new z) _ (brings_fit (λ y. turns (forgets t.flag) y z) (λ s. top P i z s) (here (take j t.lines) r.labels) (locks_in bs) (most_at j + 18) (f z)) (b z)))
      (λ y p. record {
        branches = branches_same P t j w r (Loop k) e (sides_of new) (same branch_place refl);
        peek = peek_same P t j w r (Loop k) e (sides_of new) (λ o z. refl) (same peek_place refl);
        loops = grown new kept n (on_ok (KeepsDead w.state w.loops kept) x y d p);
      })
    where
      grown : (new : State) (kept : List (Option State)) → blocks_at t.lines (j + 1) ≡ blocks_at t.lines j ++ InLoop j k ∷ [] → KeepsDead w.state w.loops kept → AreKept (OnKept (IsLoop P t (j + 1) (r.labels ++ sides_of new ∷ []))) (places loop_place (blocks_at t.lines (j + 1))) kept
      grown new kept n d =
          let R = OnKept (IsLoop P t (j + 1) (r.labels ++ sides_of new ∷ [])) in
          let more = keep_more R (places loop_place (blocks_at t.lines j)) w.loops j (Some d.state) (loops_stay P t j w r (Loop k) e (sides_of new) (λ o z. refl) (places loop_place (blocks_at t.lines j)) w.loops r.at.keeps.loops) (begun k d.state (sides_of new) e d.dead d.of) in
          subst (λ os. AreKept R os kept) (sym (ap (places loop_place) n ∙ places_pushed loop_place (blocks_at t.lines j) (InLoop j k))) (subst (λ xs. AreKept R (places loop_place (blocks_at t.lines j) ++ j ∷ []) xs) (sym d.kept) more)

  -- ---- where it ends

  end_kept : (o k : ℕ) → stmt_at t.lines j ≡ Some (EndLoop o k) → KeepsLast (IsLoop P t j r.labels) (places loop_place (blocks_at t.lines o)) o w.loops
  end_kept o k e =
      let c = closes_loop t.lines r.thread.nested.each j o k e in
      last_kept (IsLoop P t j r.labels) (places loop_place (blocks_at t.lines o)) o w.loops (subst (λ os. AreKept (OnKept (IsLoop P t j r.labels)) os w.loops) (ap (places loop_place) c.within ∙ places_pushed loop_place (blocks_at t.lines o) (InLoop o k)) r.at.keeps.loops)

  pub end_loop_some : (o k : ℕ) → stmt_at t.lines j ≡ Some (EndLoop o k) → IsSome (last_of w.loops)
  end_loop_some o k e = some_last (IsLoop P t j r.labels) _ o w.loops (end_kept o k e)

  pub end_loop_passes : {X : Type 0} (o k : ℕ) (items : Items) (new : State) (kept : List (Option State)) (x : Result X Cause) → stmt_at t.lines j ≡ Some (EndLoop o k) → items ≡ items_at t.lists k → ClosesLoop (asked (program_of w.state) (items ∷ []) (label_of w.state) (EndLoop 0 0)) w.loops kept new x → PassesLine P t j (record { state = new; branches = w.branches; peek = w.peek; loops = kept }) x
  end_loop_passes o k items new kept x e q g = go x (subst (λ ps. ClosesLoop ps w.loops kept new x) same_asked g)
    where
      same_asked : asked (program_of w.state) (items ∷ []) (label_of w.state) (EndLoop 0 0) ≡ asked_at P t j r.labels (EndLoop o k)
      same_asked =
          ap (λ (i : Items). asked (program_of w.state) (i ∷ []) (label_of w.state) (EndLoop 0 0)) q
          ∙ ap (λ (p : Program). asked p (items_at t.lists k ∷ []) (label_of w.state) (EndLoop 0 0)) r.at.here.of.program
          ∙ ap (λ (l : Sides). asked P (items_at t.lists k ∷ []) (λ z. on z l) (EndLoop 0 0)) (here_is P t j w r (EndLoop o k) e)

      same : (f : Block → List ℕ) → f (InLoop o k) ≡ [] → places f (blocks_at t.lines (j + 1)) ≡ places f (blocks_at t.lines j)
      same f n = let c = closes_loop t.lines r.thread.nested.each j o k e in ap (places f) c.behind ∙ sym (ap (places f) c.within ∙ pushed_none f (blocks_at t.lines o) (InLoop o k) n)

      go : {X : Type 0} (x : Result X Cause) → ClosesLoop (asked_at P t j r.labels (EndLoop o k)) w.loops kept new x → PassesLine P t j (record { state = new; branches = w.branches; peek = w.peek; loops = kept }) x
      go (Err c) h = refused P t j w r (EndLoop o k) e (premise_number c) h
      go (Ok y) h =
          let w' : Walk = record { state = new; branches = w.branches; peek = w.peek; loops = kept } in
          let c = closes_loop t.lines r.thread.nested.each j o k e in
          let last = end_kept o k e in
          let m = (same_last (IsLoop P t j r.labels) _ o w.loops new last h.1).breaks in
          let R = OnKept (IsLoop P t (j + 1) (r.labels ++ sides_of new ∷ [])) in
          let stay = loops_stay P t j w r (EndLoop o k) e (sides_of new) (λ p z. refl) (places loop_place (blocks_at t.lines o)) (rest_of w.loops) last.rest in
          onward P t j w r (EndLoop o k) e w' h.0 m.strongest m.of
          (λ z. subst (λ bs. Fits (locks_in bs) (most_at (j + 1)) (label_of new z)) (sym c.behind) (fits_more (locks_in (blocks_at t.lines o)) (most_at j) (most_at (j + 1)) (label_of new z) (omega arith) (m.fits z)))
          (record {
            branches = branches_same P t j w r (EndLoop o k) e (sides_of new) (same branch_place refl);
            peek = peek_same P t j w r (EndLoop o k) e (sides_of new) (λ p z. refl) (same peek_place refl);
            loops = subst (λ bs. AreKept R (places loop_place bs) kept) (sym c.behind) (subst (λ xs. AreKept R (places loop_place (blocks_at t.lines o)) xs) (sym h.2) stay);
          })
