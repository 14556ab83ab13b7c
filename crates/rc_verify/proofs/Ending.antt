-- The ends of a peek's arms, and of the peek.
use Rattle.std.proofs.Common.{◌≡◌, ℕ, ◌+◌, Bool, true, false, List, [], ◌∷◌, ◌++◌, append_assoc, take, Option, Some, None, Result, Ok, Err, refl, sym, ap, subst, ◌∙◌, arith}
use Rattle.std.specs.Prelude.{IfSome, IsSome, OnOk}
use Rattle.rc_lang.specs.declared.lines.Block.{Block}
use Rattle.rc_lang.specs.declared.lines.Block.TheVariants.{InPeek, InArm}
use Rattle.rc_lang.specs.declared.lines.Locks.{Locks}
use Rattle.rc_lang.specs.declared.lines.Stmt.TheVariants.{EndArm, EndPeek}
use Rattle.rc_lang.specs.Nesting.{blocks_at, locks_in}
use Rattle.rc_lang.specs.Program.{Program, Thread, stmt_at}
use Rattle.rc_lang.proofs.Along.{same_locks}
use Rattle.rc_lang.proofs.Closing.{ClosesArm, closes_arm, closes_peek}
use Rattle.rc_rules.specs.declared.cause.Cause.{Cause}
use Rattle.rc_rules.specs.declared.mode.Peeked.TheVariants.{Unseen}
use Rattle.rc_rules.specs.Causes.{premise_number}
use Rattle.rc_rules.specs.Labels.{Label, IsStrongest}
use Rattle.rc_rules.specs.Labellings.{arm_ends}
use Rattle.rc_rules.specs.Needs.{line_premises}
use Rattle.rc_rules.specs.Premises.{FailsFirst, Premise}
use Rattle.rc_rules.specs.Rules.{agree_all, asks_both, joins_both, peek_at}
use Rattle.rc_rules.specs.Sides.{Sides, on}
use Rattle.rc_rules.specs.States.{State, AgreeOnLocks, IsOfSame, OnBoth, label_of, sides_of}
use Rattle.rc_verify.specs.Arms.{ClosesPeek, EndsArm, EndsArmIn, JoinsOn, LeavesArm, two}
use Rattle.rc_verify.specs.declared.arms.Arms.{Arms}
use Rattle.rc_verify.specs.declared.walk.Walk.{Walk}
use Rattle.rc_verify.specs.Walk.{AreKept, CanPeek, Fits, IsMeet, IsPeeked, IsSaved, PassesLine, Reaches, branch_place, listed, loop_place, most_at, peek_place, places}
use Rattle.rc_verify.proofs.Agreeing.{all_agree, never_all, not_all}
use Rattle.rc_verify.proofs.Arming.{Armed, armed, peek_alone, some_armed}
use Rattle.rc_verify.proofs.Branching.{on_ok}
use Rattle.rc_verify.proofs.Ends.{own_arm, strongest_more}
use Rattle.rc_verify.proofs.Fit.{fits_alike, fits_more, peek_fits, strongest_fits}
use Rattle.rc_verify.proofs.Joining.{differ_all, fails_join}
use Rattle.rc_verify.proofs.Keeping.{places_more, places_pushed, pushed_none}
use Rattle.rc_verify.proofs.Plainly.{branches_same, loops_same}
use Rattle.rc_verify.proofs.Standing.{arms_next, fits_here, here_is, of_same, onward, passes, refused, same_of, saved_on, seen_at, took}

-- ---- one more end on each side

module _ (old new : State) (end y : Bool → Label) (xs : Bool → List Label) (forgets : (z : Bool) → IsStrongest (end z) (y z ∷ [])) where
  abbrev AreMeets : Bool → Type 0
  AreMeets b = b ≡ true → (z : Bool) → IsStrongest (label_of old z) (xs z)

  next_agree : (b c : Bool) → agree_all (xs true ++ xs false) ≡ b → AreMeets b → JoinsOn old new end c b → agree_all ((xs true ++ y true ∷ []) ++ (xs false ++ y false ∷ [])) ≡ c
  next_agree true true e h j = all_agree (label_of old true) (label_of old false) (end true) (end false) (y true) (y false) (xs true) (xs false) (h refl true) (h refl false) (forgets true) (forgets false) j.0.0
  next_agree true false e h j = not_all (label_of old true) (label_of old false) (end true) (end false) (y true) (y false) (xs true) (xs false) (h refl true) (h refl false) (forgets true) (forgets false) (differs j.0)
    where
      differs : FailsFirst 15 (joins_both (two (label_of old) end)) → agree_all (label_of old true ∷ end true ∷ label_of old false ∷ end false ∷ []) ≡ false
      differs f = differ_all (label_of old true ∷ end true ∷ label_of old false ∷ end false ∷ []) 15 f
  next_agree false c e h j = never_all (y true) (y false) (xs true) (xs false) e ∙ sym j

  next_strongest : (b c : Bool) → c ≡ true → AreMeets b → JoinsOn old new end c b → (z : Bool) → IsStrongest (label_of new z) (xs z ++ y z ∷ [])
  next_strongest true true q h j z = strongest_more (label_of new z) (label_of old z) (end z) (y z) (xs z) (h refl z) (forgets z) (j.1.each z)
  next_strongest true false q h j z = absurd (cc)
  next_strongest false c q h j z = absurd (cc)

  next_fits : (held : Locks) (n : ℕ) (b c : Bool) → c ≡ true → (b ≡ true → (z : Bool) → Fits held n (label_of old z)) → ((z : Bool) → Fits held n (y z)) → JoinsOn old new end c b → (z : Bool) → Fits held n (label_of new z)
  next_fits held n true true q h f j z = strongest_fits held n (label_of new z) (label_of old z ∷ end z ∷ []) (h refl z, (strongest_fits held n (end z) (y z ∷ []) (f z, tt) (forgets z), tt)) (j.1.each z)
  next_fits held n true false q h f j z = absurd (cc)
  next_fits held n false c q h f j z = absurd (cc)

module _ (P : Program) (t : Thread) (j : ℕ) (w : Walk) (r : Reaches P t j w) where
  -- ---- an arm's end

  ending : (o : ℕ) → ClosesArm t.lines j o → Armed P t j r.labels o w.peek
  ending o c = armed P t j w r o (ap (places peek_place) c.within ∙ places_more peek_place (blocks_at t.lines o) (InPeek o ∷ InArm o ∷ []) ∙ ap (λ os. os ++ o ∷ []) (peek_alone P t j w r o c.variable c.stands))

  grouped : (o : ℕ) → ClosesArm t.lines j o → blocks_at t.lines j ≡ (blocks_at t.lines o ++ InPeek o ∷ []) ++ InArm o ∷ []
  grouped o c = c.within ∙ sym (append_assoc (blocks_at t.lines o) (InPeek o ∷ []) (InArm o ∷ []))

  arm_locks : (o : ℕ) → ClosesArm t.lines j o → locks_in (blocks_at t.lines j) ≡ locks_in (blocks_at t.lines o)
  arm_locks o c = ap locks_in (grouped o c) ∙ same_locks (blocks_at t.lines o ++ InPeek o ∷ []) (InArm o) refl ∙ same_locks (blocks_at t.lines o) (InPeek o) refl

  pub arm_some : (o : ℕ) → stmt_at t.lines j ≡ Some (EndArm o) → IsSome w.peek
  arm_some o e = some_armed P t j w r o (ending o (closes_arm t.lines r.thread.nested.each j o e))

  pub arm_of : (o : ℕ) → stmt_at t.lines j ≡ Some (EndArm o) → IfSome w.peek (λ a. IsOfSame w.state a.ends)
  arm_of o e =
      let a = ending o (closes_arm t.lines r.thread.nested.each j o e) in
      subst (λ (x : Option Arms). IfSome x (λ a. IsOfSame w.state a.ends)) (sym a.is) (same_of P t w.state a.arms.ends r.at.here.of a.holds.of)

  end_fits : (o : ℕ) → stmt_at t.lines j ≡ Some (EndArm o) → (z : Bool) → Fits (locks_in (blocks_at t.lines o)) (most_at j) (peek_at Unseen (label_of w.state z))
  end_fits o e z = peek_fits Unseen (locks_in (blocks_at t.lines o)) (most_at j) (label_of w.state z) (subst (λ b. Fits b (most_at j) (label_of w.state z)) (arm_locks o (closes_arm t.lines r.thread.nested.each j o e)) (fits_here P t j w r (EndArm o) e z))

  pub arm_alike : (o : ℕ) → stmt_at t.lines j ≡ Some (EndArm o) → IfSome w.peek (λ a. a.agree ≡ true → (y z : Bool) → AgreeOnLocks (label_of a.ends y) (peek_at Unseen (label_of w.state z)))
  arm_alike o e =
      let a = ending o (closes_arm t.lines r.thread.nested.each j o e) in
      subst (λ (x : Option Arms). IfSome x (λ a. a.agree ≡ true → (y z : Bool) → AgreeOnLocks (label_of a.ends y) (peek_at Unseen (label_of w.state z)))) (sym a.is)
      (λ q y z. fits_alike (locks_in (blocks_at t.lines o)) (most_at j) (most_at j) (label_of a.arms.ends y) (peek_at Unseen (label_of w.state z)) ((a.holds.ends q).fits y) (end_fits o e z))

  ended : (o : ℕ) (a a' : Arms) (new : Sides) → stmt_at t.lines j ≡ Some (EndArm o) → IsPeeked P t j r.labels o a → EndsArm a a' w.state → IsPeeked P t (j + 1) (r.labels ++ new ∷ []) o a'
  ended o a a' new e h g =
      let labels = r.labels ++ new ∷ [] in
      let held = locks_in (blocks_at t.lines o) in
      let xs : Bool → List Label = λ z. arm_ends (take j t.lines) r.labels o z in
      let y : Bool → Label = λ z. peek_at Unseen (label_of w.state z) in
      let q : (z : Bool) → arm_ends (take (j + 1) t.lines) labels o z ≡ xs z ++ y z ∷ [] = λ z. arms_next P t j w r (EndArm o) e new o z ∙ ap (λ ys. xs z ++ ys) (own_arm o (label_of w.state z)) in
      record {
        before = subst (λ (s : State). IsSaved P t labels (o + 1) s) (sym g.before) (saved_on P t r.labels new (o + 1) a.before h.before);
        may = subst (λ (s : State). OnBoth CanPeek s) (sym g.before) h.may;
        of = of_same P t a'.ends a.ends h.of g.of;
        agree =
            ap (λ zs. agree_all (zs ++ arm_ends (take (j + 1) t.lines) labels o false)) (q true) ∙ ap (λ zs. agree_all ((xs true ++ y true ∷ []) ++ zs)) (q false)
            ∙ next_agree a.ends a'.ends g.end y xs g.forgets a.agree a'.agree h.agree (λ p. (h.ends p).strongest) g.joins;
        ends = λ p. record {
          of = of_same P t a'.ends a.ends h.of g.of;
          strongest = λ z. subst (λ zs. IsStrongest (label_of a'.ends z) zs) (sym (q z)) (next_strongest a.ends a'.ends g.end y xs g.forgets a.agree a'.agree p (λ i. (h.ends i).strongest) g.joins z);
          fits = λ z. fits_more held (most_at j) (most_at (j + 1)) (label_of a'.ends z) (omega arith) (next_fits a.ends a'.ends g.end y xs g.forgets held (most_at j) a.agree a'.agree p (λ i. (h.ends i).fits) (end_fits o e) g.joins z);
        };
      }

  -- what is kept after the line
  abbrev EndsOne : Option Arms → Type 0
  EndsOne peek = (a : Arms) → w.peek ≡ Some a → EndsArmIn a peek w.state

  pub arm_end_passes : {X : Type 0} (o : ℕ) (new : State) (peek : Option Arms) (x : Result X Cause) → stmt_at t.lines j ≡ Some (EndArm o) → LeavesArm w.state new x → OnOk x (EndsOne peek) → PassesLine P t j (record { state = new; branches = w.branches; peek = peek; loops = w.loops }) x
  arm_end_passes o new peek x e g k =
      let w' : Walk = record { state = new; branches = w.branches; peek = peek; loops = w.loops } in
      let F : Program → Option ℕ → Sides → List (ℕ × Premise) = λ p f l. asks_both (λ z. on z l) (λ z bag m. line_premises p [] bag m (EndArm 0)) in
      let gave = took P t w.state new (seen_at t j r.labels) x F (λ p f l z. []) r.at.here.of (here_is P t j w r (EndArm o) e) g in
      passes P t j w r (EndArm o) e w' x gave
      (λ b z. strongest_fits (locks_in (blocks_at t.lines (j + 1))) (most_at (j + 1)) (label_of new z) [] tt (b z))
      (λ y q. record {
        branches = branches_same P t j w r (EndArm o) e (sides_of new) (same branch_place refl);
        peek = grown (on_ok (EndsOne peek) x y k q);
        loops = loops_same P t j w r (EndArm o) e (sides_of new) (λ p z. refl) (same loop_place refl);
      })
    where
      c : ClosesArm t.lines j o
      c = closes_arm t.lines r.thread.nested.each j o e

      same : (f : Block → List ℕ) → f (InArm o) ≡ [] → places f (blocks_at t.lines (j + 1)) ≡ places f (blocks_at t.lines j)
      same f n = ap (places f) c.behind ∙ sym (ap (places f) (grouped o c) ∙ pushed_none f (blocks_at t.lines o ++ InPeek o ∷ []) (InArm o) n)

      grown : EndsOne peek → AreKept (IsPeeked P t (j + 1) (r.labels ++ sides_of new ∷ [])) (places peek_place (blocks_at t.lines (j + 1))) (listed peek)
      grown k =
          let R = IsPeeked P t (j + 1) (r.labels ++ sides_of new ∷ []) in
          let a = ending o c in
          let h = k a.arms a.is in
          let one : AreKept R (o ∷ []) (h.0 ∷ []) = (ended o a.arms h.0 (sides_of new) e a.holds h.2, tt) in
          let q : places peek_place (blocks_at t.lines (j + 1)) ≡ o ∷ [] = ap (places peek_place) c.behind ∙ places_pushed peek_place (blocks_at t.lines o) (InPeek o) ∙ ap (λ os. os ++ o ∷ []) (peek_alone P t j w r o c.variable c.stands) in
          subst (λ os. AreKept R os (listed peek)) (sym q) (subst (λ (z : Option Arms). AreKept R (o ∷ []) (listed z)) (sym h.1) one)

  -- ---- the end of the peek

  closing : (o : ℕ) → stmt_at t.lines j ≡ Some (EndPeek o) → Armed P t j r.labels o w.peek
  closing o e = let c = closes_peek t.lines r.thread.nested.each j o e in armed P t j w r o (ap (places peek_place) c.1.within ∙ places_pushed peek_place (blocks_at t.lines o) (InPeek o) ∙ ap (λ os. os ++ o ∷ []) (peek_alone P t j w r o c.0 c.1.stands))

  pub end_peek_some : (o : ℕ) → stmt_at t.lines j ≡ Some (EndPeek o) → IsSome w.peek
  end_peek_some o e = some_armed P t j w r o (closing o e)

  closed : {X : Type 0} (o : ℕ) (a : Arms) (new : State) (peek : Option Arms) (x : Result X Cause) → stmt_at t.lines j ≡ Some (EndPeek o) → IsPeeked P t j r.labels o a → ClosesPeek a new x → peek ≡ None → PassesLine P t j (record { state = new; branches = w.branches; peek = peek; loops = w.loops }) x
  closed o a new peek (Ok y) e h g q =
      let w' : Walk = record { state = new; branches = w.branches; peek = peek; loops = w.loops } in
      let R = IsPeeked P t (j + 1) (r.labels ++ sides_of new ∷ []) in
      let c = closes_peek t.lines r.thread.nested.each j o e in
      let held = locks_in (blocks_at t.lines o) in
      let m : IsMeet P t held (most_at j) (arm_ends (take j t.lines) r.labels o) new = subst (λ (s : State). IsMeet P t held (most_at j) (arm_ends (take j t.lines) r.labels o) s) (sym g.1) (h.ends g.0) in
      let p : places peek_place (blocks_at t.lines (j + 1)) ≡ [] = ap (places peek_place) c.1.behind ∙ peek_alone P t j w r o c.0 c.1.stands in
      onward P t j w r (EndPeek o) e w' (h.agree ∙ g.0, tt) m.strongest m.of
      (λ z. subst (λ bs. Fits (locks_in bs) (most_at (j + 1)) (label_of new z)) (sym c.1.behind) (fits_more held (most_at j) (most_at (j + 1)) (label_of new z) (omega arith) (m.fits z)))
      (record {
        branches = branches_same P t j w r (EndPeek o) e (sides_of new) (same branch_place refl);
        peek = subst (λ os. AreKept R os (listed peek)) (sym p) (subst (λ (z : Option Arms). AreKept R [] (listed z)) (sym q) tt);
        loops = loops_same P t j w r (EndPeek o) e (sides_of new) (λ p z. refl) (same loop_place refl);
      })
    where
      same : (f : Block → List ℕ) → f (InPeek o) ≡ [] → places f (blocks_at t.lines (j + 1)) ≡ places f (blocks_at t.lines j)
      same f n = let c = closes_peek t.lines r.thread.nested.each j o e in ap (places f) c.1.behind ∙ sym (ap (places f) c.1.within ∙ pushed_none f (blocks_at t.lines o) (InPeek o) n)
  closed o a new peek (Err c) e h g q = refused P t j w r (EndPeek o) e (premise_number c) (subst (λ v. FailsFirst v (joins_both (arm_ends (take j t.lines) r.labels o))) (sym g.1) (fails_join (arm_ends (take j t.lines) r.labels o true ++ arm_ends (take j t.lines) r.labels o false) (h.agree ∙ g.0)))

  pub end_peek_passes : {X : Type 0} (o : ℕ) (new : State) (peek : Option Arms) (x : Result X Cause) → stmt_at t.lines j ≡ Some (EndPeek o) → IfSome w.peek (λ a. ClosesPeek a new x) → peek ≡ None → PassesLine P t j (record { state = new; branches = w.branches; peek = peek; loops = w.loops }) x
  end_peek_passes o new peek x e g q =
      let a = closing o e in
      closed o a.arms new peek x e a.holds (subst (λ (z : Option Arms). IfSome z (λ b. ClosesPeek b new x)) a.is g) q
