-- The arms of a peek, and their ends.
use Rattle.std.proofs.Common.{◌≡◌, ℕ, ◌+◌, Bool, List, [], ◌∷◌, ◌++◌, Option, Some, Result, Ok, Err, refl, sym, ap, subst, ◌∙◌, arith, slice_index_or}
use Rattle.std.specs.Prelude.{IsSome, OnErr}
use Rattle.std.proofs.lemmas.Option.{get_or_from_slice_get}
use Rattle.rc_lang.specs.declared.lines.Block.TheVariants.{InPeek, InArm}
use Rattle.rc_lang.specs.declared.lines.Locks.{Locks}
use Rattle.rc_lang.specs.declared.lines.Stmt.{Stmt}
use Rattle.rc_lang.specs.declared.lines.Stmt.TheVariants.{Peek, Case, Other, Nothing}
use Rattle.rc_lang.specs.Nesting.{blocks_at, locks_in}
use Rattle.rc_lang.specs.Program.{Program, Thread, stmt_at}
use Rattle.rc_lang.specs.Resolved.{DeclaresToken}
use Rattle.rc_lang.proofs.Along.{locks_behind}
use Rattle.rc_lang.proofs.Closing.{OpensArm, opens_case, opens_nothing, opens_other}
use Rattle.rc_lang.proofs.Lookups.{blocks_next, nested_here}
use Rattle.rc_rules.specs.declared.cause.Cause.{Cause}
use Rattle.rc_rules.specs.declared.mode.Peeked.TheVariants.{Unseen, SeesOther}
use Rattle.rc_rules.specs.Labels.{Label}
use Rattle.rc_rules.specs.Labellings.{label_at}
use Rattle.rc_rules.specs.Rules.{case_at, peek_at}
use Rattle.rc_rules.specs.Sides.{Sides, on, unreached}
use Rattle.rc_rules.specs.States.{asked_alike, State, Gives, label_of, program_of, sides_of}
use Rattle.rc_verify.specs.declared.arms.Arms.{Arms}
use Rattle.rc_verify.specs.declared.walk.Walk.{Walk}
use Rattle.rc_verify.specs.Walk.{AreKept, Fits, IsPeeked, PassesLine, Reaches, branch_place, listed, loop_place, most_at, peek_place, places}
use Rattle.rc_verify.proofs.Fit.{case_fits, fits_more, peek_fits}
use Rattle.rc_verify.proofs.Keeping.{one_listed, places_pushed}
use Rattle.rc_verify.proofs.Peeking.{no_peeks, none_asked}
use Rattle.rc_verify.proofs.Plainly.{EndsNone, opens_none, state_alone}
use Rattle.rc_verify.proofs.Standing.{asked_at, lead_at}

-- What is kept of the peek that is open, which is at o.
pub record Armed (P : Program) (t : Thread) (j : ℕ) (labels : List Sides) (o : ℕ) (peek : Option Arms) : Type 0 where
  pub arms : Arms
  pub is : peek ≡ Some arms
  pub holds : IsPeeked P t j labels o arms

module _ (P : Program) (t : Thread) (j : ℕ) (w : Walk) (r : Reaches P t j w) where
  pub armed : (o : ℕ) → places peek_place (blocks_at t.lines j) ≡ o ∷ [] → Armed P t j r.labels o w.peek
  armed o p =
      let h = one_listed (IsPeeked P t j r.labels) o w.peek (subst (λ os. AreKept (IsPeeked P t j r.labels) os (listed w.peek)) p r.at.keeps.peek) in
      record { arms = h.0; is = h.1; holds = h.2 }

  pub peek_alone : (o x : ℕ) → stmt_at t.lines o ≡ Some (Peek x) → places peek_place (blocks_at t.lines o) ≡ []
  peek_alone o x e = no_peeks (blocks_at t.lines o) (nested_here t.lines r.thread.nested.each o (Peek x) e)

  -- ---- where an arm begins

  opening : (o : ℕ) → OpensArm t.lines j o → Armed P t j r.labels o w.peek
  opening o c = armed o (ap (places peek_place) c.within ∙ places_pushed peek_place (blocks_at t.lines o) (InPeek o) ∙ ap (λ os. os ++ o ∷ []) (peek_alone o c.variable c.stands))

  pub some_armed : (o : ℕ) → Armed P t j r.labels o w.peek → IsSome w.peek
  some_armed o a = subst (λ (x : Option Arms). IsSome x) (sym a.is) refl

  pub case_some : (o u : ℕ) → stmt_at t.lines j ≡ Some (Case o u) → IsSome w.peek
  case_some o u e = some_armed o (opening o (opens_case t.lines r.thread.nested.each j o u e))

  pub other_some : (o : ℕ) → stmt_at t.lines j ≡ Some (Other o) → IsSome w.peek
  other_some o e = some_armed o (opening o (opens_other t.lines r.thread.nested.each j o e))

  pub none_some : (o : ℕ) → stmt_at t.lines j ≡ Some (Nothing o) → IsSome w.peek
  none_some o e = some_armed o (opening o (opens_nothing t.lines r.thread.nested.each j o e))

  peeked_is : (o : ℕ) (a : Arms) → Armed P t j r.labels o w.peek → w.peek ≡ Some a → IsPeeked P t j r.labels o a
  peeked_is o a h e = let q : h.arms ≡ a = cc (h.is, e) in subst (λ (x : Arms). IsPeeked P t j r.labels o x) q h.holds

  pub case_declared : (o u : ℕ) (a : Arms) → stmt_at t.lines j ≡ Some (Case o u) → w.peek ≡ Some a → DeclaresToken (program_of a.before) u
  case_declared o u a e q =
      let h = peeked_is o a (opening o (opens_case t.lines r.thread.nested.each j o u e)) q in
      subst (λ (p : Program). DeclaresToken p u) (sym h.before.of.program) (r.thread.resolved j (Case o u) e)

  -- an arm's first state, from the one before the arms
  any_arm_passes : {X : Type 0} (s : Stmt) (o : ℕ) (a : Arms) (new : State) (x : Result X Cause) (B : Label → Label) (e : stmt_at t.lines j ≡ Some s) → OpensArm t.lines j o → w.peek ≡ Some a → ((labels : List Sides) → asked_at P t j labels s ≡ []) → ((labels : List Sides) → lead_at P t j labels s ≡ (λ z. B (label_at labels (o + 1) z) ∷ [])) → ((held : Locks) → locks_behind held s ≡ held) → ((held : Locks) (n : ℕ) (l : Label) → Fits held n l → Fits held n (B l)) → EndsNone s → Gives a.before new x (asked_alike a.before [] (Peek 0)) (λ z. B (label_of a.before z) ∷ []) → blocks_at t.lines (j + 1) ≡ blocks_at t.lines j ++ InArm o ∷ [] → PassesLine P t j (record { state = new; branches = w.branches; peek = w.peek; loops = w.loops }) x
  any_arm_passes s o a new x B e c q asked leads locks fits none g n =
      let h = peeked_is o a (opening o c) q in
      let before = sides_of a.before in
      let known : slice_index_or r.labels (o + 1) unreached ≡ before = get_or_from_slice_get r.labels (o + 1) before unreached h.before.at in
      let held = locks_in (blocks_at t.lines j) in
      let same : blocks_at t.lines (o + 1) ≡ blocks_at t.lines j = blocks_next t.lines o (Peek c.variable) c.stands ∙ sym c.within in
      let f : (z : Bool) → Fits held (most_at j) (label_of a.before z) = λ z. subst (λ bs. Fits (locks_in bs) (most_at j) (label_of a.before z)) same (r.at.fits (o + 1) before h.before.at z) in
      let f' : (z : Bool) → Fits (locks_behind held s) (most_at j + 18) (B (label_at r.labels (o + 1) z)) = λ z. subst (λ k. Fits k (most_at j + 18) (B (label_at r.labels (o + 1) z))) (sym (locks held)) (fits_more held (most_at j) (most_at j + 18) _ (omega arith) (fits held (most_at j) (label_at r.labels (o + 1) z) (subst (λ l. Fits held (most_at j) (on z l)) (sym known) (f z)))) in
      let places_same = opens_none t j (blocks_at t.lines j) (InArm o) refl n in
      let g' = none_asked a.before new x (λ z. B (label_of a.before z) ∷ []) h.may g in
      state_alone P t j w r s e a.before new (slice_index_or r.labels (o + 1) unreached) x (λ p f l. []) (λ p f l z. B (on z l) ∷ []) h.before.of (sym known) (asked r.labels) (leads r.labels) (λ z. (f' z, tt))
      (record { branches = places_same branch_place refl; peek = places_same peek_place refl; loops = places_same loop_place refl }) none g'

  pub case_passes : {X : Type 0} (o u : ℕ) (a : Arms) (new : State) (x : Result X Cause) → stmt_at t.lines j ≡ Some (Case o u) → w.peek ≡ Some a → Gives a.before new x (asked_alike a.before [] (Peek 0)) (λ z. case_at u (label_of a.before z) ∷ []) → PassesLine P t j (record { state = new; branches = w.branches; peek = w.peek; loops = w.loops }) x
  case_passes o u a new x e q g = any_arm_passes (Case o u) o a new x (case_at u) e (opens_case t.lines r.thread.nested.each j o u e) q (λ ls. refl) (λ ls. refl) (λ l. refl) (case_fits u) (record { arms = λ p y. refl; breaks = λ p y. refl }) g (blocks_next t.lines j (Case o u) e)

  pub other_passes : {X : Type 0} (o : ℕ) (a : Arms) (new : State) (x : Result X Cause) → stmt_at t.lines j ≡ Some (Other o) → w.peek ≡ Some a → Gives a.before new x (asked_alike a.before [] (Peek 0)) (λ z. peek_at SeesOther (label_of a.before z) ∷ []) → PassesLine P t j (record { state = new; branches = w.branches; peek = w.peek; loops = w.loops }) x
  other_passes o a new x e q g = any_arm_passes (Other o) o a new x (peek_at SeesOther) e (opens_other t.lines r.thread.nested.each j o e) q (λ ls. refl) (λ ls. refl) (λ l. refl) (peek_fits SeesOther) (record { arms = λ p y. refl; breaks = λ p y. refl }) g (blocks_next t.lines j (Other o) e)

  pub none_passes : {X : Type 0} (o : ℕ) (a : Arms) (new : State) (x : Result X Cause) → stmt_at t.lines j ≡ Some (Nothing o) → w.peek ≡ Some a → Gives a.before new x (asked_alike a.before [] (Peek 0)) (λ z. peek_at Unseen (label_of a.before z) ∷ []) → PassesLine P t j (record { state = new; branches = w.branches; peek = w.peek; loops = w.loops }) x
  none_passes o a new x e q g = any_arm_passes (Nothing o) o a new x (peek_at Unseen) e (opens_nothing t.lines r.thread.nested.each j o e) q (λ ls. refl) (λ ls. refl) (λ l. refl) (peek_fits Unseen) (record { arms = λ p y. refl; breaks = λ p y. refl }) g (blocks_next t.lines j (Nothing o) e)

  -- No arm is refused.
  pub arm_stays : {X : Type 0} (o : ℕ) (a : Arms) (new : State) (x : Result X Cause) (bs : Bool → List Label) → OpensArm t.lines j o → w.peek ≡ Some a → Gives a.before new x (asked_alike a.before [] (Peek 0)) bs → OnErr x (new ≡ w.state)
  arm_stays o a new x bs c q g = go x (none_asked a.before new x bs (peeked_is o a (opening o c) q).may g)
    where
      go : {X : Type 0} (x : Result X Cause) → Gives a.before new x [] bs → OnErr x (new ≡ w.state)
      go (Ok y) g = tt
      go (Err c) g = absurd (g.0.fails tt)
