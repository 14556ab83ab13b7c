-- Peeks and their arms.
use Rattle.std.proofs.Common.{◌≡◌, ℕ, suc, ◌+◌, ◌<◌, Bool, true, false, cond, not, nat_eq, List, [], ◌∷◌, ◌++◌, drop, take, Option, Some, None, Result, Ok, Err, refl, sym, ap, subst, ◌∙◌, arith, slice_get}
use Rattle.std.specs.Prelude.{is_some, unwrap_or}
use Rattle.std.specs.Option.{option_eq}
use Rattle.std.proofs.lemmas.Bool.{eq-eqb, eqb-true, or_parts}
use Rattle.rc_lang.specs.declared.lines.Block.{Block}
use Rattle.rc_lang.specs.declared.lines.Block.TheVariants.{InPeek}
use Rattle.rc_lang.specs.declared.lines.Line.{Line}
use Rattle.rc_lang.specs.declared.lines.Locks.{Locks}
use Rattle.rc_lang.specs.declared.lines.Stmt.{Stmt}
use Rattle.rc_lang.specs.declared.lines.Stmt.TheVariants.{Peek, EndArm}
use Rattle.rc_lang.specs.Nesting.{blocks_at, in_peek, is_peek, locks_in}
use Rattle.rc_lang.specs.Program.{Program, Thread, stmt_at, stmt_of}
use Rattle.rc_lang.proofs.Closing.{closes_arm}
use Rattle.rc_lang.proofs.Lookups.{blocks_next, get_new, nested_here}
use Rattle.rc_rules.specs.declared.cause.Cause.{Cause}
use Rattle.rc_rules.specs.declared.flag.Write.TheVariants.{Anything, Untouched}
use Rattle.rc_rules.specs.declared.mode.Peeked.{Peeked}
use Rattle.rc_rules.specs.declared.mode.Peeked.TheVariants.{Unseen}
use Rattle.rc_rules.specs.Causes.{premise_number}
use Rattle.rc_rules.specs.Labels.{Label, Dead, Live, Weaker, IsStrongest}
use Rattle.rc_rules.specs.Labellings.{arm_end, arm_ends, label_at}
use Rattle.rc_rules.specs.Premises.{FailsFirst, Is, Meets, Premise}
use Rattle.rc_rules.specs.Needs.{line_premises}
use Rattle.rc_rules.specs.Rules.{agree_all, asks, asks_both, is_got, peek_at, with_lock}
use Rattle.rc_rules.specs.Sides.{Sides, brings, on, turns, write_to}
use Rattle.rc_rules.specs.States.{asked_alike, State, Becomes, Gives, OnBoth, label_of, sides_of}
use Rattle.rc_rules.proofs.Weaker.{meets_append, not_both}
use Rattle.rc_verify.specs.Arms.{IsOpened, OpensPeek}
use Rattle.rc_verify.specs.declared.arms.Arms.{Arms}
use Rattle.rc_verify.specs.declared.walk.Walk.{Walk}
use Rattle.rc_verify.specs.Walk.{AreKept, CanPeek, Fits, IsOf, IsPeeked, IsSaved, PassesLine, Reaches, branch_place, listed, loop_place, most_at, peek_place, places}
use Rattle.rc_verify.proofs.Fit.{brings_fit, brought_peek, fits_more, strongest_fits}
use Rattle.rc_verify.proofs.Joining.{each_meets}
use Rattle.rc_verify.proofs.Keeping.{nothing_more, places_pushed}
use Rattle.rc_verify.proofs.Plainly.{branches_same, fits_behind, loops_same, opens_none}
use Rattle.rc_verify.proofs.Standing.{arms_next, fits_here, here_is, of_same, onward, refused, seen_at, took}
use Rattle.rc_verify.proofs.Strongest.{get_front}

-- ---- lists

no_arm : (s : Stmt) (o : ℕ) (x : Label) → (s ≡ EndArm o → ⊥) → arm_end s o x ≡ []
no_arm (EndArm p) o x n = go (nat_eq p o) refl
  where
    go : (b : Bool) → nat_eq p o ≡ b → cond b (peek_at Unseen x ∷ []) [] ≡ []
    go true e = absurd (n (ap EndArm (eqb-true p o e)))
    go false e = refl
no_arm _ o x n = refl

no_arms : (lines : List Line) (labels : List Sides) (o : ℕ) (z : Bool) → ((k : ℕ) (l : Line) → slice_get lines k ≡ Some l → l.stmt ≡ EndArm o → ⊥) → arm_ends lines labels o z ≡ []
no_arms [] labels o z n = refl
no_arms (l ∷ lines) labels o z n = ap (λ xs. xs ++ arm_ends lines (drop 1 labels) o z) (no_arm l.stmt o (label_at labels 0 z) (n 0 l refl)) ∙ no_arms lines (drop 1 labels) o z (λ k m e. n (suc k) m e)

no_peek_place : (b : Block) → is_peek b ≡ false → peek_place b ≡ []
no_peek_place (InPeek o) e = absurd (cc)
no_peek_place _ e = refl

pub no_peeks : (bs : List Block) → in_peek bs ≡ false → places peek_place bs ≡ []
no_peeks [] e = refl
no_peeks (b ∷ bs) e = let h = or_parts (is_peek b) (in_peek bs) e in ap (λ os. os ++ places peek_place bs) (no_peek_place b h.0) ∙ no_peeks bs h.1

-- ---- labels

-- what a side is asked
abbrev lock_asks : Option Peeked → List (ℕ × Premise)
lock_asks o = with_lock 1 o (λ p. (20, Is (not (is_got p))) ∷ [])

abbrev side_asks : Label → List (ℕ × Premise)
side_asks s = asks s (λ bag m. lock_asks m.cq)

met_peek : (s : Label) → Meets (side_asks s) → CanPeek s
met_peek Dead h = tt
met_peek (Live b m) h = held m.cq h
  where
    none : (g : Bool) → not g ≡ true → g ≡ false
    none true e = absurd (cc)
    none false e = refl

    held : (o : Option Peeked) → Meets (lock_asks o) → (is_some o ≡ true) × (is_got (unwrap_or o Unseen) ≡ false)
    held None h = (h.0, refl)
    held (Some p) h = (refl, none (is_got p) h.0)

peek_met : (s : Label) → CanPeek s → Meets (side_asks s)
peek_met Dead h = tt
peek_met (Live b m) h = met m.cq h.0 h.1
  where
    met : (o : Option Peeked) → is_some o ≡ true → is_got (unwrap_or o Unseen) ≡ false → Meets (lock_asks o)
    met None h g = absurd (cc)
    met (Some p) h g = (ap not g, tt)

-- Both sides that can peek meet what they are asked, so a rule that asks it asks nothing.
pub none_asked : {X : Type 0} (old new : State) (x : Result X Cause) (bs : Bool → List Label) → OnBoth CanPeek old → Gives old new x (asked_alike old [] (Peek 0)) bs → Gives old new x [] bs
none_asked old new x bs h = go x
  where
    m : Meets (asked_alike old [] (Peek 0))
    m = meets_append (side_asks (label_of old true)) (side_asks (label_of old false)) (peek_met (label_of old true) (h true)) (peek_met (label_of old false) (h false))

    go : {X : Type 0} (x : Result X Cause) → Gives old new x (asked_alike old [] (Peek 0)) bs → Gives old new x [] bs
    go (Ok y) g = (tt, g.1)
    go (Err c) g = absurd (not_both (premise_number c) (asked_alike old [] (Peek 0)) m g.0)

pub dead_strongest : (s : Label) → s ≡ Dead → IsStrongest s []
dead_strongest s e = record { weaker = tt; strongest = λ t w. subst (λ z. Weaker t z) (sym e) tt }

pub dead_fits : (held : Locks) (n : ℕ) (s : Label) → s ≡ Dead → Fits held n s
dead_fits b n s e = subst (λ z. Fits b n z) (sym e) tt

-- ---- a peek into the flag

is_flag_of : (f : Option ℕ) (x : ℕ) → option_eq nat_eq f (Some x) ≡ true → f ≡ Some x
is_flag_of None x e = absurd (cc)
is_flag_of (Some y) x e = ap Some (eqb-true y x e)

pub lost : (s new : State) (x : ℕ) → option_eq nat_eq s.flag (Some x) ≡ true → Becomes s new (λ z. brings (λ y. true) (λ l. l) (label_of s)) → Becomes s new (λ z. brings (λ y. turns (write_to s.flag x Anything) y z) (λ l. l) (label_of s))
lost s new x e h = subst (λ w. Becomes s new (λ z. brings (λ y. turns w y z) (λ l. l) (label_of s))) (sym written) h
  where
    written : write_to s.flag x Anything ≡ Anything
    written = ap (λ f. write_to f x Anything) (is_flag_of s.flag x e) ∙ ap (λ b. cond b Anything Untouched) (eq-eqb x x refl)

module _ (P : Program) (t : Thread) (j : ℕ) (w : Walk) (r : Reaches P t j w) where
  -- ---- the peek

  none_so_far : (x : ℕ) (new : Sides) (z : Bool) → stmt_at t.lines j ≡ Some (Peek x) → arm_ends (take (j + 1) t.lines) (r.labels ++ new ∷ []) j z ≡ []
  none_so_far x new z e = arms_next P t j w r (Peek x) e new j z ∙ nothing_more (arm_ends (take j t.lines) r.labels j z) ∙ no_arms (take j t.lines) r.labels j z before
    where
      before : (k : ℕ) (l : Line) → slice_get (take j t.lines) k ≡ Some l → l.stmt ≡ EndArm j → ⊥
      before k l is f =
          let h = get_front t.lines j k l is in
          let at : stmt_at t.lines k ≡ Some (EndArm j) = ap stmt_of h.0 ∙ ap Some f in
          let c = closes_arm t.lines r.thread.nested.each k j at in
          let lt : j < k = c.before in
          omega (arith, lt, h.1)

  opened : (x : ℕ) (new : State) (a : Arms) → stmt_at t.lines j ≡ Some (Peek x) → IsOf P t new → OnBoth CanPeek new → IsOpened new a → IsPeeked P t (j + 1) (r.labels ++ sides_of new ∷ []) j a
  opened x new a e p l h =
      let labels = r.labels ++ sides_of new ∷ [] in
      let none : (z : Bool) → arm_ends (take (j + 1) t.lines) labels j z ≡ [] = λ z. none_so_far x (sides_of new) z e in
      record {
        before = subst (λ (s : State). IsSaved P t labels (j + 1) s) (sym h.before) (record { of = p; at = ap (λ i. slice_get labels i) (sym r.at.size) ∙ get_new r.labels (sides_of new) [] });
        may = subst (λ (s : State). OnBoth CanPeek s) (sym h.before) l;
        of = of_same P t a.ends new p h.of;
        agree = ap (λ xs. agree_all (xs ++ arm_ends (take (j + 1) t.lines) labels j false)) (none true) ∙ ap agree_all (none false) ∙ sym h.agree;
        ends = λ q. record {
          of = of_same P t a.ends new p h.of;
          strongest = λ z. subst (λ xs. IsStrongest (label_of a.ends z) xs) (sym (none z)) (dead_strongest (label_of a.ends z) (h.dead z));
          fits = λ z. dead_fits (locks_in (blocks_at t.lines j)) (most_at (j + 1)) (label_of a.ends z) (h.dead z);
        };
      }

  -- what the peek asks of the walk's state, it asks of the labels before it
  asked_is : (v : ℕ) → stmt_at t.lines j ≡ Some (Peek v) → asked_alike w.state [] (Peek 0) ≡ asks_both (λ z. on z (seen_at t j r.labels)) (λ z bag m. line_premises P [] bag m (Peek 0))
  asked_is v e = ap (λ (l : Sides). asks_both (λ z. on z l) (λ z bag m. line_premises P [] bag m (Peek 0))) (here_is P t j w r (Peek v) e)

  pub peek_passes : {X : Type 0} (v : ℕ) (new : State) (peek : Option Arms) (x : Result X Cause) → stmt_at t.lines j ≡ Some (Peek v) → OpensPeek v w.state new peek x → PassesLine P t j (record { state = new; branches = w.branches; peek = peek; loops = w.loops }) x
  peek_passes v new peek (Ok y) e g =
      let w' : Walk = record { state = new; branches = w.branches; peek = peek; loops = w.loops } in
      let bs = blocks_at t.lines j in
      let may : Bool → Bool → Bool = λ z y. turns (write_to w.state.flag v Anything) y z in
      let F : Program → Option ℕ → Sides → List (ℕ × Premise) = λ p f l. asks_both (λ z. on z l) (λ z bag m. line_premises p [] bag m (Peek 0)) in
      let B : Program → Option ℕ → Sides → Bool → List Label = λ p f l z. brings (λ y. turns (write_to f v Anything) y z) (λ s. s) (λ y. on y l) in
      let gave = took P t w.state new (seen_at t j r.labels) (Ok y) F B r.at.here.of (here_is P t j w r (Peek v) e) (g.0, g.1) in
      let n : blocks_at t.lines (j + 1) ≡ bs ++ InPeek j ∷ [] = blocks_next t.lines j (Peek v) e in
      let same = opens_none t j bs (InPeek j) refl n in
      let f : (z : Bool) → Fits (locks_in bs) (most_at j + 18) (label_of w.state z) = λ z. fits_more (locks_in bs) (most_at j) (most_at j + 18) (label_of w.state z) (omega arith) (fits_here P t j w r (Peek v) e z) in
      let f' : (z : Bool) → Fits (locks_in bs) (most_at j + 18) (label_of new z) = λ z. strongest_fits (locks_in bs) (most_at j + 18) (label_of new z) _ (brings_fit (may z) (λ s. s) (label_of w.state) (locks_in bs) (most_at j + 18) f) (g.1.each z) in
      let m = each_meets (label_of w.state) side_asks g.0 in
      let l : OnBoth CanPeek new = λ z. brought_peek (may z) (λ s. s) (label_of w.state) (label_of new z) (λ y. met_peek (label_of w.state y) (m y)) (g.1.each z) in
      let p : places peek_place (blocks_at t.lines (j + 1)) ≡ j ∷ [] = ap (places peek_place) n ∙ places_pushed peek_place bs (InPeek j) ∙ ap (λ os. os ++ j ∷ []) (no_peeks bs (nested_here t.lines r.thread.nested.each j (Peek v) e)) in
      let one : AreKept (IsPeeked P t (j + 1) (r.labels ++ sides_of new ∷ [])) (j ∷ []) (g.2.0 ∷ []) = (opened v new g.2.0 e gave.2 l g.2.2, tt) in
      onward P t j w r (Peek v) e w' gave.0 gave.1 gave.2
      (λ z. fits_behind P t j w r (Peek v) e (label_of new z) (f' z))
      (record {
        branches = branches_same P t j w r (Peek v) e (sides_of new) (same branch_place refl);
        peek = subst (λ os. AreKept (IsPeeked P t (j + 1) (r.labels ++ sides_of new ∷ [])) os (listed peek)) (sym p) (subst (λ (z : Option Arms). AreKept (IsPeeked P t (j + 1) (r.labels ++ sides_of new ∷ [])) (j ∷ []) (listed z)) (sym g.2.1) one);
        loops = loops_same P t j w r (Peek v) e (sides_of new) (λ o z. refl) (same loop_place refl);
      })
  peek_passes v new peek (Err c) e g = refused P t j w r (Peek v) e (premise_number c) (subst (FailsFirst (premise_number c)) (asked_is v e) g)
