-- Where a walk is, and how it goes on after a line.
use Rattle.std.proofs.Common.{◌≡◌, ℕ, ◌+◌, ◌<◌, ◌≤◌, Bool, true, false, List, [], ◌∷◌, ◌++◌, length, length-append, length-take, take, Option, Some, None, Result, Ok, Err, refl, sym, ap, subst, ◌∙◌, inl, inr, arith, slice_get, slice_index_or, add-one}
use Rattle.std.specs.Prelude.{OnErr}
use Rattle.std.proofs.Math.ListN.{get_or-append}
use Rattle.std.proofs.Math.Seq.{take-length}
use Rattle.std.proofs.lemmas.Option.{get_or_from_slice_get}
use Rattle.rc_lang.specs.declared.lines.Line.{Line}
use Rattle.rc_lang.specs.declared.lines.Locks.{Locks}
use Rattle.rc_lang.specs.declared.lines.Stmt.{Stmt}
use Rattle.rc_lang.specs.Nesting.{blocks_at, locks_in}
use Rattle.rc_lang.specs.Program.{Program, Thread, stmt_at}
use Rattle.rc_lang.proofs.Lookups.{get_new, get_old, get_push, line_with, stands_within}
use Rattle.rc_rules.specs.declared.cause.Cause.{Cause}
use Rattle.rc_rules.specs.Causes.{premise_number}
use Rattle.rc_rules.specs.Labels.{Label, IsStrongest}
use Rattle.rc_rules.specs.Labellings.{label_at, premises, befores, arm_end, arm_ends, break_end, break_ends, IsRefusedAt}
use Rattle.rc_rules.specs.Sides.{Sides, gate, may_skip, on, unreached}
use Rattle.rc_rules.specs.Premises.{Premise, Meets, FailsFirst}
use Rattle.rc_rules.specs.Rules.{agree_all}
use Rattle.rc_rules.specs.States.{State, Gives, IsOfSame, label_of, program_of, sides_of}
use Rattle.rc_verify.specs.declared.arms.Arms.{Arms}
use Rattle.rc_verify.specs.declared.walk.Walk.{Walk}
use Rattle.rc_verify.specs.Strongest.{AreStrongest}
use Rattle.rc_verify.specs.Walk.{AreKept, Fits, IsBranch, IsLoop, IsMeet, IsOf, IsPeeked, IsSaved, Keeps, OnKept, PassesLine, Reaches, most_at}
use Rattle.rc_verify.proofs.Best.{refused as refused_at}
use Rattle.rc_verify.proofs.Ends.{arms_more, breaks_more}
use Rattle.rc_verify.proofs.Fit.{fits_more}
use Rattle.rc_verify.proofs.Keeping.{kept_too, nothing_more}
use Rattle.rc_verify.proofs.Strongest.{goes_on, take_suc_at}

-- what a line at place j is asked, and what leads to a side after it
abbrev pub asked_at : Program → Thread → ℕ → List Sides → Stmt → List (ℕ × Premise)
asked_at P t j labels s = premises P t (take j t.lines) labels s

-- both sides of the place before it
abbrev pub seen_at : Thread → ℕ → List Sides → Sides
seen_at t j labels = slice_index_or labels (length (take j t.lines)) unreached

abbrev pub lead_at : Program → Thread → ℕ → List Sides → Stmt → Bool → List Label
lead_at P t j labels s z = befores P t (take j t.lines) labels s z

-- The state is on each side the strongest that is weaker than each of these.
abbrev pub AreStrongestOf : State → (Bool → List Label) → Type 0
AreStrongestOf new bs = (z : Bool) → IsStrongest (label_of new z) (bs z)

-- What a rule of one line answers, whatever it began with.
abbrev pub Gave : {X : Type 0} → Program → Thread → State → Result X Cause → List (ℕ × Premise) → (Bool → List Label) → Type 0
Gave P t new (Ok x) ps bs = Meets ps × AreStrongestOf new bs × IsOf P t new
Gave P t new (Err cause) ps bs = FailsFirst (premise_number cause) ps

-- of the same thread as a state of this one
pub of_same : (P : Program) (t : Thread) (new old : State) → IsOf P t old → IsOfSame new old → IsOf P t new
of_same P t new old h s = record { program = s.program ∙ h.program; flag = s.flag ∙ h.flag }

gives_any : {X : Type 0} (P : Program) (t : Thread) (old new : State) (x : Result X Cause) (ps : List (ℕ × Premise)) (bs : Bool → List Label) → IsOf P t old → Gives old new x ps bs → Gave P t new x ps bs
gives_any P t old new (Ok x) ps bs h g = (g.0, g.1.each, of_same P t new old h g.1.of)
gives_any P t old new (Err c) ps bs h g = g.0

-- Where a line is refused the state stays.
pub gives_stays : {X : Type 0} (old new : State) (x : Result X Cause) (ps : List (ℕ × Premise)) (bs : Bool → List Label) → Gives old new x ps bs → OnErr x (new ≡ old)
gives_stays old new (Ok x) ps bs g = tt
gives_stays old new (Err c) ps bs g = g.1

-- The state that it began with is of this program and this thread, and has these labels.
pub took : {X : Type 0} (P : Program) (t : Thread) (old new : State) (known : Sides) (x : Result X Cause) (F : Program → Option ℕ → Sides → List (ℕ × Premise)) (B : Program → Option ℕ → Sides → Bool → List Label) → IsOf P t old → sides_of old ≡ known → Gives old new x (F (program_of old) old.flag (sides_of old)) (B (program_of old) old.flag (sides_of old)) → Gave P t new x (F P t.flag known) (B P t.flag known)
took P t old new known x F B h q g =
    subst (λ l. Gave P t new x (F P t.flag l) (B P t.flag l)) q
    (subst (λ f. Gave P t new x (F P f (sides_of old)) (B P f (sides_of old))) h.flag
    (subst (λ (y : Program). Gave P t new x (F y old.flag (sides_of old)) (B y old.flag (sides_of old))) h.program (gives_any P t old new x (F (program_of old) old.flag (sides_of old)) (B (program_of old) old.flag (sides_of old)) h g)))

-- two of the same thread
pub same_of : (P : Program) (t : Thread) (s u : State) → IsOf P t s → IsOf P t u → IsOfSame s u
same_of P t s u h g = record { program = h.program ∙ sym g.program; flag = h.flag ∙ sym g.flag }

-- ---- what is kept, with labels of one place more

pub saved_on : (P : Program) (t : Thread) (labels : List Sides) (new : Sides) (o : ℕ) (s : State) → IsSaved P t labels o s → IsSaved P t (labels ++ new ∷ []) o s
saved_on P t labels new o s h = record { of = h.of; at = get_old labels (new ∷ []) o (sides_of s) h.at }

branch_on : (P : Program) (t : Thread) (j : ℕ) (labels : List Sides) (new : Sides) → length labels ≡ j + 1 → (o : ℕ) (x : Option State) → OnKept (IsBranch P t j labels) o x → OnKept (IsBranch P t (j + 1) (labels ++ new ∷ [])) o x
branch_on P t j labels new n o None h = h
branch_on P t j labels new n o (Some s) h =
    let lt : o < j = h.before in
    record { of = h.of; before = omega arith; at = λ z. h.at z ∙ ap (λ x. gate (may_skip t.flag z (stmt_at t.lines o)) (on z x)) (sym (get_or-append labels (new ∷ []) unreached o (omega (arith, n)))) }

branches_on : (P : Program) (t : Thread) (j : ℕ) (labels : List Sides) (new : Sides) → length labels ≡ j + 1 → (os : List ℕ) (xs : List (Option State)) → AreKept (OnKept (IsBranch P t j labels)) os xs → AreKept (OnKept (IsBranch P t (j + 1) (labels ++ new ∷ []))) os xs
branches_on P t j labels new n os xs h = kept_too (OnKept (IsBranch P t j labels)) (OnKept (IsBranch P t (j + 1) (labels ++ new ∷ []))) os xs (λ k o x e r. branch_on P t j labels new n o x r) h

meet_on : (P : Program) (t : Thread) (held : Locks) (n k : ℕ) (ends more : Bool → List Label) (s : State) → n ≤ k → ((z : Bool) → more z ≡ ends z) → IsMeet P t held n ends s → IsMeet P t held k more s
meet_on P t held n k ends more s l e h = record {
  of = h.of;
  strongest = λ z. subst (λ xs. IsStrongest (label_of s z) xs) (sym (e z)) (h.strongest z);
  fits = λ z. fits_more held n k (label_of s z) l (h.fits z);
}

module _ (P : Program) (t : Thread) (j : ℕ) (labels : List Sides) (new : Sides) where
  peeked_on : (o : ℕ) (a : Arms) → ((z : Bool) → arm_ends (take (j + 1) t.lines) (labels ++ new ∷ []) o z ≡ arm_ends (take j t.lines) labels o z) → IsPeeked P t j labels o a → IsPeeked P t (j + 1) (labels ++ new ∷ []) o a
  peeked_on o a e h = record {
    before = saved_on P t labels new (o + 1) a.before h.before;
    may = h.may;
    of = h.of;
    agree = ap (λ xs. agree_all (xs ++ arm_ends (take (j + 1) t.lines) (labels ++ new ∷ []) o false)) (e true) ∙ ap (λ ys. agree_all (arm_ends (take j t.lines) labels o true ++ ys)) (e false) ∙ h.agree;
    ends = λ q. meet_on P t (locks_in (blocks_at t.lines o)) (most_at j) (most_at (j + 1)) (arm_ends (take j t.lines) labels o) (arm_ends (take (j + 1) t.lines) (labels ++ new ∷ []) o) a.ends (omega arith) e (h.ends q);
  }

  pub loop_on : (o : ℕ) (x : Option State) → ((z : Bool) → break_ends (take (j + 1) t.lines) (labels ++ new ∷ []) o z ≡ break_ends (take j t.lines) labels o z) → OnKept (IsLoop P t j labels) o x → OnKept (IsLoop P t (j + 1) (labels ++ new ∷ [])) o x
  loop_on o None e h = h
  loop_on o (Some s) e h = record {
    breaks = meet_on P t (locks_in (blocks_at t.lines o)) (most_at j) (most_at (j + 1)) (break_ends (take j t.lines) labels o) (break_ends (take (j + 1) t.lines) (labels ++ new ∷ []) o) s (omega arith) e h.breaks;
    closed = h.closed;
  }

-- ---- at a line

module _ (P : Program) (t : Thread) (j : ℕ) (w : Walk) (r : Reaches P t j w) (s : Stmt) (e : stmt_at t.lines j ≡ Some s) where
  pub front : length (take j t.lines) ≡ j
  front = let lt : j < length t.lines = stands_within t.lines j s e in omega (arith, length-take j t.lines)

  sized : length r.labels ≡ length (take j t.lines) + 1
  sized = omega (arith, r.at.size, front)

  known_here : slice_index_or r.labels j unreached ≡ sides_of w.state
  known_here = get_or_from_slice_get r.labels j (sides_of w.state) unreached r.at.here.at

  -- the labels before the line are those of the walk's state
  pub here_is : sides_of w.state ≡ seen_at t j r.labels
  here_is = sym (ap (λ k. slice_index_or r.labels k unreached) front ∙ known_here)

  pub fits_here : (z : Bool) → Fits (locks_in (blocks_at t.lines j)) (most_at j) (label_of w.state z)
  fits_here z = r.at.fits j (sides_of w.state) r.at.here.at z

  line_here : (l : Line) × (slice_get t.lines j ≡ Some l) × (l.stmt ≡ s)
  line_here = line_with t.lines j s e

  pub refused : (v : ℕ) → FailsFirst v (asked_at P t j r.labels s) → (l : Line) × IsRefusedAt P t j l v
  refused v f = go line_here
    where
      go : (l : Line) × (slice_get t.lines j ≡ Some l) × (l.stmt ≡ s) → (l : Line) × IsRefusedAt P t j l v
      go l =
          let all : take (j + 1) r.labels ≡ r.labels = rw (← r.at.size, take-length) refl in
          (l.0, refused_at P t j l.0 r.labels v l.1 r.at.strongest (subst (λ x. FailsFirst v (asked_at P t j (take (j + 1) r.labels) x)) (sym l.2) (subst (λ ls. FailsFirst v (asked_at P t j ls s)) (sym all) f)))

  -- one line more
  behind : (l : Line) → slice_get t.lines j ≡ Some l → take (j + 1) t.lines ≡ take j t.lines ++ l ∷ []
  behind l is = rw add-one (take_suc_at t.lines j l is)

  pub arms_next : (new : Sides) (o : ℕ) (z : Bool) → arm_ends (take (j + 1) t.lines) (r.labels ++ new ∷ []) o z ≡ arm_ends (take j t.lines) r.labels o z ++ arm_end s o (label_of w.state z)
  arms_next new o z = go line_here
    where
      go : (l : Line) × (slice_get t.lines j ≡ Some l) × (l.stmt ≡ s) → arm_ends (take (j + 1) t.lines) (r.labels ++ new ∷ []) o z ≡ arm_ends (take j t.lines) r.labels o z ++ arm_end s o (label_of w.state z)
      go l =
          ap (λ ls. arm_ends ls (r.labels ++ new ∷ []) o z) (behind l.0 l.1) ∙ arms_more z (take j t.lines) l.0 r.labels new o sized
          ∙ ap (λ x. arm_ends (take j t.lines) r.labels o z ++ arm_end x o (label_at r.labels (length (take j t.lines)) z)) l.2
          ∙ ap (λ x. arm_ends (take j t.lines) r.labels o z ++ arm_end s o (on z x)) (sym here_is)

  pub breaks_next : (new : Sides) (o : ℕ) (z : Bool) → break_ends (take (j + 1) t.lines) (r.labels ++ new ∷ []) o z ≡ break_ends (take j t.lines) r.labels o z ++ break_end s o (label_of w.state z)
  breaks_next new o z = go line_here
    where
      go : (l : Line) × (slice_get t.lines j ≡ Some l) × (l.stmt ≡ s) → break_ends (take (j + 1) t.lines) (r.labels ++ new ∷ []) o z ≡ break_ends (take j t.lines) r.labels o z ++ break_end s o (label_of w.state z)
      go l =
          ap (λ ls. break_ends ls (r.labels ++ new ∷ []) o z) (behind l.0 l.1) ∙ breaks_more z (take j t.lines) l.0 r.labels new o sized
          ∙ ap (λ x. break_ends (take j t.lines) r.labels o z ++ break_end x o (label_at r.labels (length (take j t.lines)) z)) l.2
          ∙ ap (λ x. break_ends (take j t.lines) r.labels o z ++ break_end s o (on z x)) (sym here_is)

  -- after the line, with the labels of the state that the walk has there
  pub onward : (w' : Walk) → Meets (asked_at P t j r.labels s) → AreStrongestOf w'.state (lead_at P t j r.labels s) → IsOf P t w'.state → ((z : Bool) → Fits (locks_in (blocks_at t.lines (j + 1))) (most_at (j + 1)) (label_of w'.state z)) → Keeps P t (j + 1) (r.labels ++ sides_of w'.state ∷ []) w' → Reaches P t (j + 1) w'
  onward w' m b p f k = go line_here
    where
      there : slice_get (r.labels ++ sides_of w'.state ∷ []) (j + 1) ≡ Some (sides_of w'.state)
      there = ap (λ i. slice_get (r.labels ++ sides_of w'.state ∷ []) i) (sym r.at.size) ∙ get_new r.labels (sides_of w'.state) []

      fits_all : (i : ℕ) (x : Sides) → slice_get (r.labels ++ sides_of w'.state ∷ []) i ≡ Some x → (z : Bool) → Fits (locks_in (blocks_at t.lines i)) (most_at (j + 1)) (on z x)
      fits_all i x is z = elim (get_push r.labels (sides_of w'.state) i x is) [
        | inl h ↦ fits_more (locks_in (blocks_at t.lines i)) (most_at j) (most_at (j + 1)) (on z x) (omega arith) (r.at.fits i x h z)
        | inr h ↦ subst (λ y. Fits (locks_in (blocks_at t.lines i)) (most_at (j + 1)) (on z y)) h.1 (subst (λ n. Fits (locks_in (blocks_at t.lines n)) (most_at (j + 1)) (label_of w'.state z)) (sym (h.0 ∙ r.at.size)) (f z))
      ]

      go : (l : Line) × (slice_get t.lines j ≡ Some l) × (l.stmt ≡ s) → Reaches P t (j + 1) w'
      go l =
          let m' : Meets (asked_at P t j r.labels l.0.stmt) = subst (λ x. Meets (asked_at P t j r.labels x)) (sym l.2) m in
          let b' : AreStrongestOf w'.state (lead_at P t j r.labels l.0.stmt) = subst (λ x. AreStrongestOf w'.state (lead_at P t j r.labels x)) (sym l.2) b in
          let strong = goes_on P t (take j t.lines) r.labels l.0 (sides_of w'.state) sized r.at.strongest m' b' in
          let lt : j < length t.lines = stands_within t.lines j s e in
          record {
            made = r.made;
            thread = r.thread;
            labels = r.labels ++ sides_of w'.state ∷ [];
            at = record {
              within = omega arith;
              size = omega (arith, length-append r.labels (sides_of w'.state ∷ []), r.at.size);
              strongest = subst (λ ls. AreStrongest P t ls (r.labels ++ sides_of w'.state ∷ [])) (sym (behind l.0 l.1)) strong;
              here = record { of = p; at = there };
              fits = fits_all;
              keeps = k;
            };
          }

  pub passes : {X : Type 0} (w' : Walk) (x : Result X Cause) → Gave P t w'.state x (asked_at P t j r.labels s) (lead_at P t j r.labels s) → (AreStrongestOf w'.state (lead_at P t j r.labels s) → (z : Bool) → Fits (locks_in (blocks_at t.lines (j + 1))) (most_at (j + 1)) (label_of w'.state z)) → ((y : X) → x ≡ Ok y → Keeps P t (j + 1) (r.labels ++ sides_of w'.state ∷ []) w') → PassesLine P t j w' x
  passes w' (Ok y) g f k = onward w' g.0 g.1 g.2 (f g.1) (k y refl)
  passes w' (Err c) g f k = refused (premise_number c) g

  -- ---- what is kept of blocks that stay open

  module _ (new : Sides) where
    pub branches_stay : (os : List ℕ) (xs : List (Option State)) → AreKept (OnKept (IsBranch P t j r.labels)) os xs → AreKept (OnKept (IsBranch P t (j + 1) (r.labels ++ new ∷ []))) os xs
    branches_stay os xs h = branches_on P t j r.labels new r.at.size os xs h

    pub peek_stays : ((o : ℕ) (x : Label) → arm_end s o x ≡ []) → (os : List ℕ) (xs : List Arms) → AreKept (IsPeeked P t j r.labels) os xs → AreKept (IsPeeked P t (j + 1) (r.labels ++ new ∷ [])) os xs
    peek_stays n os xs h = kept_too (IsPeeked P t j r.labels) (IsPeeked P t (j + 1) (r.labels ++ new ∷ [])) os xs (λ k o a i p. peeked_on P t j r.labels new o a (λ z. arms_next new o z ∙ ap (λ ys. arm_ends (take j t.lines) r.labels o z ++ ys) (n o (label_of w.state z)) ∙ nothing_more (arm_ends (take j t.lines) r.labels o z)) p) h

    pub loops_stay : ((o : ℕ) (x : Label) → break_end s o x ≡ []) → (os : List ℕ) (xs : List (Option State)) → AreKept (OnKept (IsLoop P t j r.labels)) os xs → AreKept (OnKept (IsLoop P t (j + 1) (r.labels ++ new ∷ []))) os xs
    loops_stay n os xs h = kept_too (OnKept (IsLoop P t j r.labels)) (OnKept (IsLoop P t (j + 1) (r.labels ++ new ∷ []))) os xs (λ k o a i p. loop_on P t j r.labels new o a (λ z. breaks_next new o z ∙ ap (λ ys. break_ends (take j t.lines) r.labels o z ++ ys) (n o (label_of w.state z)) ∙ nothing_more (break_ends (take j t.lines) r.labels o z)) p) h
