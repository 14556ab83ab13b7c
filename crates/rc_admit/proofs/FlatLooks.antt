-- What is found among lines: the arms that a peek leads to, the ends of arms, and the breaks of a loop.
use Rattle.std.proofs.Common.{◌≡◌, ℕ, zero, suc, ◌+◌, ◌-◌, ◌<◌, ◌≤◌, Bool, true, false, cond, List, [], ◌∷◌, ◌++◌, length, get_or, take, drop, ltb, Option, Some, None, refl, sym, ap, ◌∙◌, subst, ◌⊎◌, inl, inr, arith}
use Rattle.std.specs.Prelude.{nat_eq, slice_get, unwrap_or}
use Rattle.std.specs.List.{position_or_len}
use Rattle.std.proofs.lemmas.Bool.{and_parts, eq-eqb, eqb-true, ltb-false}
use Rattle.std.proofs.lemmas.List.Quantifiers.{position-Some}
use Rattle.std.proofs.lemmas.List.Sums.{fails_before_first}
use Rattle.std.proofs.lemmas.Option.{get_or_from_slice_get, slice_get-get_or, slice_get_within}
use Rattle.rc_lang.specs.declared.lines.Line.{Line}
use Rattle.rc_lang.specs.declared.lines.Locks.{Locks}
use Rattle.rc_lang.specs.declared.lines.Stmt.{Stmt}
use Rattle.rc_lang.specs.declared.lines.Stmt.TheVariants.{Case, Other, Nothing, EndArm, Break}
use Rattle.rc_lang.specs.Program.{Program, end_at, lines_of, stmt_at, stmt_of}
use Rattle.rc_lang.proofs.Lookups.{line_with}
use Rattle.rc_rules.specs.declared.mode.Peeked.TheVariants.{Unseen}
use Rattle.rc_rules.specs.Labels.{Label, Weaker, WeakerThanEach}
use Rattle.rc_rules.specs.Labellings.{arm_end, arm_ends, break_end, break_ends, label_at}
use Rattle.rc_rules.specs.Rules.{broken, peek_at}
use Rattle.rc_rules.specs.Sides.{Sides}
use Rattle.rc_world.specs.Controls.{arm_for, arms_of, first_place, is_case, is_none_arm, is_other, none_arm}
use Rattle.rc_rules.proofs.Weaker.{label_drop}
use Rattle.rc_world.proofs.Lists.{get_take as get_taken}

-- ---- lists

pub get_take : {A : Type 0} (n k : ℕ) (xs : List A) (x : A) → k < n → slice_get xs k ≡ Some x → slice_get (take n xs) k ≡ Some x
get_take zero k xs x lt e = absurd (omega arith)
get_take (suc n) k [] x lt e = e
get_take (suc n) zero (y ∷ xs) x lt e = e
get_take (suc n) (suc k) (y ∷ xs) x lt e = get_take n k xs x (omega arith) e

get_drop : {A : Type 0} (o k : ℕ) (xs : List A) → slice_get (drop o xs) k ≡ slice_get xs (o + k)
get_drop zero k xs = let n : 0 + k ≡ k = omega arith in ap (λ j. slice_get xs j) (sym n)
get_drop (suc o) k [] = refl
get_drop (suc o) k (x ∷ xs) = let n : suc o + k ≡ suc (o + k) = omega arith in get_drop o k xs ∙ ap (λ j. slice_get (x ∷ xs) j) (sym n)

pub len_take : {A : Type 0} (k : ℕ) (xs : List A) (x : A) → slice_get xs k ≡ Some x → length (take k xs) ≡ k
len_take k [] x e = absurd (cc)
len_take zero (y ∷ xs) x e = refl
len_take (suc k) (y ∷ xs) x e = ap suc (len_take k xs x e)

-- ---- the first line that passes a test

module _ (test : Stmt → Bool) (lines : List Line) where
  abbrev passes : Line → Bool
  passes l = test l.stmt

  place_there : (k : ℕ) (l : Line) → slice_get lines k ≡ Some l → test l.stmt ≡ true → (j : ℕ) × (first_place test lines ≡ Some j)
  place_there k l e h = (position_or_len passes lines, found (ltb (position_or_len passes lines) (length lines)) refl)
    where
      found : (x : Bool) → ltb (position_or_len passes lines) (length lines) ≡ x → cond x (Some (position_or_len passes lines)) None ≡ Some (position_or_len passes lines)
      found true f = refl
      found false f =
          let past : length lines ≤ position_or_len passes lines = ltb-false _ _ f in
          let lt : k < length lines = slice_get_within lines k l e in
          let fails : passes (get_or lines k l) ≡ false = fails_before_first passes lines k l (omega arith) in
          let g : passes (get_or lines k l) ≡ true = ap passes (get_or_from_slice_get lines k l l e) ∙ h in
          absurd (cc)

  place_passes : (j : ℕ) (d : Line) → first_place test lines ≡ Some j → (l : Line) × (slice_get lines j ≡ Some l) × (test l.stmt ≡ true)
  place_passes j d e = let f = position-Some passes lines j d e in (get_or lines j d, slice_get-get_or lines j d f.0, f.1)

-- ---- the arms of a peek

case_is : (o u : ℕ) (s : Stmt) → is_case o u s ≡ true → s ≡ Case o u
case_is o u (Case p v) e =
    let h = and_parts (nat_eq p o) (nat_eq v u) e in
    let x : p ≡ o = eqb-true p o h.0 in
    let y : v ≡ u = eqb-true v u h.1 in
    cc
case_is o u _ e = absurd (cc)

other_is : (o : ℕ) (s : Stmt) → is_other o s ≡ true → s ≡ Other o
other_is o (Other p) e = ap Other (eqb-true p o e)
other_is o _ e = absurd (cc)

none_is : (o : ℕ) (s : Stmt) → is_none_arm o s ≡ true → s ≡ Nothing o
none_is o (Nothing p) e = ap Nothing (eqb-true p o e)
none_is o _ e = absurd (cc)

module _ (P : Program) (i o : ℕ) where
  -- The line is between the peek and its closing brace.
  pub record IsBetween (p : ℕ) (s : Stmt) : Type 0 where
    pub stands : stmt_at (lines_of P i) p ≡ Some s
    pub behind : o < p
    pub before : p < end_at P i o

  among : (p : ℕ) (l : Line) → slice_get (lines_of P i) p ≡ Some l → o < p → p < end_at P i o → slice_get (arms_of P i o) (p - o) ≡ Some l
  among p l e gt lt =
      let n : o + (p - o) ≡ p = omega arith in
      get_take (end_at P i o - o) (p - o) (drop o (lines_of P i)) l (omega arith) (get_drop o (p - o) (lines_of P i) ∙ ap (λ j. slice_get (lines_of P i) j) n ∙ e)

  found : (test : Stmt → Bool) (j : ℕ) (d : Line) → first_place test (arms_of P i o) ≡ Some j → (s : Stmt) × (stmt_at (lines_of P i) (o + j) ≡ Some s) × (test s ≡ true)
  found test j d e =
      let f = place_passes test (arms_of P i o) j d e in
      (f.0.stmt, ap stmt_of (sym (get_drop o j (lines_of P i)) ∙ get_taken (end_at P i o - o) (drop o (lines_of P i)) j f.0 f.1), f.2)

  there : (test : Stmt → Bool) (p : ℕ) (s : Stmt) → IsBetween p s → test s ≡ true → (j : ℕ) × (t : Stmt) × (first_place test (arms_of P i o) ≡ Some j) × (stmt_at (lines_of P i) (o + j) ≡ Some t) × (test t ≡ true)
  there test p s b h =
      let l = line_with (lines_of P i) p s b.stands in
      let j = place_there test (arms_of P i o) (p - o) l.0 (among p l.0 l.1 b.behind b.before) (ap test l.2 ∙ h) in
      let f = found test j.0 l.0 j.1 in
      (j.0, f.0, j.1, f.1, f.2)

  -- A completion leads into an arm for its user data, or into that for any other,
  pub arm_is : (u p : ℕ) → IsBetween p (Other o) → (stmt_at (lines_of P i) (arm_for P i o u) ≡ Some (Case o u)) ⊎ (stmt_at (lines_of P i) (arm_for P i o u) ≡ Some (Other o))
  arm_is u p b = go (first_place (is_case o u) (arms_of P i o)) refl
    where
      go : (x : Option ℕ) → first_place (is_case o u) (arms_of P i o) ≡ x → (stmt_at (lines_of P i) (o + unwrap_or x (unwrap_or (first_place (is_other o) (arms_of P i o)) 0)) ≡ Some (Case o u)) ⊎ (stmt_at (lines_of P i) (o + unwrap_or x (unwrap_or (first_place (is_other o) (arms_of P i o)) 0)) ≡ Some (Other o))
      go (Some j) e = let f = found (is_case o u) j (line_with (lines_of P i) p (Other o) b.stands).0 e in inl (f.1 ∙ ap Some (case_is o u f.0 f.2))
      go None e =
          let f = there (is_other o) p (Other o) b (eq-eqb o o refl) in
          let w : unwrap_or (first_place (is_other o) (arms_of P i o)) 0 ≡ f.0 = ap (λ x. unwrap_or x 0) f.2 in
          inr (ap (λ j. stmt_at (lines_of P i) (o + j)) w ∙ f.3 ∙ ap Some (other_is o f.1 f.4))

  -- and none leads into that for none.
  pub none_is_at : (p : ℕ) → IsBetween p (Nothing o) → stmt_at (lines_of P i) (none_arm P i o) ≡ Some (Nothing o)
  none_is_at p b =
      let f = there (is_none_arm o) p (Nothing o) b (eq-eqb o o refl) in
      let w : unwrap_or (first_place (is_none_arm o) (arms_of P i o)) 0 ≡ f.0 = ap (λ x. unwrap_or x 0) f.2 in
      ap (λ j. stmt_at (lines_of P i) (o + j)) w ∙ f.3 ∙ ap Some (none_is o f.1 f.4)

-- ---- ends of arms, and breaks

each_left : (t : Label) (xs ys : List Label) → WeakerThanEach t (xs ++ ys) → WeakerThanEach t xs
each_left t [] ys h = tt
each_left t (x ∷ xs) ys h = (h.0, each_left t xs ys h.1)

each_right : (t : Label) (xs ys : List Label) → WeakerThanEach t (xs ++ ys) → WeakerThanEach t ys
each_right t [] ys h = h
each_right t (x ∷ xs) ys h = each_right t xs ys h.1

-- The end of an arm is among those of its peek.
pub arm_in : (z : Bool) (lines : List Line) (labels : List Sides) (t : Label) (k o : ℕ) (l : Line) → slice_get lines k ≡ Some l → l.stmt ≡ EndArm o → WeakerThanEach t (arm_ends lines labels o z) → Weaker t (peek_at Unseen (label_at labels k z))
arm_in z [] labels t k o l e s h = absurd (cc)
arm_in z (m ∷ lines) labels t zero o l e s h =
    let x : m.stmt ≡ EndArm o = cc in
    let y : arm_end m.stmt o (label_at labels 0 z) ≡ peek_at Unseen (label_at labels 0 z) ∷ [] = ap (λ s. arm_end s o (label_at labels 0 z)) x ∙ ap (λ b. cond b (peek_at Unseen (label_at labels 0 z) ∷ []) []) (eq-eqb o o refl) in
    (subst (λ ss. WeakerThanEach t ss) y (each_left t (arm_end m.stmt o (label_at labels 0 z)) (arm_ends lines (drop 1 labels) o z) h)).0
arm_in z (m ∷ lines) labels t (suc k) o l e s h =
    subst (λ s. Weaker t (peek_at Unseen s)) (label_drop labels k z) (arm_in z lines (drop 1 labels) t k o l e s (each_right t (arm_end m.stmt o (label_at labels 0 z)) (arm_ends lines (drop 1 labels) o z) h))

-- A break is among those of its loop.
pub break_in : (z : Bool) (lines : List Line) (labels : List Sides) (t : Label) (k o : ℕ) (releases : Locks) (leaves : Bool) (l : Line) → slice_get lines k ≡ Some l → l.stmt ≡ Break o releases leaves → WeakerThanEach t (break_ends lines labels o z) → Weaker t (broken releases (label_at labels k z))
break_in z [] labels t k o r v l e s h = absurd (cc)
break_in z (m ∷ lines) labels t zero o r v l e s h =
    let x : m.stmt ≡ Break o r v = cc in
    let y : break_end m.stmt o (label_at labels 0 z) ≡ broken r (label_at labels 0 z) ∷ [] = ap (λ s. break_end s o (label_at labels 0 z)) x ∙ ap (λ b. cond b (broken r (label_at labels 0 z) ∷ []) []) (eq-eqb o o refl) in
    (subst (λ ss. WeakerThanEach t ss) y (each_left t (break_end m.stmt o (label_at labels 0 z)) (break_ends lines (drop 1 labels) o z) h)).0
break_in z (m ∷ lines) labels t (suc k) o r v l e s h =
    subst (λ s. Weaker t (broken r s)) (label_drop labels k z) (break_in z lines (drop 1 labels) t k o r v l e s (each_right t (break_end m.stmt o (label_at labels 0 z)) (break_ends lines (drop 1 labels) o z) h))
