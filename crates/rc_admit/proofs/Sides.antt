-- What a step does to the side of its flag on which a thread is.
use Rattle.std.proofs.Common.{◌≡◌, ℕ, ◌<◌, inl, inr, Bool, true, false, ◌&&◌, not, cond, List, ◌++◌, length, Option, Some, None, refl, sym, ap, ◌∙◌, subst, arith, eq-eqb}
use Rattle.std.specs.Prelude.{slice_index_or, slice_set, ℤ, pos}
use Rattle.std.specs.Ordering.{int_eq}
use Rattle.std.proofs.lemmas.Bool.{cases_eq, ne_eqb}
use Rattle.std.proofs.lemmas.Bool.Decides.{Decides-int_eq}
use Rattle.std.proofs.lemmas.List.{get_or-set_other, get_or-set_same, length-set}
use Rattle.rc_lang.specs.Comparisons.{compares}
use Rattle.rc_lang.specs.declared.lines.Comparison.{Comparison}
use Rattle.rc_lang.specs.declared.lines.Comparison.TheVariants.{Equal, NotEqual, Less, AtMost, Greater, AtLeast}
use Rattle.rc_lang.specs.declared.lines.Op.{Op}
use Rattle.rc_lang.specs.declared.lines.Op.TheVariants.{Set, Assign, Add, Subtract, Load, Submit, SubmitAndWait}
use Rattle.rc_lang.specs.declared.lines.Test.{Test}
use Rattle.rc_lang.specs.declared.lines.Test.TheVariants.{Compare, ReadyZero, SpaceAtLeast, Take, Any}
use Rattle.rc_rules.specs.Labels.{Label, Weaker, WeakerThanEach}
use Rattle.rc_rules.specs.Premises.{Meets, Premise}
use Rattle.rc_rules.specs.declared.flag.Write.{Write}
use Rattle.rc_rules.specs.declared.flag.Write.TheVariants.{Anything, Number, Untouched}
use Rattle.rc_rules.specs.Sides.{brings, forgets, gate, same_side, side_goes, test_goes, turns, write_of, write_to}
use Rattle.rc_rules.proofs.Weaker.{meets_left, meets_right}
use Rattle.rc_admit.proofs.Owned.{MayBecome, MayPass}

-- the side of a thread that has these variables; without a flag there is one alone
abbrev pub side_of : Option ℕ → List ℤ → Bool
side_of None vars = true
side_of (Some f) vars = int_eq (slice_index_or vars f (pos 0)) (pos 0)

-- The flag has a place among the variables.
abbrev pub IsStored : Option ℕ → List ℤ → Type 0
IsStored None vars = Unit {0}
IsStored (Some f) vars = f < length vars

same_same : (z : Bool) → same_side z z ≡ true
same_same true = refl
same_same false = refl

-- ---- writes

pub stored_set : (flag : Option ℕ) (vars : List ℤ) (x : ℕ) (v : ℤ) → IsStored flag vars → IsStored flag (slice_set vars x v)
stored_set None vars x v h = tt
stored_set (Some f) vars x v h = let l : length (slice_set vars x v) ≡ length vars = length-set vars x v in let h' : f < length vars = h in omega arith

-- A variable is set: where it is the flag, the side is as this write says, and else it stays.
set_turns : (flag : Option ℕ) (vars : List ℤ) (x : ℕ) (v : ℤ) (w : Write) → IsStored flag vars → turns w (side_of flag vars) (int_eq v (pos 0)) ≡ true → turns (write_to flag x w) (side_of flag vars) (side_of flag (slice_set vars x v)) ≡ true
set_turns None vars x v w h t = refl
set_turns (Some f) vars x v w h t = elim (cases_eq f x) [
  | inl e ↦
      let new : slice_index_or (slice_set vars x v) f (pos 0) ≡ v = ap (λ j. slice_index_or (slice_set vars j v) f (pos 0)) (sym e) ∙ get_or-set_same vars f v (pos 0) h in
      subst (λ c. turns (cond c w Untouched) (int_eq (slice_index_or vars f (pos 0)) (pos 0)) (int_eq (slice_index_or (slice_set vars x v) f (pos 0)) (pos 0)) ≡ true) (sym (eq-eqb f x e))
      (subst (λ n. turns w (int_eq (slice_index_or vars f (pos 0)) (pos 0)) (int_eq n (pos 0)) ≡ true) (sym new) t)
  | inr e ↦
      let old : slice_index_or (slice_set vars x v) f (pos 0) ≡ slice_index_or vars f (pos 0) = get_or-set_other vars x f v (pos 0) (λ d. e d) in
      subst (λ c. turns (cond c w Untouched) (int_eq (slice_index_or vars f (pos 0)) (pos 0)) (int_eq (slice_index_or (slice_set vars x v) f (pos 0)) (pos 0)) ≡ true) (sym (ne_eqb f x (λ d. e d)))
      (subst (λ n. same_side (int_eq (slice_index_or vars f (pos 0)) (pos 0)) (int_eq n (pos 0)) ≡ true) (sym old) (same_same (int_eq (slice_index_or vars f (pos 0)) (pos 0))))
]

pub any_turns : (flag : Option ℕ) (vars : List ℤ) (x : ℕ) (v : ℤ) → IsStored flag vars → turns (write_to flag x Anything) (side_of flag vars) (side_of flag (slice_set vars x v)) ≡ true
any_turns flag vars x v h = set_turns flag vars x v Anything h refl

-- The side after a statement is one that its write to the flag allows, and the flag stays stored.
pub record TurnsTo (flag : Option ℕ) (w : Write) (vars new : List ℤ) : Type 0 where
  pub turns_to : turns w (side_of flag vars) (side_of flag new) ≡ true
  pub stored : IsStored flag new

after_set : (flag : Option ℕ) (vars new : List ℤ) (x : ℕ) (v : ℤ) (w : Write) → IsStored flag vars → new ≡ slice_set vars x v → turns w (side_of flag vars) (int_eq v (pos 0)) ≡ true → TurnsTo flag (write_to flag x w) vars new
after_set flag vars new x v w h e t = subst (λ n. TurnsTo flag (write_to flag x w) vars n) (sym e) (record { turns_to = set_turns flag vars x v w h t; stored = stored_set flag vars x v h })

pub op_turns : (flag : Option ℕ) (op : Op) (vars new : List ℤ) → IsStored flag vars → MayBecome op vars new → TurnsTo flag (write_of flag op) vars new
op_turns flag (Set x n) vars new h e = after_set flag vars new x n (Number n) h e (same_same (int_eq n (pos 0)))
op_turns flag (Assign x y) vars new h e = after_set flag vars new x e.0 Anything h e.1 refl
op_turns flag (Add x a b) vars new h e = after_set flag vars new x e.0 Anything h e.1 refl
op_turns flag (Subtract x a b) vars new h e = after_set flag vars new x e.0 Anything h e.1 refl
op_turns flag (Load x b i) vars new h e = after_set flag vars new x e.0 Anything h e.1 refl
op_turns flag (Submit x) vars new h e = after_set flag vars new x e.0 Anything h e.1 refl
op_turns flag (SubmitAndWait x n) vars new h e = after_set flag vars new x e.0 Anything h e.1 refl
op_turns flag _ vars new h e = subst (λ n. TurnsTo flag Untouched vars n) (sym e) (record { turns_to = same_same (side_of flag vars); stored = h })

-- at the top of a loop, first and later
pub loop_turns : (flag : Option ℕ) (old new : List ℤ) → turns (forgets flag) (side_of flag old) (side_of flag new) ≡ true
loop_turns None old new = refl
loop_turns (Some f) old new = refl

-- ---- tests

-- a comparison of a flag that isn't 0
other_may : (c : Comparison) (v n : ℤ) (b : Bool) → int_eq v (pos 0) ≡ false → compares c v n ≡ b → side_goes c n false b ≡ true
other_may Equal v n b d e = go (int_eq n (pos 0)) refl
  where
    go : (x : Bool) → int_eq n (pos 0) ≡ x → not (x && same_side (int_eq (pos 0) n) b) ≡ true
    go true f =
        let m : n ≡ pos 0 = (Decides-int_eq n (pos 0)).0 f in
        ap (λ k. not (same_side (int_eq (pos 0) k) b)) m ∙ ap not (sym e ∙ ap (λ k. int_eq v k) m ∙ d)
    go false f = refl
other_may NotEqual v n b d e = go (int_eq n (pos 0)) refl
  where
    go : (x : Bool) → int_eq n (pos 0) ≡ x → not (x && same_side (not (int_eq (pos 0) n)) b) ≡ true
    go true f =
        let m : n ≡ pos 0 = (Decides-int_eq n (pos 0)).0 f in
        ap (λ k. not (same_side (not (int_eq (pos 0) k)) b)) m ∙ ap (λ y. not (not y)) (sym e ∙ ap (λ k. not (int_eq v k)) m ∙ ap not d)
    go false f = refl
other_may Less v n b d e = refl
other_may AtMost v n b d e = refl
other_may Greater v n b d e = refl
other_may AtLeast v n b d e = refl

-- a comparison of the flag, by what it is
side_may : (c : Comparison) (v n : ℤ) (b : Bool) → compares c v n ≡ b → side_goes c n (int_eq v (pos 0)) b ≡ true
side_may c v n b e = go (int_eq v (pos 0)) refl
  where
    go : (x : Bool) → int_eq v (pos 0) ≡ x → side_goes c n x b ≡ true
    go true f = let m : v ≡ pos 0 = (Decides-int_eq v (pos 0)).0 f in subst (λ y. same_side (compares c (pos 0) n) y ≡ true) (ap (λ k. compares c k n) (sym m) ∙ e) (same_same (compares c (pos 0) n))
    go false f = other_may c v n b f e

-- A test takes the side to this branch.
pub test_may : (flag : Option ℕ) (test : Test) (vars : List ℤ) (b : Bool) → MayPass test vars b → test_goes flag test (side_of flag vars) b ≡ true
test_may None (Compare x c n) vars b h = refl
test_may (Some f) (Compare x c n) vars b h = elim (cases_eq f x) [
  | inl e ↦
      subst (λ y. cond y (side_goes c n (int_eq (slice_index_or vars f (pos 0)) (pos 0)) b) true ≡ true) (sym (eq-eqb f x e))
      (side_may c (slice_index_or vars f (pos 0)) n b (subst (λ y. compares c (slice_index_or vars y (pos 0)) n ≡ b) (sym e) h))
  | inr e ↦ subst (λ y. cond y (side_goes c n (int_eq (slice_index_or vars f (pos 0)) (pos 0)) b) true ≡ true) (sym (ne_eqb f x (λ d. e d))) refl
]
test_may flag ReadyZero vars b h = refl
test_may flag (SpaceAtLeast n) vars b h = refl
test_may flag (Take pool k) vars b h = refl
test_may flag Any vars b h = refl

-- ---- ways

pub ungate : (g : Bool) (t s : Label) → g ≡ true → Weaker t (gate g s) → Weaker t s
ungate true t s e w = w
ungate false t s e w = absurd (cc)

-- one of the ways from both sides
pub brought : (may : Bool → Bool) (F : Label → Label) (before : Bool → Label) (t : Label) (y : Bool) → may y ≡ true → WeakerThanEach t (brings may F before) → Weaker t (F (before y))
brought may F before t true e h = ungate (may true) t _ e h.0
brought may F before t false e h = ungate (may false) t _ e h.1.0

-- ---- premises of a side

pub meets_side : (F : Bool → List (ℕ × Premise)) (z : Bool) → Meets (F true ++ F false) → Meets (F z)
meets_side F true h = meets_left (F true) (F false) h
meets_side F false h = meets_right (F true) (F false) h
