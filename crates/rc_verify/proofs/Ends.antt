-- The ends of arms and the breaks of loops, with one line more.
use Rattle.std.proofs.Common.{◌≡◌, ℕ, ◌+◌, Bool, true, false, cond, nat_eq, List, [], ◌∷◌, ◌++◌, append_assoc, length, refl, sym, ap, ◌∙◌, arith}
use Rattle.std.proofs.lemmas.Bool.{eqb-true, eq-eqb}
use Rattle.rc_lang.specs.declared.lines.Line.{Line}
use Rattle.rc_lang.specs.declared.lines.Locks.{Locks}
use Rattle.rc_lang.specs.declared.lines.Stmt.TheVariants.{EndArm, Break}
use Rattle.rc_rules.specs.declared.mode.Peeked.TheVariants.{Unseen}
use Rattle.rc_rules.specs.Labels.{Label, Weaker, WeakerThanEach, IsStrongest}
use Rattle.rc_rules.specs.Labellings.{label_at, arm_end, arm_ends, break_end, break_ends}
use Rattle.rc_rules.specs.Rules.{broken, peek_at}
use Rattle.rc_rules.specs.Sides.{Sides, on}
use Rattle.rc_rules.proofs.Weaker.{weaker_each, weaker_trans}
use Rattle.rc_verify.proofs.Keeping.{nothing_more}

pub arms_more : (z : Bool) (lines : List Line) (l : Line) (labels : List Sides) (new : Sides) (o : ℕ) → length labels ≡ length lines + 1 → arm_ends (lines ++ l ∷ []) (labels ++ new ∷ []) o z ≡ arm_ends lines labels o z ++ arm_end l.stmt o (label_at labels (length lines) z)
arms_more z [] l [] new o e = absurd (omega (arith, e))
arms_more z [] l (x ∷ labels) new o e = nothing_more (arm_end l.stmt o (on z x))
arms_more z (m ∷ lines) l [] new o e = absurd (omega (arith, e))
arms_more z (m ∷ lines) l (x ∷ labels) new o e =
    let n : length labels ≡ length lines + 1 = omega (arith, e) in
    ap (λ xs. arm_end m.stmt o (on z x) ++ xs) (arms_more z lines l labels new o n) ∙ sym (append_assoc (arm_end m.stmt o (on z x)) (arm_ends lines labels o z) (arm_end l.stmt o (label_at labels (length lines) z)))

pub breaks_more : (z : Bool) (lines : List Line) (l : Line) (labels : List Sides) (new : Sides) (o : ℕ) → length labels ≡ length lines + 1 → break_ends (lines ++ l ∷ []) (labels ++ new ∷ []) o z ≡ break_ends lines labels o z ++ break_end l.stmt o (label_at labels (length lines) z)
breaks_more z [] l [] new o e = absurd (omega (arith, e))
breaks_more z [] l (x ∷ labels) new o e = nothing_more (break_end l.stmt o (on z x))
breaks_more z (m ∷ lines) l [] new o e = absurd (omega (arith, e))
breaks_more z (m ∷ lines) l (x ∷ labels) new o e =
    let n : length labels ≡ length lines + 1 = omega (arith, e) in
    ap (λ xs. break_end m.stmt o (on z x) ++ xs) (breaks_more z lines l labels new o n) ∙ sym (append_assoc (break_end m.stmt o (on z x)) (break_ends lines labels o z) (break_end l.stmt o (label_at labels (length lines) z)))

pub own_arm : (o : ℕ) (s : Label) → arm_end (EndArm o) o s ≡ peek_at Unseen s ∷ []
own_arm o s = ap (λ b. cond b (peek_at Unseen s ∷ []) []) (eq-eqb o o refl)

pub own_break : (o : ℕ) (releases : Locks) (leaves : Bool) (s : Label) → break_end (Break o releases leaves) o s ≡ broken releases s ∷ []
own_break o releases leaves s = ap (λ b. cond b (broken releases s ∷ []) []) (eq-eqb o o refl)

pub other_break : (p o : ℕ) (releases : Locks) (leaves : Bool) (s : Label) → (p ≡ o → ⊥) → break_end (Break p releases leaves) o s ≡ []
other_break p o releases leaves s d = go (nat_eq p o) refl
  where
    go : (b : Bool) → nat_eq p o ≡ b → cond b (broken releases s ∷ []) [] ≡ []
    go true e = absurd (d (eqb-true p o e))
    go false e = refl

-- ---- the strongest of a list and one more

each_more : (s : Label) (xs : List Label) (y : Label) → WeakerThanEach s xs → Weaker s y → WeakerThanEach s (xs ++ y ∷ [])
each_more s [] y w v = (v, tt)
each_more s (x ∷ xs) y w v = (w.0, each_more s xs y w.1 v)

each_front : (s : Label) (xs : List Label) (y : Label) → WeakerThanEach s (xs ++ y ∷ []) → WeakerThanEach s xs × Weaker s y
each_front s [] y w = (tt, w.0)
each_front s (x ∷ xs) y w = let r = each_front s xs y w.1 in ((w.0, r.0), r.1)

pub strongest_more : (new m e y : Label) (xs : List Label) → IsStrongest m xs → IsStrongest e (y ∷ []) → IsStrongest new (m ∷ e ∷ []) → IsStrongest new (xs ++ y ∷ [])
strongest_more new m e y xs h k b = record {
  weaker = each_more new xs y (weaker_each new m xs b.weaker.0 h.weaker) (weaker_trans new e y b.weaker.1.0 k.weaker.0);
  strongest = λ t w. let r = each_front t xs y w in b.strongest t (h.strongest t r.0, (k.strongest t (r.1, tt), tt));
}
