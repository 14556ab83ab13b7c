-- Two states that join: arms, breaks, and the ends of branches.
use Rattle.std.proofs.Common.{◌≡◌, ℕ, ◌<◌, Bool, true, false, ◌&&◌, List, [], ◌∷◌, ◌++◌, Option, Some, Result, Ok, Err, refl, sym, ap, subst, ◌∙◌, arith}
use Rattle.std.specs.Result.{is_ok}
use Rattle.rc_lang.specs.declared.lines.Locks.{Locks}
use Rattle.rc_lang.specs.declared.lines.Stmt.TheVariants.{Break}
use Rattle.rc_rules.specs.declared.cause.Cause.{Cause}
use Rattle.rc_rules.specs.Causes.{premise_number}
use Rattle.rc_rules.specs.Labels.{Label, Dead, Live, Weaker, IsStrongest}
use Rattle.rc_rules.specs.Premises.{Premise, Is, Meets, FailsFirst}
use Rattle.rc_rules.specs.Rules.{agree, agree_all, joins_both}
use Rattle.rc_rules.specs.States.{asked_alike, State, Becomes, IsOfSame, label_of, program_of, AgreeOnLocks, Gives}
use Rattle.rc_rules.proofs.AgreeGrows.{agree_grows}
use Rattle.rc_rules.proofs.Weaker.{locks_same, meets_left, meets_right, not_both, weaker_refl}
use Rattle.rc_verify.specs.declared.arms.Arms.{Arms}
use Rattle.rc_verify.specs.Arms.{Joins, JoinsOn, two}
use Rattle.rc_verify.specs.Stack.{last_of, rest_of}
use Rattle.rc_verify.specs.Loops.{Breaks, FitsWith, KeepsMeet, MayBreak, taken}

-- ---- labels that say the same

pub below : (s t : Label) → IsStrongest s (t ∷ []) → Weaker s t
below s t h = h.weaker.0

pub above : (s t : Label) → IsStrongest s (t ∷ []) → Weaker t s
above s t h = h.strongest t (weaker_refl t, tt)

pub alike_same : (a e t : Label) → Weaker e t → Weaker t e → AgreeOnLocks a t → AgreeOnLocks a e
alike_same Dead e t v w h = tt
alike_same (Live a m) Dead t v w h = tt
alike_same (Live a m) (Live b n) Dead v w h = absurd w
alike_same (Live a m) (Live b n) (Live c k) v w h = locks_same n k v.1 ∙ h

-- ---- both sides of a state

-- what both sides meet, each does
pub each_meets : (labels : Bool → Label) (F : Label → List (ℕ × Premise)) → Meets (F (labels true) ++ F (labels false)) → (z : Bool) → Meets (F (labels z))
each_meets labels F h true = meets_left (F (labels true)) (F (labels false)) h
each_meets labels F h false = meets_right (F (labels true)) (F (labels false)) h

same_state : (s t : State) → s ≡ t → IsOfSame s t
same_state s t e = record { program = ap program_of e; flag = ap (λ (x : State). x.flag) e }

-- ---- two that join

abbrev AllAgree : List Label → List (ℕ × Premise)
AllAgree ends = (15, Is (agree_all ends)) ∷ []

join_all : (ends : List Label) → agree_all ends ≡ true → Meets (AllAgree ends)
join_all ends e = (e, tt)

pub differ_all : (ends : List Label) (n : ℕ) → FailsFirst n (AllAgree ends) → agree_all ends ≡ false
differ_all ends n f = go (agree_all ends) refl
  where
    go : (b : Bool) → agree_all ends ≡ b → b ≡ false
    go true e = absurd (not_both n _ (join_all ends e) f)
    go false e = refl

pub fails_join : (ends : List Label) → agree_all ends ≡ false → FailsFirst 15 (AllAgree ends)
fails_join ends e = record { below = (λ lt. absurd (not_less lt), tt); fails = λ m. absurd (cc (m.0 (omega arith), e)) }
  where
    not_less : 15 < 15 → ⊥
    not_less lt = omega arith

pub joins : {X : Type 0} (old new : State) (end : Bool → Label) (x : Result X Cause) → Gives old new x (joins_both (two (label_of old) end)) (two (label_of old) end) → Joins old new end (is_ok x) × IsOfSame new old
joins old new end (Ok x) g = (g, g.1.of)
joins old new end (Err c) g = let ends = two (label_of old) end true ++ two (label_of old) end false in ((fails_join ends (differ_all ends (premise_number c) g.0), g.1), same_state new old g.1)

meets_always : {X : Type 0} (old new : State) (end : Bool → Label) (x : Result X Cause) → Meets (joins_both (two (label_of old) end)) → Gives old new x (joins_both (two (label_of old) end)) (two (label_of old) end) → Becomes old new (two (label_of old) end)
meets_always old new end (Ok x) m g = g.1
meets_always old new end (Err c) m g = absurd (not_both (premise_number c) _ m g.0)

-- ---- an arm's end

-- It joins those before it,
pub arm_joins : {X : Type 0} (old : Arms) (end : Bool → Label) (new : State) (x : Result X Cause) (b : Bool) → old.agree ≡ true → Gives old.ends new x (joins_both (two (label_of old.ends) end)) (two (label_of old.ends) end) → b ≡ is_ok x → JoinsOn old.ends new end b old.agree
arm_joins old end new x b e g f = subst (λ a. JoinsOn old.ends new end b a) (sym e) (subst (λ a. Joins old.ends new end a) (sym f) (joins old.ends new end x g).0)

-- or they don't agree anyway.
pub arm_passes : (old : Arms) (end : Bool → Label) → old.agree ≡ false → JoinsOn old.ends old.ends end old.agree old.agree
arm_passes old end e = subst (λ a. JoinsOn old.ends old.ends end old.agree a) (sym e) e

-- ---- a break's end

pub break_joins : {X : Type 0} (s t new end : State) (old rest kept : List (Option State)) (x : Result X Cause) → last_of old ≡ Some t → last_of old ≡ Some s → FitsWith s end → Gives t new x (joins_both (two (label_of t) (label_of end))) (two (label_of t) (label_of end)) → rest ≡ rest_of old → kept ≡ rest ++ Some new ∷ [] → KeepsMeet s (label_of end) old kept
break_joins s t new end old rest kept x p q f g r k =
    let e : t ≡ s = cc in
    let g' : Gives s new x (joins_both (two (label_of s) (label_of end))) (two (label_of s) (label_of end)) = subst (λ (y : State). Gives y new x (joins_both (two (label_of y) (label_of end))) (two (label_of y) (label_of end))) e g in
    record { state = new; kept = k ∙ ap (λ xs. xs ++ Some new ∷ []) r; meet = meets_always s new (label_of end) x f.agree g' }

-- Ends that say the same as these agree as they do.
agree_too : (m n x y e f : Label) → Weaker x e → Weaker y f → agree_all (m ∷ x ∷ n ∷ y ∷ []) ≡ true → agree_all (m ∷ e ∷ n ∷ f ∷ []) ≡ true
agree_too m n x y e f v w h = more (agree m x) (agree m e) (agree m n) (agree m y) (agree m f) (agree x n) (agree e n) (agree x y) (agree e f) (agree n y) (agree n f) (agree_grows m x m e (weaker_refl m) v) (agree_grows m y m f (weaker_refl m) w) (agree_grows x n e n v (weaker_refl n)) (agree_grows x y e f v w) (agree_grows n y n f (weaker_refl n) w) h
  where
    more : (a a' b c c' d d' k k' l l' : Bool) → (a ≡ true → a' ≡ true) → (c ≡ true → c' ≡ true) → (d ≡ true → d' ≡ true) → (k ≡ true → k' ≡ true) → (l ≡ true → l' ≡ true) → ((a && (b && (c && true))) && ((d && (k && true)) && ((l && true) && (true && true)))) ≡ true → ((a' && (b && (c' && true))) && ((d' && (k' && true)) && ((l' && true) && (true && true)))) ≡ true
    more true a' true true c' true d' true k' true l' p q r s t h = rw (p refl, q refl, r refl, s refl, t refl) refl
    more false a' b c c' d d' k k' l l' p q r s t h = absurd (cc)
    more true a' false c c' d d' k k' l l' p q r s t h = absurd (cc)
    more true a' true false c' d d' k k' l l' p q r s t h = absurd (cc)
    more true a' true true c' false d' k k' l l' p q r s t h = absurd (cc)
    more true a' true true c' true d' false k' l l' p q r s t h = absurd (cc)
    more true a' true true c' true d' true k' false l' p q r s t h = absurd (cc)

pub fits_with : (s here moved end : State) (b : Locks) → moved ≡ here → MayBreak s here b → Meets (asked_alike here [] (Break 0 b false)) → Becomes moved end (λ z. taken b moved z ∷ []) → FitsWith s end
fits_with s here moved end b q f h w =
    let w' : Becomes here end (λ z. taken b here z ∷ []) = subst (λ (t : State). Becomes t end (λ z. taken b t z ∷ [])) q w in
    let v : (z : Bool) → Weaker (label_of end z) (taken b here z) = λ z. below (label_of end z) (taken b here z) (w'.each z) in
    let u : (z : Bool) → Weaker (taken b here z) (label_of end z) = λ z. above (label_of end z) (taken b here z) (w'.each z) in
    record {
      of = record { program = w'.of.program ∙ f.of.program; flag = w'.of.flag ∙ f.of.flag };
      alike = λ y z. alike_same (label_of s y) (label_of end z) (taken b here z) (v z) (u z) (f.alike y z);
      agree = join_all (two (label_of s) (label_of end) true ++ two (label_of s) (label_of end) false) (agree_too (label_of s true) (label_of s false) (taken b here true) (taken b here false) (label_of end true) (label_of end false) (u true) (u false) (f.agree h).0);
    }

pub breaks : (s here moved end : State) (b : Locks) (old new : List (Option State)) → moved ≡ here → Becomes moved end (λ z. taken b moved z ∷ []) → KeepsMeet s (label_of end) old new → Breaks s (taken b here) old new
breaks s here moved end b old new q w k = record {
  carried = label_of end;
  carries = λ z. subst (λ (t : State). IsStrongest (label_of end z) (taken b t z ∷ [])) q (w.each z);
  keeps = k;
}
