-- What calls make of both sides of a state.
use Rattle.std.proofs.Common.{◌≡◌, ℕ, Bool, true, false, List, [], ◌∷◌, ◌++◌, Option, Result, Ok, Err, refl, sym, ap, subst, ◌∙◌}
use Rattle.std.specs.Prelude.{ℤ, pos}
use Rattle.std.specs.Ordering.{int_eq}
use Rattle.std.proofs.lemmas.Bool.{and_parts}
use Rattle.rc_lang.specs.declared.lines.Locks.{Locks}
use Rattle.rc_lang.specs.declared.lines.Op.{Op}
use Rattle.rc_lang.specs.declared.lines.Stmt.TheVariants.{Do}
use Rattle.rc_lang.specs.declared.lines.Op.TheVariants as ops
use Rattle.rc_lang.specs.Program.{Program}
use Rattle.rc_rules.specs.declared.cause.Cause.{Cause}
use Rattle.rc_rules.specs.declared.mode.Mode.{Mode}
use Rattle.rc_split.specs.Bags.{Part}
use Rattle.rc_rules.specs.declared.flag.Write.{Write}
use Rattle.rc_rules.specs.declared.flag.Write.TheVariants.{Number}
use Rattle.rc_rules.specs.declared.mode.Peeked.TheVariants.{Unseen}
use Rattle.rc_rules.specs.declared.rule.Rule.{Rule}
use Rattle.rc_rules.specs.Causes.{premise_number}
use Rattle.rc_rules.specs.Labels.{Label, Dead, Live, Weaker, IsStrongest, IsSame}
use Rattle.rc_rules.specs.OneRule.{rule_premises, rule_effect, only_computes, MayFollow, SideGoes, StateGoes}
use Rattle.rc_rules.specs.Premises.{Premise, Meets, FailsFirst, Tests}
use Rattle.rc_rules.specs.Needs.{line_premises}
use Rattle.rc_rules.specs.Rules.{agree, asks, asks_both, broken, goes, op_effect, peek_at}
use Rattle.rc_rules.specs.Sides.{gate, brings, turns}
use Rattle.rc_rules.specs.States.{Side, State, side_label, label_of, program_of, is_live, IsState, GivesSide, Becomes, OnBoth, AgreeOnLocks}
use Rattle.rc_rules.proofs.Alike.{Alike, alike, alike_lock, alike_slot, alike_sym, broken_alike, peeked_alike, same_alike, goes_alike, joins_alike}
use Rattle.rc_rules.proofs.Joins.{Joined, agree_swap}
use Rattle.rc_rules.proofs.Weaker.{strongest, strongest_left, weaker_trans, meets_append, meets_left, meets_right, fails_left, not_both}

pub dead_of : (s : Label) → is_live s ≡ false → s ≡ Dead
dead_of Dead e = refl
dead_of (Live a m) e = absurd (cc)

-- ---- one rule

pub may_zero : (x : State) (f : Option ℕ) (a b s : Side) (rule : Rule) → record { flag = f; zero = a; other = b } ≡ x → s ≡ a → OnBoth (MayFollow (program_of x) rule) x → MayFollow s.program rule (side_label s)
may_zero x f a b s rule e q h = subst (λ (y : Side). MayFollow y.program rule (side_label y)) (sym q) (subst (λ (y : State). MayFollow (program_of y) rule (label_of y true)) (sym e) (h true))

pub may_other : (x : State) (f : Option ℕ) (a b s : Side) (rule : Rule) → record { flag = f; zero = a; other = b } ≡ x → b.program ≡ a.program → s ≡ b → OnBoth (MayFollow (program_of x) rule) x → MayFollow s.program rule (side_label s)
may_other x f a b s rule e p q h =
    let g : MayFollow a.program rule (side_label b) = subst (λ (y : State). MayFollow (program_of y) rule (label_of y false)) (sym e) (h false) in
    subst (λ (y : Side). MayFollow y.program rule (side_label y)) (sym q) (subst (λ P. MayFollow P rule (side_label b)) (sym p) g)

goes_on : (P : Program) (rule : Rule) (a s : Side) (r : Result (Unit {0}) Cause) → a.program ≡ P → SideGoes a.program rule a s r → SideGoes P rule a s r
goes_on P rule a s r e g = subst (λ Q. SideGoes Q rule a s r) e g

pub alone_zero : (f : Option ℕ) (a b s : Side) (rule : Rule) (r : Result (Unit {0}) Cause) → side_label b ≡ Dead → SideGoes a.program rule a s r → StateGoes rule (record { flag = f; zero = a; other = b }) (record { flag = f; zero = s; other = b }) r
alone_zero f a b s rule (Ok x) e g =
    let F = λ (t : Label). asks t (λ b m. rule_premises a.program rule b m) in (
      subst (λ t. Meets (F (side_label a) ++ F t)) (sym e) (meets_append (F (side_label a)) [] g.0 tt),
      record { each = each; of = record { program = g.2; flag = refl } },
    )
  where
    each : (z : Bool) → IsStrongest (label_of (record { flag = f; zero = s; other = b }) z) (goes (label_of (record { flag = f; zero = a; other = b }) z) (λ b m. rule_effect a.program rule b m) ∷ [])
    each true = strongest _ _ g.1
    each false = subst (λ t. IsStrongest t (goes t (λ b m. rule_effect a.program rule b m) ∷ [])) (sym e) (strongest Dead Dead tt)
alone_zero f a b s rule (Err c) e g =
    let F = λ (t : Label). asks t (λ b m. rule_premises a.program rule b m) in (
      subst (λ t. FailsFirst (premise_number c) (F (side_label a) ++ F t)) (sym e) (fails_left (premise_number c) (F (side_label a)) [] g.0 tt),
      ap (λ y. record { flag = f; zero = y; other = b }) g.1,
    )

pub alone_other : (f : Option ℕ) (a b s : Side) (rule : Rule) (r : Result (Unit {0}) Cause) → side_label a ≡ Dead → b.program ≡ a.program → SideGoes b.program rule b s r → StateGoes rule (record { flag = f; zero = a; other = b }) (record { flag = f; zero = a; other = s }) r
alone_other f a b s rule r e p h = go r (goes_on a.program rule b s r p h)
  where
    each : IsSame (side_label s) (goes (side_label b) (λ b m. rule_effect a.program rule b m)) → (z : Bool) → IsStrongest (label_of (record { flag = f; zero = a; other = s }) z) (goes (label_of (record { flag = f; zero = a; other = b }) z) (λ b m. rule_effect a.program rule b m) ∷ [])
    each g true = subst (λ t. IsStrongest t (goes t (λ b m. rule_effect a.program rule b m) ∷ [])) (sym e) (strongest Dead Dead tt)
    each g false = strongest _ _ g

    go : (r : Result (Unit {0}) Cause) → SideGoes a.program rule b s r → StateGoes rule (record { flag = f; zero = a; other = b }) (record { flag = f; zero = a; other = s }) r
    go (Ok x) g =
        let F = λ (t : Label). asks t (λ b m. rule_premises a.program rule b m) in (
          subst (λ t. Meets (F t ++ F (side_label b))) (sym e) g.0,
          record { each = each g.1; of = record { program = refl; flag = refl } },
        )
    go (Err c) g =
        let F = λ (t : Label). asks t (λ b m. rule_premises a.program rule b m) in (
          subst (λ t. FailsFirst (premise_number c) (F t ++ F (side_label b))) (sym e) g.0,
          ap (λ y. record { flag = f; zero = a; other = y }) g.1,
        )

-- ---- a rule of both sides

abbrev pub IsLesser : Result (Unit {0}) Cause → Result (Unit {0}) Cause → Result (Unit {0}) Cause → Type 0
IsLesser r s t = (ps qs : List (ℕ × Premise)) → Tests r ps → Tests s qs → Tests t (ps ++ qs)

tests_side : (old new : Side) (r : Result (Unit {0}) Cause) (ps : List (ℕ × Premise)) (l : Label) → GivesSide old new r ps l → Tests r ps
tests_side old new (Ok x) ps l g = g.0
tests_side old new (Err c) ps l g = g.0

went_side : (old new : Side) (r : Result (Unit {0}) Cause) (ps : List (ℕ × Premise)) (l : Label) → Meets ps → GivesSide old new r ps l → IsSame (side_label new) l × (new.program ≡ old.program)
went_side old new (Ok x) ps l h g = (g.1, g.2)
went_side old new (Err c) ps l h g = absurd (not_both _ ps h g.0)

met_of : (t : Result (Unit {0}) Cause) (x : Unit {0}) (ps : List (ℕ × Premise)) → t ≡ Ok x → Tests t ps → Meets ps
met_of t x ps e h = subst (λ r. Tests r ps) e h

failed_of : (t : Result (Unit {0}) Cause) (c : Cause) (ps : List (ℕ × Premise)) → t ≡ Err c → Tests t ps → Tests {X = Unit {0}} (Err c) ps
failed_of t c ps e h = subst (λ r. Tests r ps) e h

both_tests : (a b s o : Side) (rule : Rule) (r q t : Result (Unit {0}) Cause) → b.program ≡ a.program → SideGoes a.program rule a s r → SideGoes b.program rule b o q → IsLesser r q t → Tests t (asks (side_label a) (λ b m. rule_premises a.program rule b m) ++ asks (side_label b) (λ b m. rule_premises a.program rule b m))
both_tests a b s o rule r q t p g h l = l _ _ (tests_side a s r _ _ g) (tests_side b o q _ _ (goes_on a.program rule b o q p h))

pub both_failed : (f : Option ℕ) (a b s o : Side) (x : State) (rule : Rule) (r q t : Result (Unit {0}) Cause) (c : Cause) → record { flag = f; zero = a; other = b } ≡ x → b.program ≡ a.program → SideGoes a.program rule a s r → SideGoes b.program rule b o q → IsLesser r q t → t ≡ Err c → StateGoes rule x x (Err c)
both_failed f a b s o x rule r q t c e p g h l i = subst (λ y. StateGoes rule y y (Err c)) e (failed_of t c _ i (both_tests a b s o rule r q t p g h l), refl)

module _ (f : Option ℕ) (a b s o : Side) (rule : Rule) (r q t : Result (Unit {0}) Cause) (u : Unit {0}) (p : b.program ≡ a.program) (g : SideGoes a.program rule a s r) (h : SideGoes b.program rule b o q) (l : IsLesser r q t) (i : t ≡ Ok u) where
  met : Meets (asks (side_label a) (λ b m. rule_premises a.program rule b m) ++ asks (side_label b) (λ b m. rule_premises a.program rule b m))
  met = met_of t u _ i (both_tests a b s o rule r q t p g h l)

  zero_went : IsSame (side_label s) (goes (side_label a) (λ b m. rule_effect a.program rule b m)) × (s.program ≡ a.program)
  zero_went = went_side a s r _ _ (meets_left (asks (side_label a) (λ b m. rule_premises a.program rule b m)) (asks (side_label b) (λ b m. rule_premises a.program rule b m)) met) g

  other_went : IsSame (side_label o) (goes (side_label b) (λ b m. rule_effect a.program rule b m)) × (o.program ≡ b.program)
  other_went = went_side b o q _ _ (meets_right (asks (side_label a) (λ b m. rule_premises a.program rule b m)) (asks (side_label b) (λ b m. rule_premises a.program rule b m)) met) (goes_on a.program rule b o q p h)

  each : (z : Bool) → IsStrongest (label_of (record { flag = f; zero = s; other = o }) z) (goes (label_of (record { flag = f; zero = a; other = b }) z) (λ b m. rule_effect a.program rule b m) ∷ [])
  each true = strongest _ _ zero_went.0
  each false = strongest _ _ other_went.0

  pub both_went : StateGoes rule (record { flag = f; zero = a; other = b }) (record { flag = f; zero = s; other = o }) (Ok tt)
  both_went = (met, record { each = each; of = record { program = zero_went.1; flag = refl } })

  pub both_kept : IsState (record { flag = f; zero = a; other = b }) → IsState (record { flag = f; zero = s; other = o })
  both_kept k =
      let w : Alike (side_label s) (side_label o) = same_alike _ _ _ _ zero_went.0 other_went.0 (goes_alike a.program rule (side_label a) (side_label b) (alike (side_label a) (side_label b) k.lock k.slot)) in
      record { program = other_went.1 ∙ p ∙ sym zero_went.1; lock = alike_lock _ _ w; slot = alike_slot _ _ w }

-- ---- a break, and an arm's end, on both sides

moved_kept : (F : Label → Label) → ((x y : Label) → Alike x y → Alike (F x) (F y)) → (f : Option ℕ) (a b s o : Side) → IsState (record { flag = f; zero = a; other = b }) → IsSame (side_label s) (F (side_label a)) → IsSame (side_label o) (F (side_label b)) → s.program ≡ a.program → o.program ≡ b.program → IsState (record { flag = f; zero = s; other = o })
moved_kept F h f a b s o k e g p q =
    let w : Alike (side_label s) (side_label o) = same_alike _ _ _ _ e g (h (side_label a) (side_label b) (alike (side_label a) (side_label b) k.lock k.slot)) in
    record { program = q ∙ k.program ∙ sym p; lock = alike_lock _ _ w; slot = alike_slot _ _ w }

pub carried_kept : (l : Locks) (f : Option ℕ) (a b s o : Side) → IsState (record { flag = f; zero = a; other = b }) → IsSame (side_label s) (broken l (side_label a)) → IsSame (side_label o) (broken l (side_label b)) → s.program ≡ a.program → o.program ≡ b.program → IsState (record { flag = f; zero = s; other = o })
carried_kept l = moved_kept (broken l) (broken_alike l)

pub forgot_kept : (f : Option ℕ) (a b s o : Side) → IsState (record { flag = f; zero = a; other = b }) → IsSame (side_label s) (peek_at Unseen (side_label a)) → IsSame (side_label o) (peek_at Unseen (side_label b)) → s.program ≡ a.program → o.program ≡ b.program → IsState (record { flag = f; zero = s; other = o })
forgot_kept = moved_kept (peek_at Unseen) (peeked_alike Unseen)

-- ---- writes to the flag

abbrev pub Turned : Write → State → State → Type 0
Turned write old new = Becomes old new (λ z. brings (λ y. turns write y z) (λ s. s) (label_of old))

pub number_zero : (f : Option ℕ) (a b s d : Side) (x : State) (n : ℤ) (w : Write) → record { flag = f; zero = a; other = b } ≡ x → w ≡ Number n → int_eq n (pos 0) ≡ true → IsStrongest (side_label s) (side_label a ∷ side_label b ∷ []) → s.program ≡ a.program → side_label d ≡ Dead → Turned w x (record { flag = f; zero = s; other = d })
number_zero f a b s d x n w e q i h p k = subst (λ y. Turned w y (record { flag = f; zero = s; other = d })) e (subst (λ v. Turned v (record { flag = f; zero = a; other = b }) (record { flag = f; zero = s; other = d })) (sym q) (record { each = each; of = record { program = p; flag = refl } }))
  where
    each : (z : Bool) → IsStrongest (label_of (record { flag = f; zero = s; other = d }) z) (brings (λ y. turns (Number n) y z) (λ s. s) (label_of (record { flag = f; zero = a; other = b })))
    each true = rw i h
    each false = rw (i, k) (strongest_left Dead Dead tt)

pub number_other : (f : Option ℕ) (a b s d : Side) (x : State) (n : ℤ) (w : Write) → record { flag = f; zero = a; other = b } ≡ x → w ≡ Number n → int_eq n (pos 0) ≡ false → IsStrongest (side_label s) (side_label a ∷ side_label b ∷ []) → d.program ≡ a.program → side_label d ≡ Dead → Turned w x (record { flag = f; zero = d; other = s })
number_other f a b s d x n w e q i h p k = subst (λ y. Turned w y (record { flag = f; zero = d; other = s })) e (subst (λ v. Turned v (record { flag = f; zero = a; other = b }) (record { flag = f; zero = d; other = s })) (sym q) (record { each = each; of = record { program = p; flag = refl } }))
  where
    each : (z : Bool) → IsStrongest (label_of (record { flag = f; zero = d; other = s }) z) (brings (λ y. turns (Number n) y z) (λ s. s) (label_of (record { flag = f; zero = a; other = b })))
    each true = rw (i, k) (strongest_left Dead Dead tt)
    each false = rw i h

-- ---- after a write

gate_weaker : (g : Bool) (s u v : Label) → Weaker s (gate g u) → Weaker u v → Weaker s (gate g v)
gate_weaker true s u v w h = weaker_trans s u v w h
gate_weaker false s u v w h = tt

gate_stronger : (g : Bool) (s u v : Label) → Weaker s (gate g v) → (Weaker s v → Weaker s u) → Weaker s (gate g u)
gate_stronger true s u v w h = h w
gate_stronger false s u v w h = tt

through : (s : Label) (g h : Bool) (u v k l : Label) → IsStrongest u (k ∷ []) → IsStrongest v (l ∷ []) → IsStrongest s (gate g u ∷ gate h v ∷ []) → IsStrongest s (gate g k ∷ gate h l ∷ [])
through s g h u v k l i j w = record {
  weaker = (gate_weaker g s u k w.weaker.0 i.weaker.0, (gate_weaker h s v l w.weaker.1.0 j.weaker.0, tt));
  strongest = λ t x. w.strongest t (gate_stronger g t u k x.0 (λ y. i.strongest t (y, tt)), (gate_stronger h t v l x.1.0 (λ y. j.strongest t (y, tt)), tt));
}

pub then_turned : (x y w : State) (E : Label → Label) (write : Write) → Becomes x y (λ z. E (label_of x z) ∷ []) → Turned write y w → Becomes x w (λ z. brings (λ v. turns write v z) E (label_of x))
then_turned x y w E write h g = record { each = λ z. through (label_of w z) _ _ _ _ _ _ (h.each true) (h.each false) (g.each z); of = record { program = g.of.program ∙ h.of.program; flag = g.of.flag ∙ h.of.flag } }

-- ---- two states

abbrev pair : Option ℕ → Side → Side → State
pair f a b = record { flag = f; zero = a; other = b }

pub same_pair : (f : Option ℕ) (a b s t : Side) → s ≡ a → t ≡ b → pair f a b ≡ pair f s t
same_pair f a b s t e q = ap (λ x. pair f x b) (sym e) ∙ ap (pair f s) (sym q)

pub locks : (x y : State) (f g : Option ℕ) (a b c d : Side) → record { flag = f; zero = a; other = b } ≡ x → record { flag = g; zero = c; other = d } ≡ y → ((u v : Bool) → AgreeOnLocks (label_of x u) (label_of y v)) → (u v : Bool) → AgreeOnLocks (label_of (record { flag = f; zero = a; other = b }) u) (label_of (record { flag = g; zero = c; other = d }) v)
locks x y f g a b c d e q h = subst (λ (s : State). (u v : Bool) → AgreeOnLocks (label_of s u) (label_of (record { flag = g; zero = c; other = d }) v)) (sym e) (subst (λ (t : State). (u v : Bool) → AgreeOnLocks (label_of x u) (label_of t v)) (sym q) h)

-- the other sides of two states that join
pub others_agree : (x y : State) (f g : Option ℕ) (a b c d : Side) → record { flag = f; zero = a; other = b } ≡ x → record { flag = g; zero = c; other = d } ≡ y → Joined x y ≡ true → agree (side_label b) (side_label d) ≡ true
others_agree x y f g a b c d e q j =
    let j' : Joined (record { flag = f; zero = a; other = b }) (record { flag = g; zero = c; other = d }) ≡ true = subst (λ (v : State). Joined v (record { flag = g; zero = c; other = d }) ≡ true) (sym e) (subst (λ (w : State). Joined x w ≡ true) (sym q) j) in
    (and_parts _ _ (and_parts _ _ (and_parts _ _ (and_parts _ _ j').1).1).0).0

pub met_kept : (x y : State) (f g : Option ℕ) (a b c d s t : Side) → record { flag = f; zero = a; other = b } ≡ x → record { flag = g; zero = c; other = d } ≡ y → IsState (record { flag = f; zero = a; other = b }) → IsState (record { flag = g; zero = c; other = d }) → ((u v : Bool) → AgreeOnLocks (label_of x u) (label_of y v)) → Joined x y ≡ true → IsStrongest (side_label s) (side_label a ∷ side_label c ∷ []) → IsStrongest (side_label t) (side_label b ∷ side_label d ∷ []) → s.program ≡ a.program → t.program ≡ b.program → IsState (record { flag = f; zero = s; other = t })
met_kept x y f g a b c d s t e q h k l j m n p r =
    let l' = locks x y f g a b c d e q l in
    let j' : Joined (record { flag = f; zero = a; other = b }) (record { flag = g; zero = c; other = d }) ≡ true = subst (λ (v : State). Joined v (record { flag = g; zero = c; other = d }) ≡ true) (sym e) (subst (λ (w : State). Joined x w ≡ true) (sym q) j) in
    let first = and_parts _ _ j' in
    let ab = and_parts _ _ (and_parts _ _ first.0).1 in
    let ad = and_parts _ _ ab.1 in
    let cb = and_parts _ _ (and_parts _ _ first.1).0 in
    let w : Alike (side_label s) (side_label t) = joins_alike _ _ (side_label a) (side_label b) (side_label c) (side_label d) m n
    (alike (side_label a) (side_label b) h.lock h.slot)
    (alike (side_label a) (side_label d) (l' true false) ad.0)
    (alike_sym (side_label b) (side_label c) (alike (side_label b) (side_label c) (l' false true) (agree_swap (side_label c) (side_label b) cb.0)))
    (alike (side_label c) (side_label d) k.lock k.slot) in
    record { program = r ∙ h.program ∙ sym p; lock = alike_lock _ _ w; slot = alike_slot _ _ w }

-- ---- statements that only compute

module _ (P : Program) where
  computes : (op : Op) (a : Part → ℕ) (m : Mode) → only_computes op ≡ true → (line_premises P [] a m (Do op) ≡ []) × (op_effect P a m op ≡ Live a m)
  computes (ops.Set x n) a m e = (refl, refl)
  computes (ops.Assign x y) a m e = (refl, refl)
  computes (ops.Add x y z) a m e = (refl, refl)
  computes (ops.Subtract x y z) a m e = (refl, refl)
  computes (ops.Print x) a m e = (refl, refl)
  computes (ops.Load x b i) a m e = absurd (cc)
  computes (ops.Store b i x) a m e = absurd (cc)
  computes (ops.Fill b x) a m e = absurd (cc)
  computes ops.GetSqe a m e = absurd (cc)
  computes (ops.PrepRead fd b len off) a m e = absurd (cc)
  computes (ops.PrepWrite fd b len off k) a m e = absurd (cc)
  computes (ops.PrepFsync fd datasync) a m e = absurd (cc)
  computes ops.PrepNop a m e = absurd (cc)
  computes ops.PrepOther a m e = absurd (cc)
  computes (ops.SetData64 u) a m e = absurd (cc)
  computes (ops.Submit x) a m e = absurd (cc)
  computes (ops.SubmitAndWait x n) a m e = absurd (cc)
  computes ops.CqeGetData64 a m e = absurd (cc)
  computes ops.CqeSeen a m e = absurd (cc)

  asks_nothing : (op : Op) (s : Label) → only_computes op ≡ true → asks s (λ b m. line_premises P [] b m (Do op)) ≡ []
  asks_nothing op Dead e = refl
  asks_nothing op (Live a m) e = (computes op a m e).0

  stays_as : (op : Op) (s : Label) → only_computes op ≡ true → IsStrongest s (goes s (λ b m. op_effect P b m op) ∷ [])
  stays_as op Dead e = strongest Dead Dead tt
  stays_as op (Live a m) e = subst (λ t. IsStrongest (Live a m) (t ∷ [])) (sym (computes op a m e).1) (strongest (Live a m) (Live a m) (λ p. refl, refl))

-- Such a statement leaves a state as it is.
pub computes_only : (x : State) (op : Op) → only_computes op ≡ true → Meets (asks_both (label_of x) (λ z b m. line_premises (program_of x) [] b m (Do op))) × Becomes x x (λ z. goes (label_of x z) (λ b m. op_effect (program_of x) b m op) ∷ [])
computes_only x op e = (
  rw (asks_nothing (program_of x) op (label_of x true) e, asks_nothing (program_of x) op (label_of x false) e) tt,
  record { each = λ z. stays_as (program_of x) op (label_of x z) e; of = record { program = refl; flag = refl } },
)
