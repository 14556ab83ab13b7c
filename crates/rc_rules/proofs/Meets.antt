-- Two states that join.
use Rattle.std.proofs.Common.{◌≡◌, ◌≢◌, ℕ, Bool, true, false, cond, [], ◌∷◌, Option, Some, None, refl, sym, ap, subst, ◌∙◌, arith}
use Rattle.std.specs.Prelude.{is_some, unwrap_or}
use Rattle.std.proofs.lemmas.Bool.{and_parts, eqb-true, eq-eqb}
use Rattle.rc_lang.specs.declared.lines.Locks.{Locks}
use Rattle.rc_lang.specs.Program.{Program}
use Rattle.rc_split.specs.Bags.{Part, TokenOf, least}
use Rattle.rc_split.specs.Holdings.{Holding, bag}
use Rattle.rc_rules.specs.declared.mode.Mode.{Mode}
use Rattle.rc_rules.specs.declared.mode.Peeked.{Peeked}
use Rattle.rc_rules.specs.declared.mode.Peeked.TheVariants.{Unseen, Sees, SeesOther, Got}
use Rattle.rc_rules.specs.declared.mode.Submitting.{Submitting}
use Rattle.rc_rules.specs.Labels.{Label, Dead, Live, UnderLock, Weaker, WeakerPeeked, Same, Unknown, WeakerSubmitting, IsStrongest}
use Rattle.rc_rules.specs.Rules.{agree, agree_cq, agree_modes, agree_sq, same_got}
use Rattle.rc_rules.specs.States.{Side, side_of, side_label, label_in, live_of, same_peeked, of_both, both_submitting, both_peeked, both, IsFreeIn, IsFreeFor, AgreeOnLocks}
use Rattle.rc_rules.proofs.Moves.{fewer_free}
use Rattle.rc_rules.proofs.Weaker.{peeked_refl, same_slot_is, unseen_least}

same_peeked_is : (p q : Peeked) → same_peeked p q ≡ true → p ≡ q
same_peeked_is Unseen Unseen e = refl
same_peeked_is (Sees u) (Sees v) e = ap Sees (eqb-true u v e)
same_peeked_is SeesOther SeesOther e = refl
same_peeked_is Got Got e = refl
same_peeked_is _ _ e = absurd (cc)

same_refl : (p : Peeked) → same_peeked p p ≡ true
same_refl Unseen = refl
same_refl (Sees u) = eq-eqb u u refl
same_refl SeesOther = refl
same_refl Got = refl

-- Got alike but not the same, neither is got.
apart : (p q : Peeked) → same_got p q ≡ true → same_peeked p q ≡ false → (p ≢ Got) × (q ≢ Got)
apart Got Got g e = absurd (cc)
apart Got Unseen g e = absurd (cc)
apart Got (Sees u) g e = absurd (cc)
apart Got SeesOther g e = absurd (cc)
apart Unseen Got g e = absurd (cc)
apart (Sees u) Got g e = absurd (cc)
apart SeesOther Got g e = absurd (cc)
apart _ _ g e = (λ f. cc, λ f. cc)

left_peeked : (p q : Peeked) → same_got p q ≡ true → WeakerPeeked (both_peeked p q) p
left_peeked p q g = go (same_peeked p q) refl
  where
    go : (b : Bool) → same_peeked p q ≡ b → WeakerPeeked (cond b p Unseen) p
    go true e = peeked_refl p
    go false e = unseen_least p (apart p q g e).0

right_peeked : (p q : Peeked) → same_got p q ≡ true → WeakerPeeked (both_peeked p q) q
right_peeked p q g = go (same_peeked p q) refl
  where
    go : (b : Bool) → same_peeked p q ≡ b → WeakerPeeked (cond b p Unseen) q
    go true e = Same (same_peeked_is p q e)
    go false e = unseen_least q (apart p q g e).1

-- what is known of both isn't got where the first isn't
never_got : (p q : Peeked) → p ≢ Got → both_peeked p q ≢ Got
never_got p q n = elim (same_peeked p q) as (λ b. cond b p Unseen ≢ Got) [ true ↦ n | false ↦ λ e. cc ]

best_peeked : (x p q : Peeked) → WeakerPeeked x p → WeakerPeeked x q → WeakerPeeked x (both_peeked p q)
best_peeked x p q (Unknown e n) v = Unknown e (never_got p q n)
best_peeked x p q (Same e) (Unknown f n) = Unknown f (never_got p q (λ g. let h : Unseen ≡ Got = sym f ∙ e ∙ g in cc))
best_peeked x p q (Same e) (Same f) = Same (rw (← e, ← f, same_refl x) refl)

-- ---- under a lock of both

module _ {A : Type 0} (W : A → A → Type 0) (F : A → A → A) where
  left_of : (o p : Option A) → is_some o ≡ is_some p → ((s t : A) → W (F s t) s) → UnderLock W (of_both F o p) o
  left_of None None e h = tt
  left_of None (Some t) e h = absurd (cc)
  left_of (Some s) None e h = absurd (cc)
  left_of (Some s) (Some t) e h = h s t

  best_of : ((x s t : A) → W x s → W x t → W x (F s t)) → (u o p : Option A) → UnderLock W u o → UnderLock W u p → UnderLock W u (of_both F o p)
  best_of h None None None v w = tt
  best_of h (Some x) (Some s) (Some t) v w = h x s t v w
  best_of h None (Some s) p v w = absurd v
  best_of h (Some x) None p v w = absurd v
  best_of h None None (Some t) v w = absurd w
  best_of h (Some x) (Some s) None v w = absurd w

right_sq : (o p : Option Submitting) → is_some o ≡ is_some p → agree_sq o p ≡ true → UnderLock WeakerSubmitting (of_both both_submitting o p) p
right_sq None None e a = tt
right_sq None (Some t) e a = absurd (cc)
right_sq (Some s) None e a = absurd (cc)
right_sq (Some s) (Some t) e a = record { queued = omega arith; slot = same_slot_is s.slot t.slot a }

left_cq : (o p : Option Peeked) → is_some o ≡ is_some p → agree_cq o p ≡ true → UnderLock WeakerPeeked (of_both both_peeked o p) o
left_cq None None e a = tt
left_cq None (Some t) e a = absurd (cc)
left_cq (Some s) None e a = absurd (cc)
left_cq (Some s) (Some t) e a = left_peeked s t a

right_cq : (o p : Option Peeked) → is_some o ≡ is_some p → agree_cq o p ≡ true → UnderLock WeakerPeeked (of_both both_peeked o p) p
right_cq None None e a = tt
right_cq None (Some t) e a = absurd (cc)
right_cq (Some s) None e a = absurd (cc)
right_cq (Some s) (Some t) e a = right_peeked s t a

-- ---- modes

pub both_strongest : (a b c : Part → ℕ) (m n k : Mode) → agree_modes m n ≡ true → AgreeOnLocks (Live a m) (Live b n) → ((p : Part) → c p ≡ least a b p) → k ≡ both m n → IsStrongest (Live c k) (Live a m ∷ Live b n ∷ [])
both_strongest a b c m n k e l h q = subst (λ x. IsStrongest (Live c x) (Live a m ∷ Live b n ∷ [])) (sym q) (record { weaker = (left, (right, tt)); strongest = λ t w. best t w.0 w.1.0 })
  where
    agrees : (agree_sq m.sq n.sq ≡ true) × (agree_cq m.cq n.cq ≡ true)
    agrees = and_parts (agree_sq m.sq n.sq) (agree_cq m.cq n.cq) e

    sq_alike : is_some m.sq ≡ is_some n.sq
    sq_alike = sym (ap (λ (x : Locks). x.sq) l)

    cq_alike : is_some m.cq ≡ is_some n.cq
    cq_alike = sym (ap (λ (x : Locks). x.cq) l)

    left : Weaker (Live c (both m n)) (Live a m)
    left = (λ p. omega (arith, h p), (left_of WeakerSubmitting both_submitting m.sq n.sq sq_alike (λ s t. record { queued = omega arith; slot = refl }), left_cq m.cq n.cq cq_alike agrees.1))

    right : Weaker (Live c (both m n)) (Live b n)
    right = (λ p. omega (arith, h p), (right_sq m.sq n.sq sq_alike agrees.0, right_cq m.cq n.cq cq_alike agrees.1))

    best : (t : Label) → Weaker t (Live a m) → Weaker t (Live b n) → Weaker t (Live c (both m n))
    best Dead w v = absurd w
    best (Live d u) w v = (λ p. omega (arith, h p, w.0 p, v.0 p), (best_of WeakerSubmitting both_submitting (λ x s t f g. record { queued = omega (arith, f.queued, g.queued); slot = f.slot }) u.sq m.sq n.sq w.1.0 v.1.0, best_of WeakerPeeked both_peeked best_peeked u.cq m.cq n.cq w.1.1 v.1.1))

pub both_free : (P Q : Program) (a b c : Part → ℕ) (m n k : Mode) → IsFreeIn P a m → Q ≡ P → ((p : Part) → c p ≡ least a b p) → k ≡ both m n → IsFreeIn Q c k
both_free P Q a b c m n k f r h q = subst (λ R. IsFreeIn R c k) (sym r) (subst (IsFreeIn P c) (sym q) (go m.cq n.cq f))
  where
    seen : (x y : Peeked) → IsFreeFor P a x → IsFreeFor P c (both_peeked x y)
    seen x y f = elim (same_peeked x y) as (λ b. IsFreeFor P c (cond b x Unseen)) [ true ↦ fewer_free P a c x (λ u. omega (arith, h (TokenOf u))) f | false ↦ tt ]

    go : (o p : Option Peeked) → IsFreeFor P a (unwrap_or o Unseen) → IsFreeFor P c (unwrap_or (of_both both_peeked o p) Unseen)
    go None None f = tt
    go None (Some y) f = tt
    go (Some x) None f = tt
    go (Some x) (Some y) f = seen x y f

-- two live sides join
pub joined : (h g c : Holding) (o p : Option Mode) (x y : Side) (m n k : Mode) → side_of h o ≡ x → side_of g p ≡ y → o ≡ Some m → p ≡ Some n → agree (side_label x) (side_label y) ≡ true → AgreeOnLocks (side_label x) (side_label y) → ((q : Part) → bag c q ≡ least (bag h) (bag g) q) → k ≡ both m n → IsStrongest (Live (bag c) k) (side_label x ∷ side_label y ∷ [])
joined h g c o p x y m n k e f i j a l s r = go x y (sym e) (sym f) a l
  where
    live : (h : Holding) (o : Option Mode) (m : Mode) (x : Side) → x ≡ side_of h o → o ≡ Some m → side_label x ≡ Live (bag h) m
    live h o m x e i = ap side_label e ∙ ap (λ y. label_in (live_of h y)) i

    go : (x y : Side) → x ≡ side_of h o → y ≡ side_of g p → agree (side_label x) (side_label y) ≡ true → AgreeOnLocks (side_label x) (side_label y) → IsStrongest (Live (bag c) k) (side_label x ∷ side_label y ∷ [])
    go x y e f a l =
        let u = live h o m x e i in
        let v = live g p n y f j in
        let a' : agree_modes m n ≡ true = subst (λ t. agree (Live (bag h) m) t ≡ true) v (subst (λ s. agree s (side_label y) ≡ true) u a) in
        let l' : AgreeOnLocks (Live (bag h) m) (Live (bag g) n) = subst (λ t. AgreeOnLocks (Live (bag h) m) t) v (subst (λ s. AgreeOnLocks s (side_label y)) u l) in
        rw (u, v) (both_strongest (bag h) (bag g) (bag c) m n k a' l' s r)
