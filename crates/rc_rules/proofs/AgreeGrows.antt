-- Stronger labels agree where weaker ones do.
use Rattle.std.proofs.Common.{◌≡◌, true, cond, not, List, [], ◌∷◌, ◌++◌, Option, Some, None, refl, subst}
use Rattle.std.proofs.lemmas.Bool.{and_from, and_parts}
use Rattle.rc_rules.specs.declared.mode.Mode.{Mode}
use Rattle.rc_rules.specs.declared.mode.Peeked.{Peeked}
use Rattle.rc_rules.specs.declared.mode.Submitting.{Submitting}
use Rattle.rc_rules.specs.Labels.{Label, Dead, Live, UnderLock, Weaker, WeakerMode, WeakerPeeked, WeakerSubmitting}
use Rattle.rc_rules.specs.Laws.{EachWeaker}
use Rattle.rc_rules.specs.Rules.{same_slot, is_got, agree_cq, agree_modes, agree_sq, agree, agree_each, agree_all}
use Rattle.rc_rules.proofs.Weaker.{got_same}

sq_agree : (o p q r : Option Submitting) → UnderLock WeakerSubmitting o q → UnderLock WeakerSubmitting p r → agree_sq o p ≡ true → agree_sq q r ≡ true
sq_agree None p None r v w e = refl
sq_agree (Some s) None (Some x) None v w e = refl
sq_agree (Some s) (Some t) (Some x) (Some y) v w e = subst (λ u. same_slot u y.slot ≡ true) v.slot (subst (λ u. same_slot s.slot u ≡ true) w.slot e)
sq_agree None p (Some x) r v w e = absurd v
sq_agree (Some s) p None r v w e = absurd v
sq_agree (Some s) None (Some x) (Some y) v w e = absurd w
sq_agree (Some s) (Some t) (Some x) None v w e = absurd w

cq_agree : (o p q r : Option Peeked) → UnderLock WeakerPeeked o q → UnderLock WeakerPeeked p r → agree_cq o p ≡ true → agree_cq q r ≡ true
cq_agree None p None r v w e = refl
cq_agree (Some s) None (Some x) None v w e = refl
cq_agree (Some s) (Some t) (Some x) (Some y) v w e = subst (λ b. cond b (is_got y) (not (is_got y)) ≡ true) (got_same s x v) (subst (λ b. cond (is_got s) b (not b) ≡ true) (got_same t y w) e)
cq_agree None p (Some x) r v w e = absurd v
cq_agree (Some s) p None r v w e = absurd v
cq_agree (Some s) None (Some x) (Some y) v w e = absurd w
cq_agree (Some s) (Some t) (Some x) None v w e = absurd w

pub modes_grow : (m n k l : Mode) → WeakerMode m k → WeakerMode n l → agree_modes m n ≡ true → agree_modes k l ≡ true
modes_grow m n k l v w e = let h = and_parts (agree_sq m.sq n.sq) (agree_cq m.cq n.cq) e in and_from _ _ (sq_agree m.sq n.sq k.sq l.sq v.0 w.0 h.0) (cq_agree m.cq n.cq k.cq l.cq v.1 w.1 h.1)

pub agree_grows : (s t s' t' : Label) → Weaker s s' → Weaker t t' → agree s t ≡ true → agree s' t' ≡ true
agree_grows s t Dead t' w v e = refl
agree_grows s t (Live a m) Dead w v e = refl
agree_grows Dead t (Live a m) (Live b n) w v e = absurd w
agree_grows (Live c k) Dead (Live a m) (Live b n) w v e = absurd v
agree_grows (Live c k) (Live d l) (Live a m) (Live b n) w v e = modes_grow k l m n w.1 v.1 e

-- ---- lists of labels

pub each_append : (xs ys us vs : List Label) → EachWeaker xs ys → EachWeaker us vs → EachWeaker (xs ++ us) (ys ++ vs)
each_append [] [] us vs h g = g
each_append [] (y ∷ ys) us vs h g = absurd h
each_append (x ∷ xs) [] us vs h g = absurd h
each_append (x ∷ xs) (y ∷ ys) us vs h g = (h.0, each_append xs ys us vs h.1 g)

agree_each_grows : (s t : Label) (ss ts : List Label) → Weaker s t → EachWeaker ss ts → agree_each s ss ≡ true → agree_each t ts ≡ true
agree_each_grows s t [] [] w g e = refl
agree_each_grows s t [] (y ∷ ts) w g e = absurd g
agree_each_grows s t (x ∷ ss) [] w g e = absurd g
agree_each_grows s t (x ∷ ss) (y ∷ ts) w g e = let h = and_parts (agree s x) (agree_each s ss) e in and_from _ _ (agree_grows s x t y w g.0 h.0) (agree_each_grows s t ss ts w g.1 h.1)

pub agree_all_grows : (ss ts : List Label) → EachWeaker ss ts → agree_all ss ≡ true → agree_all ts ≡ true
agree_all_grows [] [] g e = refl
agree_all_grows [] (t ∷ ts) g e = absurd g
agree_all_grows (s ∷ ss) [] g e = absurd g
agree_all_grows (s ∷ ss) (t ∷ ts) g e = let h = and_parts (agree_each s ss) (agree_all ss) e in and_from _ _ (agree_each_grows s t ss ts g.0 g.1 h.0) (agree_all_grows ss ts g.1 h.1)
