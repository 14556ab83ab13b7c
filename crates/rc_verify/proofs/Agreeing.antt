-- Ends that agree on the slot and on what is got, of both sides, and one more of each.
use Rattle.std.proofs.Common.{◌≡◌, ℕ, Bool, true, false, List, [], ◌∷◌, ◌++◌, Option, Some, None, refl, sym, subst, ◌∙◌}
use Rattle.std.specs.Prelude.{unwrap_or}
use Rattle.std.proofs.lemmas.Bool.{and_from, and_parts}
use Rattle.rc_split.specs.Bags.{Part}
use Rattle.rc_rules.specs.declared.mode.Mode.{Mode}
use Rattle.rc_rules.specs.declared.mode.Peeked.{Peeked}
use Rattle.rc_rules.specs.declared.mode.Peeked.TheVariants.{Unseen}
use Rattle.rc_rules.specs.declared.mode.Slot.{Slot}
use Rattle.rc_rules.specs.declared.mode.Slot.TheVariants.{Closed}
use Rattle.rc_rules.specs.declared.mode.Submitting.{Submitting}
use Rattle.rc_rules.specs.Labels.{Label, Dead, Live, UnderLock, Weaker, WeakerPeeked, WeakerSubmitting, WeakerThanEach, IsStrongest}
use Rattle.rc_rules.specs.Rules.{agree, agree_all, agree_cq, agree_each, agree_modes, agree_sq, is_got, same_slot}
use Rattle.rc_rules.proofs.Alike.{both_bools, same_bools, slot_refl}
use Rattle.rc_rules.proofs.Weaker.{got_same, same_slot_is}
use Rattle.rc_verify.specs.Walk.{IsClosed}
use Rattle.rc_verify.proofs.Fit.{AreAll, kept_by}

-- In a lock the slot is at this stage, and the front completion is got, or it isn't.
abbrev HasSlot : Slot → Option Submitting → Type 0
HasSlot k None = Unit {0}
HasSlot k (Some s) = s.slot ≡ k

abbrev HasGot : Bool → Option Peeked → Type 0
HasGot g None = Unit {0}
HasGot g (Some p) = is_got p ≡ g

-- both of these, as far as the locks are held
abbrev pub Stage : Type 0
Stage = Slot × Bool

abbrev pub IsAt : Stage → Label → Type 0
IsAt k Dead = Unit {0}
IsAt k (Live a m) = HasSlot k.0 m.sq × HasGot k.1 m.cq

-- ---- ends agree exactly where they are at one stage

own_slots : (k : Slot) (o p : Option Submitting) → HasSlot k o → HasSlot k p → agree_sq o p ≡ true
own_slots k None None h g = refl
own_slots k None (Some t) h g = refl
own_slots k (Some s) None h g = refl
own_slots k (Some s) (Some t) h g = subst (λ x. same_slot s.slot x ≡ true) (h ∙ sym g) (slot_refl s.slot)

own_gots : (k : Bool) (o p : Option Peeked) → HasGot k o → HasGot k p → agree_cq o p ≡ true
own_gots k None None h g = refl
own_gots k None (Some t) h g = refl
own_gots k (Some s) None h g = refl
own_gots k (Some s) (Some t) h g = same_bools (is_got s) (is_got t) (h ∙ sym g)

at_own : (k : Stage) (s t : Label) → IsAt k s → IsAt k t → agree s t ≡ true
at_own k Dead t h g = refl
at_own k (Live b m) Dead h g = refl
at_own k (Live b m) (Live c n) h g = and_from _ _ (own_slots k.0 m.sq n.sq h.0 g.0) (own_gots k.1 m.cq n.cq h.1 g.1)

at_each : (k : Stage) (s : Label) (ts : List Label) → IsAt k s → AreAll (IsAt k) ts → agree_each s ts ≡ true
at_each k s [] h g = refl
at_each k s (t ∷ ts) h g = and_from (agree s t) (agree_each s ts) (at_own k s t h g.0) (at_each k s ts h g.1)

pub at_one : (k : Stage) (ts : List Label) → AreAll (IsAt k) ts → agree_all ts ≡ true
at_one k [] h = refl
at_one k (t ∷ ts) h = and_from (agree_each t ts) (agree_all ts) (at_each k t ts h.0 h.1) (at_one k ts h.1)

-- a stage at which they all are
abbrev pub AtOne : List Label → Type 0
AtOne ts = (k : Stage) × AreAll (IsAt k) ts

abbrev slot_or : Option Submitting → Slot → Slot
slot_or None d = d
slot_or (Some s) d = s.slot

abbrev got_or : Option Peeked → Bool → Bool
got_or None d = d
got_or (Some p) d = is_got p

own_slot : (o : Option Submitting) (d : Slot) → HasSlot (slot_or o d) o
own_slot None d = tt
own_slot (Some s) d = refl

own_got : (o : Option Peeked) (d : Bool) → HasGot (got_or o d) o
own_got None d = tt
own_got (Some p) d = refl

other_slot : (o p : Option Submitting) (d : Slot) → agree_sq o p ≡ true → HasSlot d p → HasSlot (slot_or o d) p
other_slot None p d e h = h
other_slot (Some s) None d e h = tt
other_slot (Some s) (Some t) d e h = sym (same_slot_is s.slot t.slot e)

other_got : (o p : Option Peeked) (d : Bool) → agree_cq o p ≡ true → HasGot d p → HasGot (got_or o d) p
other_got None p d e h = h
other_got (Some s) None d e h = tt
other_got (Some s) (Some t) d e h = sym (both_bools (is_got s) (is_got t) e)

-- The stage of the first of the ends, as far as it says one, is that of the others.
abbrev first_stage : Mode → Stage → Stage
first_stage m k = (slot_or m.sq k.0, got_or m.cq k.1)

with_first : (b : Part → ℕ) (m : Mode) (k : Stage) (ts : List Label) → agree_each (Live b m) ts ≡ true → AreAll (IsAt k) ts → AreAll (IsAt (first_stage m k)) ts
with_first b m k [] e r = tt
with_first b m k (Dead ∷ ts) e r = (tt, with_first b m k ts (and_parts true (agree_each (Live b m) ts) e).1 r.1)
with_first b m k (Live c n ∷ ts) e r =
    let h = and_parts (agree_modes m n) (agree_each (Live b m) ts) e in
    let f = and_parts (agree_sq m.sq n.sq) (agree_cq m.cq n.cq) h.0 in
    ((other_slot m.sq n.sq k.0 f.0 r.0.0, other_got m.cq n.cq k.1 f.1 r.0.1), with_first b m k ts h.1 r.1)

-- the first of the ends, and the others
one_more : (a : Label) (ts : List Label) → agree_each a ts ≡ true → AtOne ts → AtOne (a ∷ ts)
one_more Dead ts e r = (r.0, (tt, r.1))
one_more (Live a m) ts e r = (first_stage m r.0, ((own_slot m.sq r.0.0, own_got m.cq r.0.1), with_first a m r.0 ts e r.1))

pub one_stage : (ts : List Label) → agree_all ts ≡ true → AtOne ts
one_stage [] e = ((Closed, false), tt)
one_stage (t ∷ ts) e = let h = and_parts (agree_each t ts) (agree_all ts) e in one_more t ts h.0 (one_stage ts h.1)

-- ---- lists of ends

all_front : (k : Stage) (xs ys : List Label) → AreAll (IsAt k) (xs ++ ys) → AreAll (IsAt k) xs
all_front k [] ys h = tt
all_front k (x ∷ xs) ys h = (h.0, all_front k xs ys h.1)

all_back : (k : Stage) (xs ys : List Label) → AreAll (IsAt k) (xs ++ ys) → AreAll (IsAt k) ys
all_back k [] ys h = h
all_back k (x ∷ xs) ys h = all_back k xs ys h.1

all_both : (k : Stage) (xs ys : List Label) → AreAll (IsAt k) xs → AreAll (IsAt k) ys → AreAll (IsAt k) (xs ++ ys)
all_both k [] ys h g = g
all_both k (x ∷ xs) ys h g = (h.0, all_both k xs ys h.1 g)

-- ---- a meet is at the stage of its ends

slot_down : (k : Slot) (o p : Option Submitting) → UnderLock WeakerSubmitting o p → HasSlot k o → HasSlot k p
slot_down k None None w h = tt
slot_down k None (Some t) w h = absurd w
slot_down k (Some s) None w h = tt
slot_down k (Some s) (Some t) w h = sym w.slot ∙ h

slot_up : (k : Slot) (o p : Option Submitting) → UnderLock WeakerSubmitting o p → HasSlot k p → HasSlot k o
slot_up k None p w h = tt
slot_up k (Some s) None w h = absurd w
slot_up k (Some s) (Some t) w h = w.slot ∙ h

got_down : (k : Bool) (o p : Option Peeked) → UnderLock WeakerPeeked o p → HasGot k o → HasGot k p
got_down k None None w h = tt
got_down k None (Some t) w h = absurd w
got_down k (Some s) None w h = tt
got_down k (Some s) (Some t) w h = sym (got_same s t w) ∙ h

got_up : (k : Bool) (o p : Option Peeked) → UnderLock WeakerPeeked o p → HasGot k p → HasGot k o
got_up k None p w h = tt
got_up k (Some s) None w h = absurd w
got_up k (Some s) (Some t) w h = got_same s t w ∙ h

down : (k : Stage) (s t : Label) → Weaker s t → IsAt k s → IsAt k t
down k s Dead w h = tt
down k Dead (Live b n) w h = absurd w
down k (Live a m) (Live b n) w h = (slot_down k.0 m.sq n.sq w.1.0 h.0, got_down k.1 m.cq n.cq w.1.1 h.1)

up : (k : Stage) (s t : Label) → Weaker s t → (t ≡ Dead → ⊥) → IsAt k t → IsAt k s
up k s Dead w d h = absurd (d refl)
up k Dead (Live b n) w d h = tt
up k (Live a m) (Live b n) w d h = (slot_up k.0 m.sq n.sq w.1.0 h.0, got_up k.1 m.cq n.cq w.1.1 h.1)

all_down : (k : Stage) (s : Label) (ts : List Label) → WeakerThanEach s ts → IsAt k s → AreAll (IsAt k) ts
all_down k s [] w h = tt
all_down k s (t ∷ ts) w h = (down k s t w.0 h, all_down k s ts w.1 h)

all_up : (k : Stage) (s : Label) (ts : List Label) → IsStrongest s ts → AreAll (IsAt k) ts → IsAt k s
all_up k s ts b h = kept_by (IsAt k) tt (up k) s ts h b

-- ---- one end more on each side

-- The meets of the ends so far, and what is the same as the two ends that come.
module _ (m n e f x y : Label) (xs ys : List Label) (xs_meet : IsStrongest m xs) (ys_meet : IsStrongest n ys) (e_is : IsStrongest e (x ∷ [])) (f_is : IsStrongest f (y ∷ [])) where
  -- The ends agree exactly where the meets and the ends that come do.
  pub all_agree : agree_all (m ∷ e ∷ n ∷ f ∷ []) ≡ true → agree_all ((xs ++ x ∷ []) ++ (ys ++ y ∷ [])) ≡ true
  all_agree g =
      let r = one_stage (m ∷ e ∷ n ∷ f ∷ []) g in
      let k = r.0 in
      let zero = all_both k xs (x ∷ []) (all_down k m xs xs_meet.weaker r.1.0) (all_down k e (x ∷ []) e_is.weaker r.1.1.0) in
      let other = all_both k ys (y ∷ []) (all_down k n ys ys_meet.weaker r.1.1.1.0) (all_down k f (y ∷ []) f_is.weaker r.1.1.1.1.0) in
      at_one k ((xs ++ x ∷ []) ++ (ys ++ y ∷ [])) (all_both k (xs ++ x ∷ []) (ys ++ y ∷ []) zero other)

  meets_agree : agree_all ((xs ++ x ∷ []) ++ (ys ++ y ∷ [])) ≡ true → agree_all (m ∷ e ∷ n ∷ f ∷ []) ≡ true
  meets_agree g =
      let r = one_stage ((xs ++ x ∷ []) ++ (ys ++ y ∷ [])) g in
      let k = r.0 in
      let zero = all_front k (xs ++ x ∷ []) (ys ++ y ∷ []) r.1 in
      let other = all_back k (xs ++ x ∷ []) (ys ++ y ∷ []) r.1 in
      at_one k (m ∷ e ∷ n ∷ f ∷ []) (all_up k m xs xs_meet (all_front k xs (x ∷ []) zero), (all_up k e (x ∷ []) e_is (all_back k xs (x ∷ []) zero), (all_up k n ys ys_meet (all_front k ys (y ∷ []) other), (all_up k f (y ∷ []) f_is (all_back k ys (y ∷ []) other), tt))))

  pub not_all : agree_all (m ∷ e ∷ n ∷ f ∷ []) ≡ false → agree_all ((xs ++ x ∷ []) ++ (ys ++ y ∷ [])) ≡ false
  not_all g = go (agree_all ((xs ++ x ∷ []) ++ (ys ++ y ∷ []))) refl
    where
      go : (c : Bool) → agree_all ((xs ++ x ∷ []) ++ (ys ++ y ∷ [])) ≡ c → c ≡ false
      go true q = let h = meets_agree q in absurd (cc (h, g))
      go false q = refl

-- Ends that don't agree don't agree with more of them.
pub never_all : (x y : Label) (xs ys : List Label) → agree_all (xs ++ ys) ≡ false → agree_all ((xs ++ x ∷ []) ++ (ys ++ y ∷ [])) ≡ false
never_all x y xs ys g = go (agree_all ((xs ++ x ∷ []) ++ (ys ++ y ∷ []))) refl
  where
    go : (c : Bool) → agree_all ((xs ++ x ∷ []) ++ (ys ++ y ∷ [])) ≡ c → c ≡ false
    go true q =
        let r = one_stage ((xs ++ x ∷ []) ++ (ys ++ y ∷ [])) q in
        let zero = all_front r.0 xs (x ∷ []) (all_front r.0 (xs ++ x ∷ []) (ys ++ y ∷ []) r.1) in
        let other = all_front r.0 ys (y ∷ []) (all_back r.0 (xs ++ x ∷ []) (ys ++ y ∷ []) r.1) in
        let h = at_one r.0 (xs ++ ys) (all_both r.0 xs ys zero other) in
        absurd (cc (h, g))
    go false q = refl

-- ---- no slot is open, and nothing is got

slot_closed : (o : Option Submitting) → same_slot (unwrap_or o (record { queued = 0; slot = Closed })).slot Closed ≡ true → HasSlot Closed o
slot_closed None h = tt
slot_closed (Some s) h = same_slot_is s.slot Closed h

none_got : (o : Option Peeked) → is_got (unwrap_or o Unseen) ≡ false → HasGot false o
none_got None h = tt
none_got (Some p) h = h

closed_at : (s : Label) → IsClosed s → IsAt (Closed, false) s
closed_at Dead h = tt
closed_at (Live a m) h = (slot_closed m.sq h.0, none_got m.cq h.1)

pub closed_agree : (ts : List Label) → AreAll IsClosed ts → agree_all ts ≡ true
closed_agree ts h = at_one (Closed, false) ts (all_closed ts h)
  where
    all_closed : (ts : List Label) → AreAll IsClosed ts → AreAll (IsAt (Closed, false)) ts
    all_closed [] h = tt
    all_closed (t ∷ ts) h = (closed_at t h.0, all_closed ts h.1)
