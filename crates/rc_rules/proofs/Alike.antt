-- Sides of one state: unless one is dead, both have the same locks, their slots are at one stage, and the front completion
-- is got on both or on neither.
use Rattle.std.proofs.Common.{◌≡◌, ℕ, ◌-◌, ◌⊎◌, inl, inr, Bool, true, false, cond, not, nat_lt, [], ◌∷◌, Option, Some, None, refl, sym, ap, subst, ◌∙◌}
use Rattle.std.specs.Prelude.{is_some}
use Rattle.std.proofs.lemmas.Bool.{and_from, and_parts, eq-eqb}
use Rattle.rc_lang.specs.declared.lines.Locks.{Locks}
use Rattle.rc_lang.specs.declared.lines.Op.{Op}
use Rattle.rc_lang.specs.declared.lines.Op.TheVariants as ops
use Rattle.rc_lang.specs.declared.lines.Test.{Test}
use Rattle.rc_lang.specs.declared.lines.Test.TheVariants as tests
use Rattle.rc_lang.specs.declared.lines.Test.TheVariants.{Compare, ReadyZero, SpaceAtLeast, Any}
use Rattle.rc_lang.specs.declared.program.TokenKind.{TokenKind}
use Rattle.rc_lang.specs.declared.program.TokenKind.TheVariants as kinds
use Rattle.rc_lang.specs.declared.program.TokenKind.TheVariants.{Read, Write, Fsync, Nop}
use Rattle.rc_lang.specs.Parts.{view_items}
use Rattle.rc_lang.specs.Program.{Program, Items}
use Rattle.rc_split.specs.Bags.{Part, TokenOf, bag_of, plus}
use Rattle.rc_rules.specs.declared.mode.Mode.{Mode}
use Rattle.rc_rules.specs.declared.mode.Peeked.{Peeked}
use Rattle.rc_rules.specs.declared.mode.Peeked.TheVariants.{Unseen, Sees, SeesOther}
use Rattle.rc_rules.specs.declared.mode.Slot.{Slot}
use Rattle.rc_rules.specs.declared.mode.Slot.TheVariants.{Closed, Vacant, Prepared}
use Rattle.rc_rules.specs.declared.mode.Submitting.{Submitting}
use Rattle.rc_rules.specs.declared.rule.Rule.{Rule}
use Rattle.rc_rules.specs.declared.rule.Rule.TheVariants.{Do, Put, Lock, Release, If, Take, Case, Other, Nothing}
use Rattle.rc_rules.specs.Labels.{Label, Dead, Live, UnderLock, Weaker, WeakerMode, WeakerPeeked, WeakerSubmitting, IsStrongest, IsSame}
use Rattle.rc_rules.specs.OneRule.{rule_effect}
use Rattle.rc_rules.specs.Kinds.{same_kind}
use Rattle.rc_rules.specs.Rules.{same_slot, is_got, if_locked, op_effect, goes, locked, freed, at_most, test_mode, with_peeked, peek_at, case_at, can_take, take_effect, agree_cq, agree_modes, agree_sq, agree, broken}
use Rattle.rc_rules.specs.States.{is_live, AgreeOnLocks}
use Rattle.rc_rules.proofs.Weaker.{got_same, lock_freed, lock_held, lock_map, lock_maps, lock_refl, lock_sym, lock_taken, lock_trans, locks_equal, same_slot_is}

abbrev pub SameStage : Submitting → Submitting → Type 0
SameStage s t = s.slot ≡ t.slot

abbrev pub SameGot : Peeked → Peeked → Type 0
SameGot p q = is_got p ≡ is_got q

abbrev pub AlikeModes : Mode → Mode → Type 0
AlikeModes m n = UnderLock SameStage m.sq n.sq × UnderLock SameGot m.cq n.cq

abbrev pub Alike : Label → Label → Type 0
Alike Dead t = Unit {0}
Alike (Live a m) Dead = Unit {0}
Alike (Live a m) (Live b n) = AlikeModes m n

kind_refl : (k : TokenKind) → same_kind k k ≡ true
kind_refl (Read b) = eq-eqb b b refl
kind_refl (Write b k) = and_from _ _ (eq-eqb b b refl) (eq-eqb k k refl)
kind_refl Fsync = refl
kind_refl Nop = refl
kind_refl kinds.Other = refl

pub slot_refl : (s : Slot) → same_slot s s ≡ true
slot_refl Closed = refl
slot_refl Vacant = refl
slot_refl (Prepared k) = kind_refl k

stages : (o p : Option Submitting) → is_some p ≡ is_some o → agree_sq o p ≡ true → UnderLock SameStage o p
stages None None l e = tt
stages None (Some t) l e = absurd (cc)
stages (Some s) None l e = absurd (cc)
stages (Some s) (Some t) l e = same_slot_is s.slot t.slot e

pub both_bools : (a b : Bool) → cond a b (not b) ≡ true → a ≡ b
both_bools true true e = refl
both_bools false false e = refl
both_bools true false e = absurd (cc)
both_bools false true e = absurd (cc)

fronts : (o p : Option Peeked) → is_some p ≡ is_some o → agree_cq o p ≡ true → UnderLock SameGot o p
fronts None None l e = tt
fronts None (Some t) l e = absurd (cc)
fronts (Some s) None l e = absurd (cc)
fronts (Some s) (Some t) l e = both_bools (is_got s) (is_got t) e

pub alike : (s t : Label) → AgreeOnLocks s t → agree s t ≡ true → Alike s t
alike Dead t l e = tt
alike (Live a m) Dead l e = tt
alike (Live a m) (Live b n) l e =
    let h = and_parts (agree_sq m.sq n.sq) (agree_cq m.cq n.cq) e in
    (stages m.sq n.sq (ap (λ (x : Locks). x.sq) l) h.0, fronts m.cq n.cq (ap (λ (x : Locks). x.cq) l) h.1)

pub alike_lock : (s t : Label) → Alike s t → AgreeOnLocks s t
alike_lock Dead t l = tt
alike_lock (Live a m) Dead l = tt
alike_lock (Live a m) (Live b n) l = locks_equal n m (sym (lock_held SameStage m.sq n.sq l.0)) (sym (lock_held SameGot m.cq n.cq l.1))

agree_alike : (o p : Option Submitting) → UnderLock SameStage o p → agree_sq o p ≡ true
agree_alike None None l = refl
agree_alike None (Some t) l = refl
agree_alike (Some s) None l = refl
agree_alike (Some s) (Some t) l = subst (λ x. same_slot s.slot x ≡ true) l (slot_refl s.slot)

pub same_bools : (a b : Bool) → a ≡ b → cond a b (not b) ≡ true
same_bools true true e = refl
same_bools false false e = refl
same_bools true false e = absurd (cc)
same_bools false true e = absurd (cc)

got_alike : (o p : Option Peeked) → UnderLock SameGot o p → agree_cq o p ≡ true
got_alike None None l = refl
got_alike None (Some t) l = refl
got_alike (Some s) None l = refl
got_alike (Some s) (Some t) l = same_bools (is_got s) (is_got t) l

pub modes_agree : (m n : Mode) → AlikeModes m n → agree_modes m n ≡ true
modes_agree m n l = and_from (agree_sq m.sq n.sq) (agree_cq m.cq n.cq) (agree_alike m.sq n.sq l.0) (got_alike m.cq n.cq l.1)

pub alike_slot : (s t : Label) → Alike s t → agree s t ≡ true
alike_slot Dead t l = refl
alike_slot (Live a m) Dead l = refl
alike_slot (Live a m) (Live b n) l = modes_agree m n l

pub slot_sym : (s t : Slot) → same_slot s t ≡ same_slot t s
slot_sym s t = go (same_slot s t) (same_slot t s) refl refl
  where
    go : (x y : Bool) → same_slot s t ≡ x → same_slot t s ≡ y → x ≡ y
    go true true e f = refl
    go false false e f = refl
    go true false e f = absurd (let h : same_slot t s ≡ true = subst (λ u. same_slot u s ≡ true) (same_slot_is s t e) (slot_refl s) in cc (f, h))
    go false true e f = absurd (let h : same_slot s t ≡ true = subst (λ u. same_slot u t ≡ true) (same_slot_is t s f) (slot_refl t) in cc (e, h))

modes_refl : (m : Mode) → AlikeModes m m
modes_refl m = (lock_refl SameStage (λ s. refl) m.sq, lock_refl SameGot (λ p. refl) m.cq)

pub alike_refl : (s : Label) → Alike s s
alike_refl Dead = tt
alike_refl (Live a m) = modes_refl m

stage_sym : (s t : Submitting) → SameStage s t → SameStage t s
stage_sym s t e = sym e

stage_trans : (s t u : Submitting) → SameStage s t → SameStage t u → SameStage s u
stage_trans s t u e f = e ∙ f

modes_sym : (m n : Mode) → AlikeModes m n → AlikeModes n m
modes_sym m n l = (lock_sym SameStage stage_sym m.sq n.sq l.0, lock_sym SameGot (λ p q e. sym e) m.cq n.cq l.1)

pub alike_sym : (s t : Label) → Alike s t → Alike t s
alike_sym Dead Dead l = tt
alike_sym Dead (Live b n) l = tt
alike_sym (Live a m) Dead l = tt
alike_sym (Live a m) (Live b n) l = modes_sym m n l

pub same_alike : (s t u v : Label) → IsSame s u → IsSame t v → Alike u v → Alike s t
same_alike Dead t u v e f l = tt
same_alike (Live a m) Dead u v e f l = tt
same_alike (Live a m) (Live b n) Dead v e f l = absurd e
same_alike (Live a m) (Live b n) (Live c k) Dead e f l = absurd f
same_alike (Live a m) (Live b n) (Live c k) (Live d o) e f l = subst (λ x. AlikeModes x n) (sym e.1) (subst (λ x. AlikeModes k x) (sym f.1) l)

-- ---- one rule of both

lock_alike : {A : Type 0} (F G : A → Label) (o p : Option A) → is_some o ≡ is_some p → ((s t : A) → Alike (F s) (G t)) → Alike (if_locked o F) (if_locked p G)
lock_alike F G None p l h = tt
lock_alike F G (Some s) None l h = absurd (cc)
lock_alike F G (Some s) (Some t) l h = h s t

effect_alike : (P : Program) (a b : Part → ℕ) (m n : Mode) (op : Op) → AlikeModes m n → Alike (op_effect P a m op) (op_effect P b n op)
effect_alike P a b m n op l = go op
  where
    sq : is_some m.sq ≡ is_some n.sq
    sq = lock_held SameStage m.sq n.sq l.0

    cq : is_some m.cq ≡ is_some n.cq
    cq = lock_held SameGot m.cq n.cq l.1

    go : (op : Op) → Alike (op_effect P a m op) (op_effect P b n op)
    go ops.GetSqe = lock_alike _ _ m.sq n.sq sq (λ s t. (refl, l.1))
    go (ops.PrepRead fd c len off) = lock_alike _ _ m.sq n.sq sq (λ s t. (refl, l.1))
    go (ops.PrepWrite fd c len off k) = lock_alike _ _ m.sq n.sq sq (λ s t. (refl, l.1))
    go (ops.PrepFsync fd d) = lock_alike _ _ m.sq n.sq sq (λ s t. (refl, l.1))
    go ops.PrepNop = lock_alike _ _ m.sq n.sq sq (λ s t. (refl, l.1))
    go ops.PrepOther = lock_alike _ _ m.sq n.sq sq (λ s t. (refl, l.1))
    go (ops.SetData64 u) = lock_alike _ _ m.sq n.sq sq (λ s t. (refl, l.1))
    go ops.CqeGetData64 = lock_alike _ _ m.cq n.cq cq (λ p q. (l.0, refl))
    go ops.CqeSeen = lock_alike _ _ m.cq n.cq cq (λ p q. (l.0, refl))
    go _ = l

most_alike : (k : ℕ) (m n : Mode) → AlikeModes m n → AlikeModes (at_most k m) (at_most k n)
most_alike k m n l = (lock_maps SameStage SameStage _ (λ s t e. e) m.sq n.sq l.0, l.1)

test_alike : (P : Program) (test : Test) (m n : Mode) → AlikeModes m n → AlikeModes (test_mode P test m) (test_mode P test n)
test_alike P (Compare x c k) m n l = l
test_alike P ReadyZero m n l = most_alike 0 m n l
test_alike P (SpaceAtLeast k) m n l = most_alike (P.entries - k) m n l
test_alike P (tests.Take pool k) m n l = l
test_alike P Any m n l = l

locked_alike : (P : Program) (locks : Locks) (m n : Mode) → AlikeModes m n → AlikeModes (locked P locks m) (locked P locks n)
locked_alike P locks m n l = (lock_taken SameStage locks.sq _ m.sq n.sq refl l.0, lock_taken SameGot locks.cq Unseen m.cq n.cq refl l.1)

freed_alike : (locks : Locks) (m n : Mode) → AlikeModes m n → AlikeModes (freed locks m) (freed locks n)
freed_alike locks m n l = (lock_freed SameStage locks.sq m.sq n.sq l.0, lock_freed SameGot locks.cq m.cq n.cq l.1)

with_alike : (p : Peeked) (m n : Mode) → AlikeModes m n → AlikeModes (with_peeked p m) (with_peeked p n)
with_alike p m n l = (l.0, lock_maps SameGot SameGot (λ _. p) (λ s t e. refl) m.cq n.cq l.1)

pub peeked_alike : (p : Peeked) (s t : Label) → Alike s t → Alike (peek_at p s) (peek_at p t)
peeked_alike p Dead t l = tt
peeked_alike p (Live a m) Dead l = tt
peeked_alike p (Live a m) (Live b n) l = with_alike p m n l

pub broken_alike : (locks : Locks) (s t : Label) → Alike s t → Alike (broken locks s) (broken locks t)
broken_alike locks Dead t l = tt
broken_alike locks (Live a m) Dead l = tt
broken_alike locks (Live a m) (Live b n) l = freed_alike locks (with_peeked Unseen m) (with_peeked Unseen n) (with_alike Unseen m n l)

case_alike : (u : ℕ) (a b : Part → ℕ) (m n : Mode) → AlikeModes m n → Alike (case_at u (Live a m)) (case_at u (Live b n))
case_alike u a b m n l = go (nat_lt 0 (a (TokenOf u))) (nat_lt 0 (b (TokenOf u)))
  where
    go : (x y : Bool) → Alike (cond x Dead (Live a (with_peeked (Sees u) m))) (cond y Dead (Live b (with_peeked (Sees u) n)))
    go true y = tt
    go false true = tt
    go false false = with_alike (Sees u) m n l

take_alike : (P : Program) (items : Items) (a b : Part → ℕ) (m n : Mode) → AlikeModes m n → Alike (take_effect P a m items) (take_effect P b n items)
take_alike P items a b m n l = go (can_take P a m items) (can_take P b n items)
  where
    go : (x y : Bool) → Alike (cond x (Live (plus a (bag_of items)) m) Dead) (cond y (Live (plus b (bag_of items)) n) Dead)
    go false y = tt
    go true false = tt
    go true true = l

rule_alike : (P : Program) (rule : Rule) (a b : Part → ℕ) (m n : Mode) → AlikeModes m n → Alike (rule_effect P rule a m) (rule_effect P rule b n)
rule_alike P (Do op) a b m n l = effect_alike P a b m n op l
rule_alike P (Put pool items) a b m n l = l
rule_alike P (Lock takes) a b m n l = locked_alike P takes m n l
rule_alike P (Release releases) a b m n l = freed_alike releases m n l
rule_alike P (If test) a b m n l = test_alike P test m n l
rule_alike P (Take pool items) a b m n l = take_alike P (view_items items.now) a b m n l
rule_alike P (Case u) a b m n l = case_alike u a b m n l
rule_alike P Other a b m n l = with_alike SeesOther m n l
rule_alike P Nothing a b m n l = with_alike Unseen m n l

goes_dead : (P : Program) (rule : Rule) (s : Label) → Alike s Dead
goes_dead P rule Dead = tt
goes_dead P rule (Live a m) = tt

pub goes_alike : (P : Program) (rule : Rule) (s t : Label) → Alike s t → Alike (goes s (λ b m. rule_effect P rule b m)) (goes t (λ b m. rule_effect P rule b m))
goes_alike P rule Dead t l = tt
goes_alike P rule (Live a m) Dead l = goes_dead P rule (rule_effect P rule a m)
goes_alike P rule (Live a m) (Live b n) l = rule_alike P rule a b m n l

-- ---- sides that join

lower_sq : (o p q r : Option Submitting) → UnderLock WeakerSubmitting o q → UnderLock WeakerSubmitting p r → UnderLock SameStage q r → UnderLock SameStage o p
lower_sq o p q r v w e =
    let stage : (s t : Option Submitting) → UnderLock WeakerSubmitting s t → UnderLock SameStage s t = lock_map WeakerSubmitting SameStage (λ x y u. u.slot) in
    lock_trans SameStage stage_trans o q p (stage o q v) (lock_trans SameStage stage_trans q r p e (lock_sym SameStage stage_sym p r (stage p r w)))

lower_cq : (o p q r : Option Peeked) → UnderLock WeakerPeeked o q → UnderLock WeakerPeeked p r → UnderLock SameGot q r → UnderLock SameGot o p
lower_cq o p q r v w e =
    let got : (s t : Option Peeked) → UnderLock WeakerPeeked s t → UnderLock SameGot s t = lock_map WeakerPeeked SameGot got_same in
    let trans : (s t u : Peeked) → SameGot s t → SameGot t u → SameGot s u = λ s t u f g. f ∙ g in
    lock_trans SameGot trans o q p (got o q v) (lock_trans SameGot trans q r p e (lock_sym SameGot (λ s t f. sym f) p r (got p r w)))

lower_modes : (m n k l : Mode) → WeakerMode m k → WeakerMode n l → AlikeModes k l → AlikeModes m n
lower_modes m n k l v w e = (lower_sq m.sq n.sq k.sq l.sq v.0 w.0 e.0, lower_cq m.cq n.cq k.cq l.cq v.1 w.1 e.1)

-- what is weaker than live labels that are alike is alike
lower : (s t u v : Label) → is_live u ≡ true → is_live v ≡ true → Weaker s u → Weaker t v → Alike u v → Alike s t
lower Dead t u v e f x y l = tt
lower (Live a m) Dead u v e f x y l = tt
lower (Live a m) (Live b n) Dead v e f x y l = absurd (cc)
lower (Live a m) (Live b n) (Live c k) Dead e f x y l = absurd (cc)
lower (Live a m) (Live b n) (Live c k) (Live d o) e f x y l = lower_modes m n k o x.1 y.1 l

abbrev ComesFrom : Label → Label → Label → Type 0
ComesFrom s t u = (s ≡ Dead) ⊎ (((is_live t ≡ true) × Weaker s t) ⊎ ((is_live u ≡ true) × Weaker s u))

comes_from : (s t u : Label) → IsStrongest s (t ∷ u ∷ []) → ComesFrom s t u
comes_from Dead t u h = inl refl
comes_from (Live a m) Dead Dead h = absurd (h.strongest Dead (tt, (tt, tt)))
comes_from (Live a m) (Live b n) u h = inr (inl (refl, h.weaker.0))
comes_from (Live a m) Dead (Live c k) h = inr (inr (refl, h.weaker.1.0))

dead_alike : (s t : Label) → s ≡ Dead → Alike s t
dead_alike s t e = subst (λ x. Alike x t) (sym e) tt

alike_dead : (s t : Label) → t ≡ Dead → Alike s t
alike_dead s t e = alike_sym t s (dead_alike t s e)

-- Of two states that join, side by side, the sides are alike where each of one is with each of the other.
pub joins_alike : (s t a b c d : Label) → IsStrongest s (a ∷ c ∷ []) → IsStrongest t (b ∷ d ∷ []) → Alike a b → Alike a d → Alike c b → Alike c d → Alike s t
joins_alike s t a b c d h g ab ad cb cd = go (comes_from s a c h) (comes_from t b d g)
  where
    go : ComesFrom s a c → ComesFrom t b d → Alike s t
    go (inl e) y = dead_alike s t e
    go (inr x) (inl e) = alike_dead s t e
    go (inr (inl x)) (inr (inl y)) = lower s t a b x.0 y.0 x.1 y.1 ab
    go (inr (inl x)) (inr (inr y)) = lower s t a d x.0 y.0 x.1 y.1 ad
    go (inr (inr x)) (inr (inl y)) = lower s t c b x.0 y.0 x.1 y.1 cb
    go (inr (inr x)) (inr (inr y)) = lower s t c d x.0 y.0 x.1 y.1 cd
