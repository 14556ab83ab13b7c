-- One rule's effect on a state.
use Rattle.std.proofs.Common.{◌≡◌, ℕ, ◌≤◌, Bool, true, false, cond, nat_lt, Option, Some, None, Ok, refl, sym, subst, ◌∙◌, arith}
use Rattle.std.specs.Prelude.{option_map, unwrap_or}
use Rattle.std.proofs.lemmas.Bool.{ltb-false}
use Rattle.rc_lang.specs.declared.lines.Op.{Op}
use Rattle.rc_lang.specs.declared.lines.Op.TheVariants as ops
use Rattle.rc_lang.specs.declared.lines.Test.{Test}
use Rattle.rc_lang.specs.declared.lines.Test.TheVariants as tests
use Rattle.rc_lang.specs.declared.lines.Test.TheVariants.{Compare, ReadyZero, SpaceAtLeast, Any}
use Rattle.rc_lang.specs.declared.program.TokenKind.TheVariants.{Read, Write}
use Rattle.rc_lang.specs.Parts.{view_items}
use Rattle.rc_lang.specs.Program.{Program, Items}
use Rattle.rc_lang.specs.Resolved.{DeclaresToken}
use Rattle.rc_split.specs.Bags.{Part, TokenOf, credits_bag, token_bag, bag_of, minus, plus}
use Rattle.rc_split.specs.Holdings.{Holding, bag}
use Rattle.rc_rules.specs.declared.mode.Mode.{Mode}
use Rattle.rc_rules.specs.declared.mode.Peeked.{Peeked}
use Rattle.rc_rules.specs.declared.mode.Peeked.TheVariants.{Unseen, Sees, SeesOther, Got}
use Rattle.rc_rules.specs.declared.rule.Rule.{Rule}
use Rattle.rc_rules.specs.declared.rule.Rule.TheVariants.{Do, Put, Lock, Release, If, Take, Case, Other, Nothing}
use Rattle.rc_rules.specs.Labels.{Label, Dead, Live, IsSame}
use Rattle.rc_rules.specs.OneRule.{rule_premises, rule_effect, MayFollow}
use Rattle.rc_rules.specs.Premises.{Meets}
use Rattle.rc_rules.specs.Kinds.{kind_bag}
use Rattle.rc_rules.specs.Rules.{if_locked, op_effect, peeked_of, asks, goes, test_mode, with_peeked, case_at, can_take, take_effect}
use Rattle.rc_rules.proofs.Room.{taken_free}
use Rattle.rc_rules.specs.States.{Side, side_of, side_label, label_in, live_of, IsFree, IsFreeIn, IsFreeFor, GivesSide}

-- ---- what is peeked isn't held

pub fewer_free : (P : Program) (a b : Part → ℕ) (pk : Peeked) → ((u : ℕ) → b (TokenOf u) ≤ a (TokenOf u)) → IsFreeFor P a pk → IsFreeFor P b pk
fewer_free P a b Unseen l f = tt
fewer_free P a b (Sees u) l f = (f.0, omega (arith, l u, f.1))
fewer_free P a b SeesOther l f = tt
fewer_free P a b Got l f = tt

free_in : {A : Type 0} (P : Program) (o : Option A) (F : A → Label) → ((s : A) → IsFree P (F s)) → IsFree P (if_locked o F)
free_in P None F h = tt
free_in P (Some s) F h = h s

pub effect_free : (P : Program) (a : Part → ℕ) (m : Mode) (op : Op) → IsFreeIn P a m → IsFree P (op_effect P a m op)
effect_free P a m ops.GetSqe f = free_in P m.sq _ (λ s. fewer_free P a (minus a (credits_bag 1)) (peeked_of m) (λ u. omega arith) f)
effect_free P a m (ops.PrepRead fd b len off) f = free_in P m.sq _ (λ s. fewer_free P a (minus a (kind_bag P (Read b))) (peeked_of m) (λ u. omega arith) f)
effect_free P a m (ops.PrepWrite fd b len off k) f = free_in P m.sq _ (λ s. fewer_free P a (minus a (kind_bag P (Write b k))) (peeked_of m) (λ u. omega arith) f)
effect_free P a m (ops.PrepFsync fd d) f = free_in P m.sq _ (λ s. f)
effect_free P a m ops.PrepNop f = free_in P m.sq _ (λ s. f)
effect_free P a m ops.PrepOther f = free_in P m.sq _ (λ s. f)
effect_free P a m (ops.SetData64 u) f = free_in P m.sq _ (λ s. fewer_free P a (minus a (token_bag u)) (peeked_of m) (λ v. omega arith) f)
effect_free P a m ops.CqeGetData64 f = free_in P m.cq _ (λ p. tt)
effect_free P a m ops.CqeSeen f = free_in P m.cq _ (λ p. tt)
effect_free P a m _ f = f

same_free : (P : Program) (a b : Part → ℕ) (pk : Peeked) → ((p : Part) → a p ≡ b p) → IsFreeFor P b pk → IsFreeFor P a pk
same_free P a b Unseen e f = tt
same_free P a b (Sees u) e f = (f.0, e (TokenOf u) ∙ f.1)
same_free P a b SeesOther e f = tt
same_free P a b Got e f = tt

same_free_in : (P : Program) (a b : Part → ℕ) (m n : Mode) → ((p : Part) → a p ≡ b p) → m ≡ n → IsFreeIn P b n → IsFreeIn P a m
same_free_in P a b m n e q f = same_free P a b (peeked_of m) e (subst (IsFreeIn P b) (sym q) f)

label_free : (P : Program) (h : Holding) (o : Option Mode) (t : Label) → h.program ≡ P → IsSame (label_in (live_of h o)) t → IsFree P t → IsFree h.program (label_in (live_of h o))
label_free P h None t q e f = tt
label_free P h (Some m) Dead q e f = absurd e
label_free P h (Some m) (Live b n) q e f = subst (λ R. IsFreeIn R (bag h) m) (sym q) (same_free_in P (bag h) b m n e.0 e.1 f)

-- ---- one rule

front_free : (P : Program) (a : Part → ℕ) (pk : Peeked) (o : Option Peeked) → IsFreeFor P a pk → IsFreeFor P a (unwrap_or (option_map (λ _. pk) o) Unseen)
front_free P a pk None f = tt
front_free P a pk (Some q) f = f

with_free : (P : Program) (a : Part → ℕ) (pk : Peeked) (m : Mode) → IsFreeFor P a pk → IsFreeIn P a (with_peeked pk m)
with_free P a pk m f = front_free P a pk m.cq f

test_free : (P : Program) (a : Part → ℕ) (test : Test) (m : Mode) → IsFreeIn P a m → IsFreeIn P a (test_mode P test m)
test_free P a (Compare x c n) m f = f
test_free P a ReadyZero m f = f
test_free P a (SpaceAtLeast n) m f = f
test_free P a (tests.Take pool k) m f = f
test_free P a Any m f = f

locked_free : (P : Program) (a : Part → ℕ) (b : Bool) (o : Option Peeked) → IsFreeFor P a (unwrap_or o Unseen) → IsFreeFor P a (unwrap_or (cond b (Some Unseen) o) Unseen)
locked_free P a true o f = tt
locked_free P a false o f = f

freed_free : (P : Program) (a : Part → ℕ) (b : Bool) (o : Option Peeked) → IsFreeFor P a (unwrap_or o Unseen) → IsFreeFor P a (unwrap_or (cond b None o) Unseen)
freed_free P a true o f = tt
freed_free P a false o f = f

case_free : (P : Program) (a : Part → ℕ) (u : ℕ) (m : Mode) → DeclaresToken P u → IsFree P (case_at u (Live a m))
case_free P a u m d = go (nat_lt 0 (a (TokenOf u))) refl
  where
    go : (b : Bool) → nat_lt 0 (a (TokenOf u)) ≡ b → IsFree P (cond b Dead (Live a (with_peeked (Sees u) m)))
    go true e = tt
    go false e = with_free P a (Sees u) m (d, let l : a (TokenOf u) ≤ 0 = ltb-false 0 (a (TokenOf u)) e in omega (arith, l))

put_free : (P : Program) (a b : Part → ℕ) (m : Mode) → IsFreeIn P a m → IsFreeIn P (minus a b) m
put_free P a b m f = fewer_free P a (minus a b) (peeked_of m) (λ u. omega arith) f

take_free : (P : Program) (a : Part → ℕ) (m : Mode) (items : Items) → IsFreeIn P a m → IsFree P (take_effect P a m items)
take_free P a m items f = go (can_take P a m items) refl
  where
    go : (b : Bool) → can_take P a m items ≡ b → IsFree P (cond b (Live (plus a (bag_of items)) m) Dead)
    go true e = taken_free P a m items e f
    go false e = tt

rule_free : (P : Program) (a : Part → ℕ) (m : Mode) (rule : Rule) → IsFreeIn P a m → MayFollow P rule (Live a m) → IsFree P (rule_effect P rule a m)
rule_free P a m (Do op) f h = effect_free P a m op f
rule_free P a m (Put pool items) f h = put_free P a (bag_of (view_items items.now)) m f
rule_free P a m (Lock takes) f h = locked_free P a takes.cq m.cq f
rule_free P a m (Release releases) f h = freed_free P a releases.cq m.cq f
rule_free P a m (If test) f h = test_free P a test m f
rule_free P a m (Take pool items) f h = take_free P a m (view_items items.now) f
rule_free P a m (Case u) f h = case_free P a u m h
rule_free P a m Other f h = with_free P a SeesOther m tt
rule_free P a m Nothing f h = with_free P a Unseen m tt

pub mode_free : (h : Holding) (o : Option Mode) (m : Mode) → o ≡ Some m → IsFree h.program (label_in (live_of h o)) → IsFreeIn h.program (bag h) m
mode_free h o m e f = subst (λ x. IsFree h.program (label_in (live_of h x))) e f

may_held : (h : Holding) (o : Option Mode) (x : Side) (m : Mode) (rule : Rule) → side_of h o ≡ x → o ≡ Some m → MayFollow x.program rule (side_label x) → MayFollow h.program rule (Live (bag h) m)
may_held h o x m rule q e f = subst (λ y. MayFollow h.program rule (label_in (live_of h y))) e (subst (λ (s : Side). MayFollow s.program rule (side_label s)) (sym q) f)

-- what is peeked isn't held after a rule either
pub follow_free : (h new : Holding) (o p : Option Mode) (x : Side) (m : Mode) (rule : Rule) → side_of h o ≡ x → o ≡ Some m → IsFree h.program (label_in (live_of h o)) → MayFollow x.program rule (side_label x) → IsSame (label_in (live_of new p)) (rule_effect h.program rule (bag h) m) → new.program ≡ h.program → IsFree new.program (label_in (live_of new p))
follow_free h new o p x m rule q e f g i r = label_free h.program new p (rule_effect h.program rule (bag h) m) r i (rule_free h.program (bag h) m rule (mode_free h o m e f) (may_held h o x m rule q e g))

-- a live side goes over a line
pub went : (h new : Holding) (o p : Option Mode) (x : Side) (m : Mode) (rule : Rule) → side_of h o ≡ x → o ≡ Some m → Meets (rule_premises h.program rule (bag h) m) → IsSame (label_in (live_of new p)) (rule_effect h.program rule (bag h) m) → new.program ≡ h.program → GivesSide {X = Unit {0}} x (side_of new p) (Ok tt) (asks (side_label x) (λ b k. rule_premises x.program rule b k)) (goes (side_label x) (λ b k. rule_effect x.program rule b k))
went h new o p x m rule q e g i r = subst (λ (s : Side). GivesSide {X = Unit {0}} s (side_of new p) (Ok tt) (asks (side_label s) (λ b k. rule_premises s.program rule b k)) (goes (side_label s) (λ b k. rule_effect s.program rule b k))) q
    (subst (λ y. Meets (asks (label_in (live_of h y)) (λ b k. rule_premises h.program rule b k)) × IsSame (label_in (live_of new p)) (goes (label_in (live_of h y)) (λ b k. rule_effect h.program rule b k)) × (new.program ≡ h.program)) (sym e) (g, i, r))
