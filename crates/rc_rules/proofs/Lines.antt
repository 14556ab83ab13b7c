-- What the lines of tokens name, and what statements leave.
use Rattle.std.proofs.Common.{◌≡◌, ℕ, ◌+◌, ◌≤◌, Bool, true, false, cond, nat_eq, Option, Some, None, arith, refl, ap, subst, sym, ◌∙◌}
use Rattle.std.specs.Prelude.{All, List, [], ◌∷◌, filter_map, min, slice_get}
use Rattle.std.proofs.lemmas.Bool.{eqb-true}
use Rattle.std.proofs.lemmas.Option.{get_or_from_slice_get, slice_get_within}
use Rattle.rc_lang.specs.declared.lines.Op.{Op}
use Rattle.rc_lang.specs.declared.lines.Op.TheVariants as ops
use Rattle.rc_lang.specs.declared.program.Token.{Token}
use Rattle.rc_lang.specs.declared.program.TokenKind.{TokenKind}
use Rattle.rc_lang.specs.declared.program.TokenKind.TheVariants.{Read, Write, Fsync, Nop, Other}
use Rattle.rc_lang.specs.Kinds.{kinds_in}
use Rattle.rc_lang.specs.Program.{Program, token_place}
use Rattle.rc_lang.specs.Kept.{IsTokenKind}
use Rattle.rc_lang.specs.Views.{IsView}
use Rattle.rc_split.specs.Bags.{Part, ShareOf, TokenOf, Credit, shares_bag, token_bag, credits_bag}
use Rattle.rc_split.proofs.Named.{few_shares}
use Rattle.rc_rules.specs.declared.mode.Mode.{Mode}
use Rattle.rc_rules.specs.declared.mode.Peeked.{Peeked}
use Rattle.rc_rules.specs.declared.mode.Peeked.TheVariants.{Unseen, Sees, SeesOther, Got}
use Rattle.rc_rules.specs.Labels.{Label, Dead, Live}
use Rattle.rc_rules.specs.Kinds.{kind_bag, kinds_of, least_of, line_bag, token_at, token_of}
use Rattle.rc_rules.specs.Rules.{got_bag, reaped, if_locked, locks_of, op_effect}
use Rattle.rc_rules.specs.States.{IsLine}
use Rattle.rc_rules.proofs.Weaker.{cq_given, sq_given}

no_line : (P : Program) → IsLine P None
no_line P i kind lt = absurd (omega (arith, lt))

is_line : (P : Program) (o : Option Token) (k : ℕ) → IsView P → slice_get P.tokens k ≡ o → IsLine P o
is_line P None k h e = no_line P
is_line P (Some t) k h e = subst (λ (y : Token). IsLine P (Some y)) (get_or_from_slice_get P.tokens k t t e) (h.tokens k t (slice_get_within P.tokens k t e))

pub line_of : (P : Program) (u : ℕ) → IsView P → IsLine P (token_of P u)
line_of P u h = go (token_place P.tokens u)
  where
    go : (o : Option ℕ) → IsLine P (token_at P.tokens o)
    go None = no_line P
    go (Some k) = is_line P (slice_get P.tokens k) k h refl

few : (b c k : ℕ) → k ≤ 16 → cond (nat_eq b c) k 0 ≤ 16
few b c k h = go (nat_eq b c)
  where
    go : (x : Bool) → cond x k 0 ≤ 16
    go true = h
    go false = omega arith

pub kind_few : (P : Program) (kind : TokenKind) (p : Part) → IsView P → IsTokenKind P kind → kind_bag P kind p ≤ 16
kind_few P (Read b) (ShareOf c) h l = few b c _ (few_shares P b h)
kind_few P (Write b k) (ShareOf c) h l = few b c k (let m = few_shares P b h in let n = l.1.within in omega (arith, m, n))
kind_few P Fsync p h l = omega arith
kind_few P Nop p h l = omega arith
kind_few P Other p h l = omega arith
kind_few P (Read b) (TokenOf u) h l = omega arith
kind_few P (Read b) Credit h l = omega arith
kind_few P (Write b k) (TokenOf u) h l = omega arith
kind_few P (Write b k) Credit h l = omega arith

-- ---- the least of what kinds take

least_below : (P : Program) (n : ℕ) (kinds : List TokenKind) (p : Part) → least_of P n kinds p ≤ n
least_below P n [] p = omega arith
least_below P n (kind ∷ kinds) p = omega (arith, least_below P (min n (kind_bag P kind p)) kinds p)

first_few : (P : Program) (kind : TokenKind) (kinds : List TokenKind) (p : Part) → IsView P → IsTokenKind P kind → line_bag P (kind ∷ kinds) p ≤ 16
first_few P kind kinds p h l = omega (arith, least_below P (kind_bag P kind p) kinds p, kind_few P kind p h l)

pub line_few : (P : Program) (kinds : List TokenKind) (p : Part) → IsView P → All (IsTokenKind P) kinds → line_bag P kinds p ≤ 16
line_few P [] p h l = omega arith
line_few P (kind ∷ kinds) p h l = first_few P kind kinds p h (l 0 kind (omega arith))

first_none : (P : Program) (kind : TokenKind) (kinds : List TokenKind) (p : Part) → kind_bag P kind p ≡ 0 → line_bag P (kind ∷ kinds) p ≡ 0
first_none P kind kinds p e = omega (arith, least_below P (kind_bag P kind p) kinds p, e)

kind_token : (P : Program) (kind : TokenKind) (u : ℕ) → kind_bag P kind (TokenOf u) ≡ 0
kind_token P (Read b) u = refl
kind_token P (Write b k) u = refl
kind_token P Fsync u = refl
kind_token P Nop u = refl
kind_token P Other u = refl

pub line_token : (P : Program) (kinds : List TokenKind) (u : ℕ) → line_bag P kinds (TokenOf u) ≡ 0
line_token P [] u = refl
line_token P (kind ∷ kinds) u = first_none P kind kinds (TokenOf u) (kind_token P kind u)

-- Where the first kind takes shares of one buffer, all that comes back is of that buffer.
one_buffer : (P : Program) (kind : TokenKind) (kinds : List TokenKind) (b n : ℕ) → ((p : Part) → kind_bag P kind p ≡ shares_bag b n p) → (p : Part) → line_bag P (kind ∷ kinds) p ≡ shares_bag b (line_bag P (kind ∷ kinds) (ShareOf b)) p
one_buffer P kind kinds b n h (TokenOf u) = first_none P kind kinds (TokenOf u) (h (TokenOf u))
one_buffer P kind kinds b n h Credit = first_none P kind kinds Credit (h Credit)
one_buffer P kind kinds b n h (ShareOf c) = go (nat_eq b c) refl
  where
    go : (x : Bool) → nat_eq b c ≡ x → line_bag P (kind ∷ kinds) (ShareOf c) ≡ cond x (line_bag P (kind ∷ kinds) (ShareOf b)) 0
    go true e = ap (λ d. line_bag P (kind ∷ kinds) (ShareOf d)) (sym (eqb-true b c e))
    go false e = first_none P kind kinds (ShareOf c) (h (ShareOf c) ∙ ap (λ x. cond x n 0) e)

module _ (P : Program) (t : Token) (kind : TokenKind) (e : t.kind ≡ kind) where
  pub first_kind : IsLine P (Some t) → IsTokenKind P kind
  first_kind l = subst (IsTokenKind P) e (l 0 t.kind (omega arith))

  pub buffer_back : (b n : ℕ) → ((p : Part) → kind_bag P kind p ≡ shares_bag b n p) → (p : Part) → shares_bag b (line_bag P (kinds_in t) (ShareOf b)) p ≡ line_bag P (kinds_in t) p
  buffer_back b n h p = sym (one_buffer P t.kind (filter_map (λ other. other) t.others) b n (λ q. ap (λ k. kind_bag P k q) e ∙ h q) p)

  pub nothing_back : ((p : Part) → kind_bag P kind p ≡ 0) → (p : Part) → line_bag P (kinds_in t) p ≡ 0
  nothing_back h p = first_none P t.kind (filter_map (λ other. other) t.others) p (ap (λ k. kind_bag P k p) e ∙ h p)

pub one_at_most : (u : ℕ) (p : Part) → token_bag u p ≤ 1
one_at_most u (ShareOf b) = omega arith
one_at_most u (TokenOf v) = go (nat_eq u v)
  where
    go : (x : Bool) → cond x 1 0 ≤ 1
    go true = omega arith
    go false = omega arith
one_at_most u Credit = omega arith

pub one_credit : (p : Part) → credits_bag 1 p ≤ 1
one_credit (ShareOf b) = omega arith
one_credit (TokenOf v) = omega arith
one_credit Credit = omega arith

pub line_is : (P Q : Program) (u : ℕ) (o : Option Token) → o ≡ token_of Q u → Q ≡ P → IsView P → IsLine P o
line_is P Q u o e q h = subst (IsLine P) (sym (e ∙ ap (λ (R : Program). token_of R u) q)) (line_of P u h)

-- ---- effects

pub got_few : (P : Program) (pk : Peeked) (p : Part) → IsView P → got_bag P pk p ≤ 17
got_few P Unseen p h = omega arith
got_few P (Sees u) p h = omega (arith, line_few P (kinds_of P u) p h (line_of P u h), one_at_most u p)
got_few P SeesOther p h = omega arith
got_few P Got p h = omega arith

pub reaped_few : (P : Program) (pk : Peeked) (p : Part) → IsView P → reaped P pk p ≤ 18
reaped_few P Unseen p h = omega arith
reaped_few P (Sees u) p h = omega (arith, got_few P (Sees u) p h, one_credit p)
reaped_few P SeesOther p h = omega (arith, one_credit p)
reaped_few P Got p h = omega (arith, one_credit p)

by_lock : {A : Type 0} (o : Option A) (F : A → Label) (Q : Label → Type 0) → Q Dead → ((s : A) → o ≡ Some s → Q (F s)) → Q (if_locked o F)
by_lock None F Q d f = d
by_lock (Some s) F Q d f = f s refl

-- What is true of a dead state, and of each with the same locks as before and at most 18 of a part more, is true after a
-- statement.
pub effect_by : (P : Program) (a : Part → ℕ) (m : Mode) (op : Op) → IsView P → (Q : Label → Type 0) → Q Dead → ((b : Part → ℕ) (n : Mode) → locks_of n ≡ locks_of m → ((p : Part) → b p ≤ a p + 18) → Q (Live b n)) → Q (op_effect P a m op)
effect_by P a m ops.GetSqe h Q d f = by_lock m.sq _ Q d (λ s e. f _ _ (sq_given m s e) (λ p. omega arith))
effect_by P a m (ops.PrepRead fd b len off) h Q d f = by_lock m.sq _ Q d (λ s e. f _ _ (sq_given m s e) (λ p. omega arith))
effect_by P a m (ops.PrepWrite fd b len off k) h Q d f = by_lock m.sq _ Q d (λ s e. f _ _ (sq_given m s e) (λ p. omega arith))
effect_by P a m (ops.PrepFsync fd datasync) h Q d f = by_lock m.sq _ Q d (λ s e. f _ _ (sq_given m s e) (λ p. omega arith))
effect_by P a m ops.PrepNop h Q d f = by_lock m.sq _ Q d (λ s e. f _ _ (sq_given m s e) (λ p. omega arith))
effect_by P a m ops.PrepOther h Q d f = by_lock m.sq _ Q d (λ s e. f _ _ (sq_given m s e) (λ p. omega arith))
effect_by P a m (ops.SetData64 u) h Q d f = by_lock m.sq _ Q d (λ s e. f _ _ (sq_given m s e) (λ p. omega arith))
effect_by P a m ops.CqeGetData64 h Q d f = by_lock m.cq _ Q d (λ x e. f _ _ (cq_given m x e) (λ p. omega (arith, got_few P x p h)))
effect_by P a m ops.CqeSeen h Q d f = by_lock m.cq _ Q d (λ x e. f _ _ (cq_given m x e) (λ p. omega (arith, reaped_few P x p h)))
effect_by P a m _ h Q d f = f a m refl (λ p. omega arith)
