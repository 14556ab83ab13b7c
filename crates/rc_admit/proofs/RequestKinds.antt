-- Of which kind a request is, among those that its token's line names, and what it owns by that.
use Rattle.std.proofs.Common.{◌≡◌, ℕ, ◌+◌, ◌≤◌, Bool, true, false, cond, List, [], ◌∷◌, Option, Some, None, refl, sym, ap, ◌∙◌, subst, ◌⊎◌, inl, inr, arith, All}
use Rattle.std.specs.Prelude.{min, nat_eq, slice_get}
use Rattle.std.specs.List.{AllByRecursion, IsDistinct}
use Rattle.std.proofs.lemmas.Bool.{eq-eqb, eqb-true, or_cases}
use Rattle.std.proofs.lemmas.List.Elements.{All-head, All-nil, All-tail}
use Rattle.std.proofs.lemmas.Map.Keys.{IsDistinct-head, IsDistinct-tail}
use Rattle.std.proofs.lemmas.Option.{get_or_from_slice_get, slice_get_within}
use Rattle.rc_lang.specs.declared.program.Token.{Token}
use Rattle.rc_lang.specs.declared.program.TokenKind.{TokenKind}
use Rattle.rc_lang.specs.declared.program.TokenKind.TheVariants as tokens
use Rattle.rc_lang.specs.declared.request.Kind.{Kind}
use Rattle.rc_lang.specs.declared.request.Kind.TheVariants.{Nop, Fsync, Read, Write, Other}
use Rattle.rc_lang.specs.declared.request.Request.{Request}
use Rattle.rc_lang.specs.Kinds.{is_one_kind, kinds_in}
use Rattle.rc_lang.specs.Program.{Program, token_place}
use Rattle.rc_lang.specs.Kept.{IsProgram, IsTokenKind}
use Rattle.rc_rules.specs.declared.mode.Slot.{Slot}
use Rattle.rc_rules.specs.declared.mode.Slot.TheVariants.{Prepared}
use Rattle.rc_rules.specs.Kinds.{kind_bag, kinds_at, kinds_of, least_of, line_bag, token_at}
use Rattle.rc_rules.specs.Rules.{is_prepared_as, same_slot}
use Rattle.rc_rules.proofs.Weaker.{same_slot_is}
use Rattle.rc_split.specs.Bags.{Part, credits_bag, token_bag}

-- ---- the kind of a request

-- A request of this kind, and of this buffer where it has one, is one that a token's line calls so.
abbrev pub IsCalled : Kind → ℕ → TokenKind → Type 0
IsCalled kind buffer (tokens.Read b) = (kind ≡ Read) × (buffer ≡ b)
IsCalled kind buffer (tokens.Write b k) = (kind ≡ Write) × (buffer ≡ b)
IsCalled kind buffer tokens.Fsync = kind ≡ Fsync
IsCalled kind buffer tokens.Nop = kind ≡ Nop
IsCalled kind buffer tokens.Other = kind ≡ Other

abbrev pub FitsKind : Request → TokenKind → Type 0
FitsKind r kind = IsCalled r.kind r.buffer kind

-- the same as a test
abbrev pub is_called : Kind → ℕ → TokenKind → Bool
is_called Read buffer (tokens.Read b) = nat_eq buffer b
is_called Write buffer (tokens.Write b k) = nat_eq buffer b
is_called Fsync buffer tokens.Fsync = true
is_called Nop buffer tokens.Nop = true
is_called Other buffer tokens.Other = true
is_called _ buffer _ = false

-- the first of these kinds that the request is called
abbrev pub first_for : Request → List TokenKind → Option TokenKind
first_for r [] = None
first_for r (kind ∷ kinds) = cond (is_called r.kind r.buffer kind) (Some kind) (first_for r kinds)

-- the one that its token's line names
abbrev pub kind_for : Program → Request → Option TokenKind
kind_for P r = first_for r (kinds_of P r.user_data)

-- It is one of these kinds.
abbrev pub IsAmong : TokenKind → List TokenKind → Type 0
IsAmong kind [] = ⊥
IsAmong kind (k ∷ kinds) = (kind ≡ k) ⊎ IsAmong kind kinds

-- The request is of a kind that the line of its token names.
pub record HasKind (P : Program) (r : Request) : Type 0 where
  pub kind : TokenKind
  pub is : kind_for P r ≡ Some kind
  pub fits : FitsKind r kind
  pub among : IsAmong kind (kinds_of P r.user_data)

-- ---- what a request owns

abbrev pub taken_by : Program → Option TokenKind → Part → ℕ
taken_by P None p = 0
taken_by P (Some kind) p = kind_bag P kind p

-- what a request in flight owns: the shares that its kind takes, its token and a credit
abbrev pub owns : Program → Part → Request → ℕ
owns P p r = taken_by P (kind_for P r) p + token_bag r.user_data p + credits_bag 1 p

-- ---- no two kinds of a token are called alike

is_called_so : (r : Request) (kind : TokenKind) → FitsKind r kind → is_called r.kind r.buffer kind ≡ true
is_called_so r (tokens.Read b) f = ap (λ k. is_called k r.buffer (tokens.Read b)) f.0 ∙ eq-eqb r.buffer b f.1
is_called_so r (tokens.Write b n) f = ap (λ k. is_called k r.buffer (tokens.Write b n)) f.0 ∙ eq-eqb r.buffer b f.1
is_called_so r tokens.Fsync f = ap (λ k. is_called k r.buffer tokens.Fsync) f
is_called_so r tokens.Nop f = ap (λ k. is_called k r.buffer tokens.Nop) f
is_called_so r tokens.Other f = ap (λ k. is_called k r.buffer tokens.Other) f

both_called : (kind : Kind) (buffer : ℕ) (k l : TokenKind) → is_called kind buffer k ≡ true → is_called kind buffer l ≡ true → is_one_kind k l ≡ true
both_called Read buffer (tokens.Read b) (tokens.Read c) e f = eq-eqb b c (sym (eqb-true buffer b e) ∙ eqb-true buffer c f)
both_called Write buffer (tokens.Write b m) (tokens.Write c n) e f = eq-eqb b c (sym (eqb-true buffer b e) ∙ eqb-true buffer c f)
both_called Fsync buffer tokens.Fsync tokens.Fsync e f = refl
both_called Nop buffer tokens.Nop tokens.Nop e f = refl
both_called Other buffer tokens.Other tokens.Other e f = refl
both_called _ buffer _ _ e f = absurd (cc)

apart : (k kind : TokenKind) (kinds : List TokenKind) → AllByRecursion (λ l. is_one_kind k l ≡ false) kinds → IsAmong kind kinds → is_one_kind k kind ≡ false
apart k kind [] h a = absurd a
apart k kind (l ∷ kinds) h a = elim a [ inl e ↦ ap (is_one_kind k) e ∙ h.0 | inr b ↦ apart k kind kinds h.1 b ]

-- So the kind that a request is called among them is the one that it was prepared as.
pub kind_found : (r : Request) (kind : TokenKind) (kinds : List TokenKind) → FitsKind r kind → IsAmong kind kinds → IsDistinct is_one_kind kinds → first_for r kinds ≡ Some kind
kind_found r kind [] f a d = absurd a
kind_found r kind (k ∷ kinds) f a d = go (is_called r.kind r.buffer k) refl a (λ b. kind_found r kind kinds f b (IsDistinct-tail is_one_kind k kinds d))
  where
    called : is_called r.kind r.buffer kind ≡ true
    called = is_called_so r kind f

    go : (b : Bool) → is_called r.kind r.buffer k ≡ b → (kind ≡ k) ⊎ IsAmong kind kinds → (IsAmong kind kinds → first_for r kinds ≡ Some kind) → cond b (Some k) (first_for r kinds) ≡ Some kind
    go true e a later = elim a [
      | inl s ↦ ap Some (sym s)
      | inr s ↦ absurd (let x : is_one_kind k kind ≡ true = both_called r.kind r.buffer k kind e called in let y : is_one_kind k kind ≡ false = apart k kind kinds (IsDistinct-head is_one_kind k kinds d) s in cc)
    ]
    go false e a later = elim a [
      | inl s ↦ absurd (let x : is_called r.kind r.buffer k ≡ true = subst (λ l. is_called r.kind r.buffer l ≡ true) s called in cc)
      | inr s ↦ later s
    ]

-- ---- what a program says of the kinds of a token

of_kinds : (F : List TokenKind → Type 0) (P : Program) → F [] → ((j : ℕ) (t d : Token) → slice_get P.tokens j ≡ Some t → F (kinds_in t)) → (u : ℕ) → F (kinds_of P u)
of_kinds F P none some u = place (token_place P.tokens u)
  where
    found : (j : ℕ) (x : Option Token) → slice_get P.tokens j ≡ x → F (kinds_at x)
    found j None e = none
    found j (Some t) e = some j t t e

    place : (x : Option ℕ) → F (kinds_at (token_at P.tokens x))
    place None = none
    place (Some j) = found j (slice_get P.tokens j) refl

none_alike : IsDistinct is_one_kind []
unfolding IsDistinct
none_alike = tt

pub kinds_distinct : (P : Program) → IsProgram P → (u : ℕ) → IsDistinct is_one_kind (kinds_of P u)
kinds_distinct P made u = of_kinds (IsDistinct is_one_kind) P none_alike (λ j t d e. subst (λ (y : Token). IsDistinct is_one_kind (kinds_in y)) (get_or_from_slice_get P.tokens j t t e) (made.distinct_kinds j t (slice_get_within P.tokens j t e))) u

among_all : (F : TokenKind → Type 0) (kind : TokenKind) (kinds : List TokenKind) → All F kinds → IsAmong kind kinds → F kind
among_all F kind [] h a = absurd a
among_all F kind (k ∷ kinds) h a = elim a [ inl e ↦ subst F (sym e) (All-head F k kinds h) | inr b ↦ among_all F kind kinds (All-tail F k kinds h) b ]

-- The kind is one of the program's.
pub kind_made : (P : Program) → IsProgram P → (u : ℕ) (kind : TokenKind) → IsAmong kind (kinds_of P u) → IsTokenKind P kind
kind_made P made u kind a =
    among_all (IsTokenKind P) kind (kinds_of P u) (of_kinds (All (IsTokenKind P)) P (All-nil (IsTokenKind P)) (λ j t d e. subst (λ (y : Token). All (IsTokenKind P) (kinds_in y)) (get_or_from_slice_get P.tokens j t t e) (made.tokens j t (slice_get_within P.tokens j t e))) u) a

-- The open entry is prepared as one of them.
pub prepared_as : (kinds : List TokenKind) (slot : Slot) → is_prepared_as kinds slot ≡ true → (kind : TokenKind) × IsAmong kind kinds × (slot ≡ Prepared kind)
prepared_as [] slot e = absurd (cc)
prepared_as (k ∷ kinds) slot e = elim (or_cases (same_slot slot (Prepared k)) (is_prepared_as kinds slot) e) [
  | inl x ↦ (k, inl refl, same_slot_is slot (Prepared k) x)
  | inr x ↦ let h = prepared_as kinds slot x in (h.0, inr h.1, h.2)
]

-- ---- what comes back of a request is no more than it owns

least_start : (P : Program) (n : ℕ) (kinds : List TokenKind) (p : Part) → least_of P n kinds p ≤ n
least_start P n [] p = omega arith
least_start P n (k ∷ kinds) p = let h : least_of P (min n (kind_bag P k p)) kinds p ≤ min n (kind_bag P k p) = least_start P (min n (kind_bag P k p)) kinds p in omega arith

-- of the first kind, too
least_first : (P : Program) (n : ℕ) (k kind : TokenKind) (kinds : List TokenKind) (p : Part) → n ≤ kind_bag P k p → kind ≡ k → least_of P n kinds p ≤ kind_bag P kind p
least_first P n k kind kinds p le e =
    let h : least_of P n kinds p ≤ n = least_start P n kinds p in
    let x : kind_bag P kind p ≡ kind_bag P k p = ap (λ l. kind_bag P l p) e in
    omega (arith, h, x, le)

least_among : (P : Program) (n : ℕ) (kind : TokenKind) (kinds : List TokenKind) (p : Part) → IsAmong kind kinds → least_of P n kinds p ≤ kind_bag P kind p
least_among P n kind [] p a = absurd a
least_among P n kind (k ∷ kinds) p a = elim a [ inl e ↦ least_first P (min n (kind_bag P k p)) k kind kinds p (omega arith) e | inr b ↦ least_among P (min n (kind_bag P k p)) kind kinds p b ]

pub line_least : (P : Program) (kind : TokenKind) (kinds : List TokenKind) (p : Part) → IsAmong kind kinds → line_bag P kinds p ≤ kind_bag P kind p
line_least P kind [] p a = absurd a
line_least P kind (k ∷ kinds) p a = elim a [ inl e ↦ least_first P (kind_bag P k p) k kind kinds p (omega arith) e | inr b ↦ least_among P (kind_bag P k p) kind kinds p b ]
