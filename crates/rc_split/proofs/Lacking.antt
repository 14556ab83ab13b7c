-- How many tokens a bag lacks: with more in it no more of them, and at most 256 of those of a program.
use Rattle.std.proofs.Common.{◌≡◌, ℕ, zero, suc, ◌+◌, ◌≤◌, Bool, true, false, cond, not, List, [], ◌∷◌, length, nat_eq, nat_le, refl, sym, ap, ◌∙◌, arith}
use Rattle.std.proofs.lemmas.Bool.{eqb-false, eqb-true, le-leb, ne_eqb}
use Rattle.std.proofs.lemmas.List.Sums.{count_by-le-length, sum_by-cons}
use Rattle.rc_lang.specs.declared.program.Token.{Token}
use Rattle.rc_lang.specs.Program.{Program}
use Rattle.rc_lang.specs.Views.{IsView}
use Rattle.rc_split.specs.Bags.{Part, TokenOf, IsSameBag, IsWithin, lacking}

-- ---- one token

pub is_none_there : (n : ℕ) → not (nat_le 1 n) ≡ nat_eq n 0
is_none_there zero = refl
is_none_there (suc n) =
    let some : nat_le 1 (suc n) ≡ true = le-leb 1 (suc n) (omega arith) in
    let other : nat_eq (suc n) 0 ≡ false = ne_eqb (suc n) 0 (λ e. absurd (omega (arith, e))) in
    ap not some ∙ sym other

no_more : (m n : ℕ) → m ≤ n → cond {A = ℕ} (nat_eq n 0) 1 0 ≤ cond {A = ℕ} (nat_eq m 0) 1 0
no_more m n le = go (nat_eq n 0) (nat_eq m 0) refl refl
  where
    go : (x y : Bool) → nat_eq n 0 ≡ x → nat_eq m 0 ≡ y → cond {A = ℕ} x 1 0 ≤ cond {A = ℕ} y 1 0
    go false false e f = omega arith
    go false true e f = omega arith
    go true true e f = omega arith
    go true false e f = let z : n ≡ 0 = eqb-true n 0 e in absurd (eqb-false m 0 f (omega (arith, le, z)))

-- ---- all of them

abbrev lacks : (Part → ℕ) → Token → ℕ
lacks b t = cond (nat_eq (b (TokenOf t.user_data)) 0) 1 0

pub lacking_less : (tokens : List Token) (a b : Part → ℕ) → IsWithin a b → lacking tokens b ≤ lacking tokens a
lacking_less [] a b h = omega arith
lacking_less (t ∷ ts) a b h =
    let first : lacks b t ≤ lacks a t = no_more (a (TokenOf t.user_data)) (b (TokenOf t.user_data)) (h (TokenOf t.user_data)) in
    let rest : lacking ts b ≤ lacking ts a = lacking_less ts a b h in
    let less : lacking (t ∷ ts) b ≡ lacks b t + lacking ts b = sum_by-cons (lacks b) t ts in
    let more : lacking (t ∷ ts) a ≡ lacks a t + lacking ts a = sum_by-cons (lacks a) t ts in
    omega (arith, first, rest, less, more)

pub lacking_same : (tokens : List Token) (a b : Part → ℕ) → IsSameBag a b → lacking tokens a ≡ lacking tokens b
lacking_same tokens a b h =
    let less : lacking tokens b ≤ lacking tokens a = lacking_less tokens a b (λ p. omega (arith, h p)) in
    let more : lacking tokens a ≤ lacking tokens b = lacking_less tokens b a (λ p. omega (arith, h p)) in
    omega (arith, less, more)

pub lacking_few : (P : Program) (b : Part → ℕ) → IsView P → lacking P.tokens b ≤ 256
lacking_few P b made =
    let most : lacking P.tokens b ≤ length P.tokens = count_by-le-length (λ (t : Token). nat_eq (b (TokenOf t.user_data)) 0) P.tokens in
    let few : length P.tokens ≤ 256 = made.few_tokens in
    omega (arith, most, few)
