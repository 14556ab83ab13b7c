-- What requests own, by their kinds: of a buffer that they name a share, and of one that they fill all.
use Rattle.std.proofs.Common.{◌≡◌, ℕ, ◌+◌, ◌<◌, ◌≤◌, true, false, cond, ◌||◌, ◌&&◌, List, [], ◌∷◌, length, Some, refl, sym, ap, ◌∙◌, inl, inr, arith}
use Rattle.std.proofs.lemmas.Bool.{and_from, and_parts, eq-eqb, eqb-true, false_from_ne_true, or_cases, or_from}
use Rattle.std.specs.List.{list_any}
use Rattle.std.specs.Prelude.{nat_eq, slice_get}
use Rattle.rc_lang.specs.declared.program.TokenKind.{TokenKind}
use Rattle.rc_lang.specs.declared.program.TokenKind.TheVariants.{Read, Write, Fsync, Nop, Other}
use Rattle.rc_lang.specs.declared.request.Request.{Request}
use Rattle.rc_lang.specs.Program.{Program, no_buffer, shares_at}
use Rattle.rc_lang.specs.Kept.{IsProgram, IsTokenKind}
use Rattle.rc_rules.specs.Kinds.{kind_bag}
use Rattle.rc_split.specs.Bags.{ShareOf, TokenOf, shares_bag}
use Rattle.rc_world.specs.Faults.{clash, clashes, clashes_with, has_buffer, has_data, names}
use Rattle.rc_world.specs.Machine.{Pending, is_read}
use Rattle.rc_world.proofs.Lists.{found}
use Rattle.rc_split.proofs.PoolBags.{same_or_not}
use Rattle.rc_admit.proofs.Lists.{sum_over, sum_over_one, Each, Each-get}
use Rattle.rc_admit.proofs.RequestKinds.{FitsKind, HasKind, kind_for, kind_made, owns, taken_by}
use Rattle.rc_admit.proofs.Owned.{HasKindPending, owns_pending}
use Rattle.rc_admit.proofs.Tokens.{token_owned}

same_shares : (c d k : ℕ) → c ≡ d → shares_bag c k (ShareOf d) ≡ k
same_shares c d k e = elim (same_or_not c d) [ inl h ↦ ap (λ t. cond t k 0) h.1 | inr h ↦ absurd (h.0 e) ]

pub buffer_shared : (P : Program) → IsProgram P → (b : ℕ) → b < length P.buffers → 1 ≤ shares_at P.buffers b
buffer_shared P made b lt = (made.buffers b no_buffer lt).shares.0

-- what a request owns of a buffer, by its kind
owned_is : (P : Program) (r : Request) (kind : TokenKind) (b : ℕ) → kind_for P r ≡ Some kind → owns P (ShareOf b) r ≡ kind_bag P kind (ShareOf b)
owned_is P r kind b e = let h : taken_by P (kind_for P r) (ShareOf b) ≡ kind_bag P kind (ShareOf b) = ap (λ x. taken_by P x (ShareOf b)) e in omega arith

pub names_one : (P : Program) → IsProgram P → (r : Request) (b : ℕ) → HasKind P r → names b r ≡ true → 1 ≤ owns P (ShareOf b) r
names_one P made r b h n = go h.kind (kind_made P made r.user_data h.kind h.among) h.fits (owned_is P r h.kind b h.is)
  where
    parts : (has_buffer r.kind ≡ true) × (r.buffer ≡ b)
    parts = let a = and_parts (has_buffer r.kind) (nat_eq r.buffer b) n in (a.0, eqb-true r.buffer b a.1)

    go : (kind : TokenKind) → IsTokenKind P kind → FitsKind r kind → owns P (ShareOf b) r ≡ kind_bag P kind (ShareOf b) → 1 ≤ owns P (ShareOf b) r
    go (Read c) k f e =
        let y : shares_bag c (shares_at P.buffers c) (ShareOf b) ≡ shares_at P.buffers c = same_shares c b (shares_at P.buffers c) (sym f.1 ∙ parts.1) in
        let z : 1 ≤ shares_at P.buffers c = buffer_shared P made c k in
        omega arith
    go (Write c n) k f e =
        let y : shares_bag c n (ShareOf b) ≡ n = same_shares c b n (sym f.1 ∙ parts.1) in
        let z : 1 ≤ n = k.1.some in
        omega arith
    go Fsync k f e = let x : has_buffer r.kind ≡ false = ap has_buffer f in let y : has_buffer r.kind ≡ true = parts.0 in absurd (cc)
    go Nop k f e = let x : has_buffer r.kind ≡ false = ap has_buffer f in let y : has_buffer r.kind ≡ true = parts.0 in absurd (cc)
    go Other k f e = let x : has_buffer r.kind ≡ false = ap has_buffer f in let y : has_buffer r.kind ≡ true = parts.0 in absurd (cc)

pub fills_all : (P : Program) (r : Request) (b : ℕ) → HasKind P r → is_read r.kind ≡ true → r.buffer ≡ b → shares_at P.buffers b ≤ owns P (ShareOf b) r
fills_all P r b h reads is = go h.kind h.fits (owned_is P r h.kind b h.is)
  where
    go : (kind : TokenKind) → FitsKind r kind → owns P (ShareOf b) r ≡ kind_bag P kind (ShareOf b) → shares_at P.buffers b ≤ owns P (ShareOf b) r
    go (Read c) f e =
        let q : c ≡ b = sym f.1 ∙ is in
        let y : shares_bag c (shares_at P.buffers c) (ShareOf b) ≡ shares_at P.buffers c = same_shares c b (shares_at P.buffers c) q in
        let z : shares_at P.buffers c ≡ shares_at P.buffers b = ap (λ n. shares_at P.buffers n) q in
        omega arith
    go (Write c n) f e = let x : is_read r.kind ≡ false = ap is_read f.0 in absurd (cc)
    go Fsync f e = let x : is_read r.kind ≡ false = ap is_read f in absurd (cc)
    go Nop f e = let x : is_read r.kind ≡ false = ap is_read f in absurd (cc)
    go Other f e = let x : is_read r.kind ≡ false = ap is_read f in absurd (cc)

-- Pending requests that own together no more than there is don't clash.
pub no_clash : (P : Program) → IsProgram P → (ps : List Pending) → Each (HasKindPending P) ps → ((b : ℕ) → sum_over (owns_pending P (ShareOf b)) ps ≤ shares_at P.buffers b) → clashes ps ≡ false
no_clash P made [] a t = refl
no_clash P made (p ∷ ps) a t = or_from (clashes_with p.request ps) (clashes ps) (false_from_ne_true (clashes_with p.request ps) one) (no_clash P made ps a.1 (λ b. let s : owns P (ShareOf b) p.request + sum_over (owns_pending P (ShareOf b)) ps ≤ shares_at P.buffers b = t b in omega arith))
  where
    two : (q : Pending) (k : ℕ) → slice_get ps k ≡ Some q → clash p.request q.request ≡ true → ⊥
    two q k e c =
        let b : ℕ = p.request.buffer in
        let x = and_parts (has_buffer p.request.kind && names b q.request) (is_read p.request.kind || is_read q.request.kind) c in
        let y = and_parts (has_buffer p.request.kind) (names b q.request) x.0 in
        let hq : HasKind P q.request = Each-get (HasKindPending P) k ps q e a.1 in
        let mine : names b p.request ≡ true = and_from (has_buffer p.request.kind) (nat_eq b b) y.0 (eq-eqb b b refl) in
        let first : 1 ≤ owns P (ShareOf b) p.request = names_one P made p.request b a.0 mine in
        let second : 1 ≤ owns P (ShareOf b) q.request = names_one P made q.request b hq y.1 in
        let is : q.request.buffer ≡ b = eqb-true q.request.buffer b (and_parts (has_buffer q.request.kind) (nat_eq q.request.buffer b) y.1).1 in
        let le : owns P (ShareOf b) q.request ≤ sum_over (owns_pending P (ShareOf b)) ps = sum_over_one (owns_pending P (ShareOf b)) k ps q e in
        let s : owns P (ShareOf b) p.request + sum_over (owns_pending P (ShareOf b)) ps ≤ shares_at P.buffers b = t b in
        elim (or_cases (is_read p.request.kind) (is_read q.request.kind) x.1) [
          | inl r ↦ let f : shares_at P.buffers b ≤ owns P (ShareOf b) p.request = fills_all P p.request b a.0 r refl in omega arith
          | inr r ↦ let f : shares_at P.buffers b ≤ owns P (ShareOf b) q.request = fills_all P q.request b hq r is in omega arith
        ]

    one : clashes_with p.request ps ≡ true → ⊥
    one e = let x = found (λ (q : Pending). clash p.request q.request) ps e in two x.1 x.0 x.2 x.3

-- ---- tokens and credits

-- A request with this user data owns its token.
pub data_owned : (P : Program) (u : ℕ) (rs : List Request) → list_any (has_data u) rs ≡ true → 1 ≤ sum_over (owns P (TokenOf u)) rs
data_owned P u rs e =
    let x = found (has_data u) rs e in
    let y : 1 ≤ owns P (TokenOf u) x.1 = token_owned P x.1 u (eqb-true x.1.user_data u x.3) in
    let z : owns P (TokenOf u) x.1 ≤ sum_over (owns P (TokenOf u)) rs = sum_over_one (owns P (TokenOf u)) x.0 rs x.1 x.2 in
    omega arith

pub data_pending : (P : Program) (u : ℕ) (ps : List Pending) → list_any (λ (p : Pending). has_data u p.request) ps ≡ true → 1 ≤ sum_over (owns_pending P (TokenOf u)) ps
data_pending P u ps e =
    let x = found (λ (p : Pending). has_data u p.request) ps e in
    let y : 1 ≤ owns P (TokenOf u) x.1.request = token_owned P x.1.request u (eqb-true x.1.request.user_data u x.3) in
    let z : owns P (TokenOf u) x.1.request ≤ sum_over (owns_pending P (TokenOf u)) ps = sum_over_one (owns_pending P (TokenOf u)) x.0 ps x.1 x.2 in
    omega arith
