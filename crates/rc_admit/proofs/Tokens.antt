-- At most as many requests are queued as there are tokens that a thread doesn't hold, and as there are credits that it
-- doesn't hold: each has a token and a credit of its own.
use Rattle.std.proofs.Common.{◌≡◌, ℕ, suc, ◌+◌, ◌<◌, ◌≤◌, Bool, true, false, ◌||◌, cond, List, [], ◌∷◌, length, get_or, Option, Some, None, refl, sym, ap, ◌∙◌, subst, inl, inr, arith}
use Rattle.std.proofs.lemmas.Bool.{eq-eqb, eqb-true, false_from_ne_true}
use Rattle.std.proofs.lemmas.List.Quantifiers.{position-Some}
use Rattle.std.proofs.lemmas.List.Sums.{sum_by-cons}
use Rattle.std.proofs.lemmas.Option.{slice_get-get_or}
use Rattle.std.specs.List.{list_any}
use Rattle.std.specs.Prelude.{nat_eq, slice_get}
use Rattle.rc_lang.specs.declared.program.Token.{Token}
use Rattle.rc_lang.specs.declared.program.TokenKind.{TokenKind}
use Rattle.rc_lang.specs.declared.request.Request.{Request}
use Rattle.rc_lang.specs.Program.{Items, Program, token_place}
use Rattle.rc_rules.specs.declared.mode.Mode.{Mode}
use Rattle.rc_rules.specs.Labellings.{headers_bag}
use Rattle.rc_rules.specs.Kinds.{kinds_at, kinds_of, token_at}
use Rattle.rc_rules.specs.Room.{can_queue}
use Rattle.rc_split.specs.Bags.{Part, TokenOf, Credit, begun, credits_given, lacking, token_bag}
use Rattle.rc_split.proofs.PoolBags.{same_or_not}
use Rattle.rc_world.specs.Faults.{count_of}
use Rattle.rc_world.specs.Machine.{World}
use Rattle.rc_world.proofs.Lists.{any_at}
use Rattle.rc_admit.proofs.Lists.{Each, sum_over}
use Rattle.rc_admit.proofs.RequestKinds.{HasKind, IsAmong, owns}
use Rattle.rc_admit.proofs.Owned.{Owned, Stand, bound_given, bound_one, unheld}
use Rattle.rc_admit.proofs.Rule.{can_queue_by}

abbrev one_if : Bool → ℕ
one_if b = cond b 1 0

-- A request owns its token.
pub token_owned : (P : Program) (r : Request) (u : ℕ) → r.user_data ≡ u → 1 ≤ owns P (TokenOf u) r
token_owned P r u e = let y : token_bag r.user_data (TokenOf u) ≡ 1 = ap (λ t. cond t 1 0) (eq-eqb r.user_data u e) in omega arith

pub count_most : (P : Program) (u : ℕ) (rs : List Request) → count_of u rs ≤ sum_over (owns P (TokenOf u)) rs
count_most P u [] = omega arith
count_most P u (r ∷ rs) = let h : count_of u rs ≤ sum_over (owns P (TokenOf u)) rs = count_most P u rs in omega arith

-- ---- declared tokens

abbrev is_token : ℕ → Token → Bool
is_token u t = nat_eq t.user_data u

token_there : (x : Option Token) (kind : TokenKind) → IsAmong kind (kinds_at x) → (t : Token) × (x ≡ Some t)
token_there None kind h = absurd h
token_there (Some t) kind h = (t, refl)

declared : (P : Program) (u : ℕ) (kind : TokenKind) → IsAmong kind (kinds_of P u) → list_any (is_token u) P.tokens ≡ true
declared P u kind e = go (token_place P.tokens u) refl e
  where
    go : (x : Option ℕ) → token_place P.tokens u ≡ x → IsAmong kind (kinds_at (token_at P.tokens x)) → list_any (is_token u) P.tokens ≡ true
    go None f h = absurd h
    go (Some j) f h =
        let t = token_there (slice_get P.tokens j) kind h in
        let at = position-Some (is_token u) P.tokens j t.0 f in
        any_at (is_token u) P.tokens j (get_or P.tokens j t.0) (slice_get-get_or P.tokens j t.0 at.0) at.1

none_undeclared : (P : Program) (u : ℕ) (rs : List Request) → Each (HasKind P) rs → list_any (is_token u) P.tokens ≡ false → count_of u rs ≡ 0
none_undeclared P u [] a e = refl
none_undeclared P u (r ∷ rs) a e =
    let one : one_if (nat_eq r.user_data u) ≡ 0 = ap one_if (false_from_ne_true (nat_eq r.user_data u) other) in
    let rest : count_of u rs ≡ 0 = none_undeclared P u rs a.1 e in
    omega (arith, one, rest)
  where
    other : nat_eq r.user_data u ≡ true → ⊥
    other t = let d : list_any (is_token u) P.tokens ≡ true = subst (λ v. list_any (is_token v) P.tokens ≡ true) (eqb-true r.user_data u t) (declared P r.user_data a.0.kind a.0.among) in cc

-- ---- tokens that a bag hasn't

-- 1 for a token among these that isn't in the bag
abbrev allowed : List Token → (Part → ℕ) → ℕ → ℕ
allowed [] b u = 0
allowed (t ∷ ts) b u = cond (nat_eq t.user_data u) (one_if (nat_eq (b (TokenOf t.user_data)) 0)) (allowed ts b u)

allowed_here : (t : Token) (ts : List Token) (b : Part → ℕ) (u : ℕ) → nat_eq t.user_data u ≡ true → allowed (t ∷ ts) b u ≡ one_if (nat_eq (b (TokenOf t.user_data)) 0)
allowed_here t ts b u e = ap (λ x. cond x (one_if (nat_eq (b (TokenOf t.user_data)) 0)) (allowed ts b u)) e

allowed_later : (t : Token) (ts : List Token) (b : Part → ℕ) (u : ℕ) → nat_eq t.user_data u ≡ false → allowed (t ∷ ts) b u ≡ allowed ts b u
allowed_later t ts b u e = ap (λ x. cond x (one_if (nat_eq (b (TokenOf t.user_data)) 0)) (allowed ts b u)) e

one_allowed : (ts : List Token) (b : Part → ℕ) (u n : ℕ) → b (TokenOf u) + n ≤ 1 → list_any (is_token u) ts ≡ true → n ≤ allowed ts b u
one_allowed [] b u n h d = absurd (cc)
one_allowed (t ∷ ts) b u n h d = elim (same_or_not t.user_data u) [
  | inl e ↦
      let x : allowed (t ∷ ts) b u ≡ one_if (nat_eq (b (TokenOf t.user_data)) 0) = allowed_here t ts b u e.1 in
      let same : b (TokenOf t.user_data) ≡ b (TokenOf u) = ap (λ k. b (TokenOf k)) e.0 in
      elim (same_or_not (b (TokenOf t.user_data)) 0) [
        | inl z ↦ let y : one_if (nat_eq (b (TokenOf t.user_data)) 0) ≡ 1 = ap one_if z.1 in omega (arith, h, x, y)
        | inr z ↦ let k : b (TokenOf t.user_data) ≡ 0 → ⊥ = z.0 in omega (arith, h, same, k)
      ]
  | inr e ↦
      let x : allowed (t ∷ ts) b u ≡ allowed ts b u = allowed_later t ts b u e.1 in
      let y : n ≤ allowed ts b u = one_allowed ts b u n h (ap (λ k. k || list_any (is_token u) ts) (sym e.1) ∙ d) in
      omega (arith, x, y)
]

lacking_more : (t : Token) (ts : List Token) (b : Part → ℕ) → lacking (t ∷ ts) b ≡ one_if (nat_eq (b (TokenOf t.user_data)) 0) + lacking ts b
lacking_more t ts b = sum_by-cons (λ (x : Token). one_if (nat_eq (b (TokenOf x.user_data)) 0)) t ts

-- ---- requests with other user data

-- those of these requests that don't have it
abbrev others : ℕ → List Request → List Request
others u [] = []
others u (r ∷ rs) = cond (nat_eq r.user_data u) (others u rs) (r ∷ others u rs)

others_len : (u : ℕ) (rs : List Request) → length rs ≡ count_of u rs + length (others u rs)
others_len u [] = refl
others_len u (r ∷ rs) = go (nat_eq r.user_data u) (others_len u rs)
  where
    go : (b : Bool) → length rs ≡ count_of u rs + length (others u rs) → suc (length rs) ≡ one_if b + count_of u rs + length (cond b (others u rs) (r ∷ others u rs))
    go true h = omega arith
    go false h = omega arith

others_none : (u : ℕ) (rs : List Request) → count_of u (others u rs) ≡ 0
others_none u [] = refl
others_none u (r ∷ rs) = go (nat_eq r.user_data u) refl (others_none u rs)
  where
    go : (b : Bool) → nat_eq r.user_data u ≡ b → count_of u (others u rs) ≡ 0 → count_of u (cond b (others u rs) (r ∷ others u rs)) ≡ 0
    go true e h = h
    go false e h = let y : one_if (nat_eq r.user_data u) ≡ 0 = ap one_if e in omega arith

others_same : (u v : ℕ) (rs : List Request) → (u ≡ v → ⊥) → count_of v (others u rs) ≡ count_of v rs
others_same u v [] ne = refl
others_same u v (r ∷ rs) ne =
    let h : count_of v (others u rs) ≡ count_of v rs = others_same u v rs ne in
    elim (same_or_not r.user_data u) [
      | inl e ↦
          let n : nat_eq r.user_data v ≡ false = elim (same_or_not r.user_data v) [ inl f ↦ absurd (ne (sym e.0 ∙ f.0)) | inr f ↦ f.1 ] in
          let y : one_if (nat_eq r.user_data v) ≡ 0 = ap one_if n in
          let x : count_of v (others u (r ∷ rs)) ≡ count_of v (others u rs) = ap (λ b. count_of v (cond b (others u rs) (r ∷ others u rs))) e.1 in
          omega arith
      | inr e ↦
          let x : count_of v (others u (r ∷ rs)) ≡ one_if (nat_eq r.user_data v) + count_of v (others u rs) = ap (λ b. count_of v (cond b (others u rs) (r ∷ others u rs))) e.1 in
          omega arith
    ]

-- No user data is had by more of them than is allowed, so there are no more of them than tokens that the bag hasn't.
len_allowed : (ts : List Token) (b : Part → ℕ) (rs : List Request) → ((u : ℕ) → count_of u rs ≤ allowed ts b u) → length rs ≤ lacking ts b
len_allowed [] b [] h = omega arith
len_allowed [] b (r ∷ rs) h =
    let few : one_if (nat_eq r.user_data r.user_data) + count_of r.user_data rs ≤ 0 = h r.user_data in
    let one : one_if (nat_eq r.user_data r.user_data) ≡ 1 = ap one_if (eq-eqb r.user_data r.user_data refl) in
    absurd (omega arith)
len_allowed (t ∷ ts) b rs h =
    let u : ℕ = t.user_data in
    let all : length rs ≡ count_of u rs + length (others u rs) = others_len u rs in
    let here : count_of u rs ≤ allowed (t ∷ ts) b u = h u in
    let is : allowed (t ∷ ts) b u ≡ one_if (nat_eq (b (TokenOf u)) 0) = allowed_here t ts b u (eq-eqb u u refl) in
    let rest : length (others u rs) ≤ lacking ts b = len_allowed ts b (others u rs) (λ v. elim (same_or_not u v) [
      | inl e ↦ let z : count_of v (others u rs) ≡ 0 = subst (λ k. count_of k (others u rs) ≡ 0) e.0 (others_none u rs) in omega (arith, z)
      | inr e ↦
          let same : count_of v (others u rs) ≡ count_of v rs = others_same u v rs e.0 in
          let le : count_of v rs ≤ allowed (t ∷ ts) b v = h v in
          let x : allowed (t ∷ ts) b v ≡ allowed ts b v = allowed_later t ts b v e.1 in
          omega (arith, same, le, x)
    ]) in
    omega (arith, all, here, is, rest, lacking_more t ts b)

pub credits_owned : (P : Program) (rs : List Request) → length rs ≤ sum_over (owns P Credit) rs
credits_owned P [] = omega arith
credits_owned P (r ∷ rs) = let h : length rs ≤ sum_over (owns P Credit) rs = credits_owned P rs in omega arith

-- Each queued request owns a credit, and threads hold and requests own no more than the threads began with.
credits_of_headers : (lists : List Items) → headers_bag lists Credit ≡ credits_given lists
credits_of_headers [] = refl
credits_of_headers (i ∷ is) = ap (λ n. i.credits + n) (credits_of_headers is) ∙ sym (sum_by-cons (λ (x : Items). x.credits) i is)

few_by_credits : (P : Program) (S : Stand) (w : World) (bags : ℕ → Part → ℕ) (modes : ℕ → Mode) (i : ℕ) → Owned P S w bags modes → i < length w.controls.threads → length w.queued + bags i Credit ≤ credits_given (begun P.stock P.threads)
few_by_credits P S w bags modes i o lt =
    let given : bags i Credit + unheld P w Credit ≤ headers_bag (begun P.stock P.threads) Credit = bound_given P S w bags modes o Credit i lt in
    let queued : length w.queued ≤ sum_over (owns P Credit) w.queued = credits_owned P w.queued in
    omega (arith, given, queued, credits_of_headers (begun P.stock P.threads))

-- The tokens of queued requests are declared, no two are the same, and no thread holds one of them.
pub few_queued : (P : Program) (S : Stand) (w : World) (bags : ℕ → Part → ℕ) (modes : ℕ → Mode) (i : ℕ) → Owned P S w bags modes → i < length w.controls.threads → length w.queued ≤ lacking P.tokens (bags i)
few_queued P S w bags modes i o lt = len_allowed P.tokens (bags i) w.queued (λ u. go u (list_any (is_token u) P.tokens) refl)
  where
    one : (u : ℕ) → bags i (TokenOf u) + count_of u w.queued ≤ 1
    one u =
        let p : Part = TokenOf u in
        let y : bags i p + unheld P w p ≤ 1 = bound_one P S w bags modes o p i lt in
        let z : count_of u w.queued ≤ sum_over (owns P p) w.queued = count_most P u w.queued in
        omega arith

    go : (u : ℕ) (b : Bool) → list_any (is_token u) P.tokens ≡ b → count_of u w.queued ≤ allowed P.tokens (bags i) u
    go u true e = one_allowed P.tokens (bags i) u (count_of u w.queued) (one u) e
    go u false e = omega (arith, none_undeclared P u w.queued o.queued e)

-- Where so many entries are queued at most, and a label says that there is room behind them, one is free: as it says, or
-- as the tokens or the credits do that the thread doesn't hold.
pub entry_free : (P : Program) (S : Stand) (w : World) (bags : ℕ → Part → ℕ) (modes : ℕ → Mode) (i : ℕ) → Owned P S w bags modes → i < length w.controls.threads → (n : ℕ) → length w.queued ≤ n → can_queue P (bags i) n ≡ true → length w.queued < P.entries
entry_free P S w bags modes i o lt n few e = elim (can_queue_by P (bags i) n e) [
  | inl x ↦ omega (arith, x, few)
  | inr y ↦ elim y [
    | inl x ↦ let h : length w.queued ≤ lacking P.tokens (bags i) = few_queued P S w bags modes i o lt in omega (arith, x, h)
    | inr x ↦ let h : length w.queued + bags i Credit ≤ credits_given (begun P.stock P.threads) = few_by_credits P S w bags modes i o lt in omega (arith, x, h)
  ]
]
