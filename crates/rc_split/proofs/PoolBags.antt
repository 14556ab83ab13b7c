-- What puts and takes do to what is in the pool, part by part.
use Rattle.std.proofs.Common.{◌≡◌, ℕ, zero, suc, ◌+◌, ◌-◌, ◌≤◌, Bool, true, false, cond, List, [], ◌∷◌, Option, Some, None, refl, ap, ◌∙◌, subst, ◌⊎◌, inl, inr, nat_eq, slice_index, arith}
use Rattle.std.specs.Prelude.{slice_set, slice_index_or}
use Rattle.std.proofs.lemmas.Bool.{eqb-true, eqb-false}
use Rattle.std.proofs.lemmas.List.Sums.{sum_by-cons}
use Rattle.rc_lang.specs.declared.program.Share.{Share}
use Rattle.rc_lang.specs.Program.{Program, Items, token_place}
use Rattle.rc_split.specs.Bags.{Part, ShareOf, TokenOf, Credit, bag_of, shares_alone, tokens_alone}
use Rattle.rc_split.specs.Pools.{Pool, mark_at, pooled, more_shares, fewer_shares, with_mark, with_marks, with_items, without_items}
use Rattle.rc_split.proofs.Tokens.{one_place}

pub same_or_not : (i j : ℕ) → ((i ≡ j) × (nat_eq i j ≡ true)) ⊎ ((i ≡ j → ⊥) × (nat_eq i j ≡ false))
same_or_not i j = go (nat_eq i j) refl
  where
    go : (b : Bool) → nat_eq i j ≡ b → ((i ≡ j) × (nat_eq i j ≡ true)) ⊎ ((i ≡ j → ⊥) × (nat_eq i j ≡ false))
    go true e = inl (eqb-true i j e, e)
    go false e = inr (eqb-false i j e, e)

-- how many of the shares of b are among these
abbrev pub shares_in : List Share → ℕ → ℕ
shares_in shares b = bag_of (shares_alone shares) (ShareOf b)

abbrev pub tokens_in : List ℕ → ℕ → ℕ
tokens_in tokens u = bag_of (tokens_alone tokens) (TokenOf u)

-- a row that is set, or is left as it is
set_cases : (rows : List ℕ) (i v b : ℕ) → ((slice_index (slice_set rows i v) b ≡ slice_index rows b) × (i ≡ b → slice_index rows b ≡ 0)) ⊎ ((i ≡ b) × (slice_index (slice_set rows i v) b ≡ v))
set_cases [] i v b = inl (refl, λ e. refl)
set_cases (x ∷ xs) zero v zero = inr (refl, refl)
set_cases (x ∷ xs) zero v (suc b) = inl (refl, λ e. absurd (cc))
set_cases (x ∷ xs) (suc i) v zero = inl (refl, λ e. absurd (cc))
set_cases (x ∷ xs) (suc i) v (suc b) = elim (set_cases xs i v b) [
  | inl h ↦ inl (h.0, λ e. h.1 (cc))
  | inr h ↦ inr (ap suc h.0, h.1)
]

pub one_share : (s : Share) (ss : List Share) (b : ℕ) → ((s.buffer ≡ b) × (shares_in (s ∷ ss) b ≡ s.count + shares_in ss b)) ⊎ ((s.buffer ≡ b → ⊥) × (shares_in (s ∷ ss) b ≡ shares_in ss b))
one_share s ss b =
    let c : shares_in (s ∷ ss) b ≡ cond {A = ℕ} (nat_eq s.buffer b) s.count 0 + shares_in ss b = sum_by-cons (λ (s : Share). cond (nat_eq s.buffer b) s.count 0) s ss in
    elim (same_or_not s.buffer b) [
      | inl e ↦ inl (e.0, let a : cond {A = ℕ} (nat_eq s.buffer b) s.count 0 ≡ s.count = ap (λ t. cond t s.count 0) e.1 in omega (arith, a, c))
      | inr e ↦ inr (e.0, let a : cond {A = ℕ} (nat_eq s.buffer b) s.count 0 ≡ 0 = ap (λ t. cond t s.count 0) e.1 in omega (arith, a, c))
    ]

-- the row after one share more, and what is still to come of the others
pub one_more : (rows : List ℕ) (s : Share) (ss : List Share) (b : ℕ) → slice_index (slice_set rows s.buffer (slice_index rows s.buffer + s.count)) b + shares_in ss b ≤ slice_index rows b + shares_in (s ∷ ss) b
one_more rows s ss b =
    let v : ℕ = slice_index rows s.buffer + s.count in
    elim (one_share s ss b) [
      | inl o ↦ elim (set_cases rows s.buffer v b) [
        | inl c ↦ omega (arith, o.1, c.0)
        | inr c ↦ let w : slice_index rows s.buffer ≡ slice_index rows b = ap (slice_index rows) c.0 in omega (arith, o.1, c.1, w)
      ]
      | inr o ↦ elim (set_cases rows s.buffer v b) [
        | inl c ↦ omega (arith, o.1, c.0)
        | inr c ↦ absurd (o.0 c.0)
      ]
    ]

shares_put : (rows : List ℕ) (ss : List Share) (b : ℕ) → slice_index (more_shares rows ss) b ≤ slice_index rows b + shares_in ss b
shares_put rows [] b = omega arith
shares_put rows (s ∷ ss) b =
    let v : ℕ = slice_index rows s.buffer + s.count in
    let h : slice_index (more_shares (slice_set rows s.buffer v) ss) b ≤ slice_index (slice_set rows s.buffer v) b + shares_in ss b = shares_put (slice_set rows s.buffer v) ss b in
    let m = one_more rows s ss b in
    omega (arith, h, m)

shares_taken : (rows : List ℕ) (ss : List Share) (b : ℕ) → shares_in ss b ≤ slice_index rows b → slice_index (fewer_shares rows ss) b + shares_in ss b ≤ slice_index rows b
shares_taken rows [] b l = omega arith
shares_taken rows (s ∷ ss) b l =
    let v : ℕ = slice_index rows s.buffer - s.count in
    elim (one_share s ss b) [
      | inl o ↦ elim (set_cases rows s.buffer v b) [
        | inl c ↦
            let z : slice_index rows b ≡ 0 = c.1 o.0 in
            let h : slice_index (fewer_shares (slice_set rows s.buffer v) ss) b + shares_in ss b ≤ slice_index (slice_set rows s.buffer v) b = shares_taken (slice_set rows s.buffer v) ss b (omega (arith, l, o.1, c.0, z)) in
            omega (arith, h, l, o.1, c.0, z)
        | inr c ↦
            let w : slice_index rows s.buffer ≡ slice_index rows b = ap (slice_index rows) c.0 in
            let h : slice_index (fewer_shares (slice_set rows s.buffer v) ss) b + shares_in ss b ≤ slice_index (slice_set rows s.buffer v) b = shares_taken (slice_set rows s.buffer v) ss b (omega (arith, l, o.1, c.1, w)) in
            omega (arith, h, l, o.1, c.1, w)
      ]
      | inr o ↦ elim (set_cases rows s.buffer v b) [
        | inl c ↦
            let h : slice_index (fewer_shares (slice_set rows s.buffer v) ss) b + shares_in ss b ≤ slice_index (slice_set rows s.buffer v) b = shares_taken (slice_set rows s.buffer v) ss b (omega (arith, l, o.1, c.0)) in
            omega (arith, h, o.1, c.0)
        | inr c ↦ absurd (o.0 c.0)
      ]
    ]

-- the mark at a place that is set, or is left as it is
mark_cases : (marks : List Bool) (i : ℕ) (h : Bool) (k : ℕ) → ((slice_index_or (slice_set marks i h) k false ≡ slice_index_or marks k false) × (i ≡ k → slice_index_or marks k false ≡ false)) ⊎ ((i ≡ k) × (slice_index_or (slice_set marks i h) k false ≡ h))
mark_cases [] i h k = inl (refl, λ e. refl)
mark_cases (x ∷ xs) zero h zero = inr (refl, refl)
mark_cases (x ∷ xs) zero h (suc k) = inl (refl, λ e. absurd (cc))
mark_cases (x ∷ xs) (suc i) h zero = inl (refl, λ e. absurd (cc))
mark_cases (x ∷ xs) (suc i) h (suc k) = elim (mark_cases xs i h k) [
  | inl c ↦ inl (c.0, λ e. c.1 (cc))
  | inr c ↦ inr (ap suc c.0, c.1)
]

pub one_token : (t : ℕ) (ts : List ℕ) (u : ℕ) → ((t ≡ u) × (tokens_in (t ∷ ts) u ≡ 1 + tokens_in ts u)) ⊎ ((t ≡ u → ⊥) × (tokens_in (t ∷ ts) u ≡ tokens_in ts u))
one_token t ts u =
    let c : tokens_in (t ∷ ts) u ≡ cond {A = ℕ} (nat_eq t u) 1 0 + tokens_in ts u = sum_by-cons (λ t. cond (nat_eq t u) 1 0) t ts in
    elim (same_or_not t u) [
      | inl e ↦ inl (e.0, let a : cond {A = ℕ} (nat_eq t u) 1 0 ≡ 1 = ap (λ x. cond x 1 0) e.1 in omega (arith, a, c))
      | inr e ↦ inr (e.0, let a : cond {A = ℕ} (nat_eq t u) 1 0 ≡ 0 = ap (λ x. cond x 1 0) e.1 in omega (arith, a, c))
    ]

most : (b : Bool) → cond {A = ℕ} b 1 0 ≤ 1
most true = omega arith
most false = omega arith

mark_most : (marks : List Bool) (x : Option ℕ) → mark_at marks x ≤ 1
mark_most marks None = omega arith
mark_most marks (Some i) = most (slice_index_or marks i false)

-- a mark that is taken away is none
set_none : (marks : List Bool) (x : Option ℕ) → mark_at (with_mark false marks x) x ≡ 0
set_none marks None = refl
set_none marks (Some i) = elim (mark_cases marks i false i) [
  | inl c ↦ ap (λ b. cond b 1 0) (c.0 ∙ c.1 refl)
  | inr c ↦ ap (λ b. cond b 1 0) c.1
]

module _ (P : Program) where
  -- another token's mark stays
  stays : (marks : List Bool) (h : Bool) (t u : ℕ) → (t ≡ u → ⊥) → mark_at (with_mark h marks (token_place P.tokens t)) (token_place P.tokens u) ≡ mark_at marks (token_place P.tokens u)
  stays marks h t u ne = go (token_place P.tokens t) (token_place P.tokens u) refl refl
    where
      go : (x y : Option ℕ) → token_place P.tokens t ≡ x → token_place P.tokens u ≡ y → mark_at (with_mark h marks x) y ≡ mark_at marks y
      go None y e f = refl
      go (Some i) None e f = refl
      go (Some i) (Some k) e f = elim (mark_cases marks i h k) [
        | inl c ↦ ap (λ b. cond b 1 0) c.0
        | inr c ↦ absurd (ne (one_place P.tokens t u k (e ∙ ap Some c.0) f))
      ]

  tokens_put : (marks : List Bool) (ts : List ℕ) (u : ℕ) → mark_at (with_marks P true marks ts) (token_place P.tokens u) ≤ mark_at marks (token_place P.tokens u) + tokens_in ts u
  tokens_put marks [] u = omega arith
  tokens_put marks (t ∷ ts) u =
      let next : List Bool = with_mark true marks (token_place P.tokens t) in
      let h : mark_at (with_marks P true next ts) (token_place P.tokens u) ≤ mark_at next (token_place P.tokens u) + tokens_in ts u = tokens_put next ts u in
      elim (one_token t ts u) [
        | inl o ↦ let m : mark_at next (token_place P.tokens u) ≤ 1 = mark_most next (token_place P.tokens u) in omega (arith, h, o.1, m)
        | inr o ↦ let n : mark_at next (token_place P.tokens u) ≡ mark_at marks (token_place P.tokens u) = stays marks true t u o.0 in omega (arith, h, o.1, n)
      ]

  tokens_taken : (marks : List Bool) (ts : List ℕ) (u : ℕ) → tokens_in ts u ≤ mark_at marks (token_place P.tokens u) → mark_at (with_marks P false marks ts) (token_place P.tokens u) + tokens_in ts u ≤ mark_at marks (token_place P.tokens u)
  tokens_taken marks [] u l = omega arith
  tokens_taken marks (t ∷ ts) u l =
      let next : List Bool = with_mark false marks (token_place P.tokens t) in
      let m : mark_at marks (token_place P.tokens u) ≤ 1 = mark_most marks (token_place P.tokens u) in
      elim (one_token t ts u) [
        | inl o ↦
            let z : mark_at next (token_place P.tokens u) ≡ 0 = subst (λ k. mark_at next (token_place P.tokens k) ≡ 0) o.0 (set_none marks (token_place P.tokens t)) in
            let h : mark_at (with_marks P false next ts) (token_place P.tokens u) + tokens_in ts u ≤ mark_at next (token_place P.tokens u) = tokens_taken next ts u (omega (arith, l, m, o.1, z)) in
            omega (arith, h, l, o.1, z)
        | inr o ↦
            let z : mark_at next (token_place P.tokens u) ≡ mark_at marks (token_place P.tokens u) = stays marks false t u o.0 in
            let h : mark_at (with_marks P false next ts) (token_place P.tokens u) + tokens_in ts u ≤ mark_at next (token_place P.tokens u) = tokens_taken next ts u (omega (arith, l, o.1, z)) in
            omega (arith, h, o.1, z)
      ]

  -- After a put no more of a part is there than before and what was put.
  pub pooled_with : (pool : Pool) (items : Items) (p : Part) → pooled P (with_items P pool items) p ≤ pooled P pool p + bag_of items p
  pooled_with pool items (ShareOf b) = shares_put pool.shares items.shares b
  pooled_with pool items (TokenOf u) = tokens_put pool.marks items.tokens u
  pooled_with pool items Credit = omega arith

  -- After a take of what is there no more is there than what it leaves.
  pub pooled_without : (pool : Pool) (items : Items) → ((p : Part) → bag_of items p ≤ pooled P pool p) → (p : Part) → pooled P (without_items P pool items) p + bag_of items p ≤ pooled P pool p
  pooled_without pool items l (ShareOf b) = shares_taken pool.shares items.shares b (l (ShareOf b))
  pooled_without pool items l (TokenOf u) = tokens_taken pool.marks items.tokens u (l (TokenOf u))
  pooled_without pool items l Credit = let x : items.credits ≤ pool.credits = l Credit in omega arith
