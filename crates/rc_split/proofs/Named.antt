-- What items of a program say of a part: nothing where they don't name it, and else what they say once.
use Rattle.std.proofs.Common.{◌≡◌, ℕ, zero, suc, ◌+◌, ◌<◌, ◌≤◌, Bool, true, false, not, List, [], ◌∷◌, length, map, get_or, refl, ap, ◌∙◌, sym, subst, ◌⊎◌, inl, inr, ◌&&◌, nat_eq, nat_le, ltb, arith}
use Rattle.std.specs.List.{AllByRecursion, IsDistinct, list_all, list_any}
use Rattle.std.proofs.lemmas.Bool.{eqb-false, leb-true, ltb-true, ltb-false, and_from, and_parts, not-false, or_parts}
use Rattle.std.proofs.lemmas.List.{get_or_past}
use Rattle.std.proofs.lemmas.Map.Keys.{IsDistinct-head, IsDistinct-tail}
use Rattle.rc_lang.specs.declared.program.Share.{Share}
use Rattle.rc_lang.specs.Views.{IsView}
use Rattle.rc_lang.specs.Program.{Buffer, Program, Items, no_buffer, shares_at}
use Rattle.rc_lang.specs.Kept.{IsItems}
use Rattle.rc_split.specs.Bags.{Part, ShareOf, TokenOf, Credit, bag_of}
use Rattle.rc_split.specs.Pools.{Pool, all_of, each_part, fits, includes, overfills, pooled}
use Rattle.rc_split.proofs.PoolBags.{one_share, one_token, shares_in, tokens_in}

-- ---- tests of all of a list, and of any

pub all_at : {A : Type 0} (p : A → Bool) (xs : List A) (i : ℕ) (d : A) → list_all p xs ≡ true → i < length xs → p (get_or xs i d) ≡ true
all_at p [] i d e lt = absurd (omega arith)
all_at p (x ∷ xs) zero d e lt = (and_parts (p x) (list_all p xs) e).0
all_at p (x ∷ xs) (suc i) d e lt = all_at p xs i d (and_parts (p x) (list_all p xs) e).1 (omega arith)

pub none_at : {A : Type 0} (p : A → Bool) (xs : List A) (i : ℕ) (d : A) → list_any p xs ≡ false → i < length xs → p (get_or xs i d) ≡ false
none_at p [] i d e lt = absurd (omega arith)
none_at p (x ∷ xs) zero d e lt = (or_parts (p x) (list_any p xs) e).0
none_at p (x ∷ xs) (suc i) d e lt = none_at p xs i d (or_parts (p x) (list_any p xs) e).1 (omega arith)

-- ---- each once

pub no_share : Share
no_share = record { buffer = 0; count = 0 }

pub none_else : (x u : ℕ) (xs : List ℕ) → x ≡ u → AllByRecursion (λ y. nat_eq x y ≡ false) xs → tokens_in xs u ≡ 0
none_else x u [] e h = refl
none_else x u (y ∷ ys) e h = elim (one_token y ys u) [
  | inl o ↦ absurd (eqb-false x y h.0 (e ∙ sym o.0))
  | inr o ↦ o.1 ∙ none_else x u ys e h.1
]

pub none_of : (x b : ℕ) (xs : List Share) → x ≡ b → AllByRecursion (λ y. nat_eq x y ≡ false) (map (λ (s : Share). s.buffer) xs) → shares_in xs b ≡ 0
none_of x b [] e h = refl
none_of x b (y ∷ ys) e h = elim (one_share y ys b) [
  | inl o ↦ absurd (eqb-false x y.buffer h.0 (e ∙ sym o.0))
  | inr o ↦ o.1 ∙ none_of x b ys e h.1
]

-- The share at this place is of the buffer, and the only one.
pub record IsShareAt (xs : List Share) (b : ℕ) : Type 0 where
  pub place : ℕ
  pub within : place < length xs
  pub buffer : (get_or xs place no_share).buffer ≡ b
  pub count : shares_in xs b ≡ (get_or xs place no_share).count

pub record IsTokenAt (xs : List ℕ) (u : ℕ) : Type 0 where
  pub place : ℕ
  pub within : place < length xs
  pub token : get_or xs place 0 ≡ u
  pub once : tokens_in xs u ≡ 1

pub share_named : (xs : List Share) (b : ℕ) → IsDistinct nat_eq (map (λ (s : Share). s.buffer) xs) → (shares_in xs b ≡ 0) ⊎ IsShareAt xs b
share_named [] b d = inl refl
share_named (x ∷ xs) b d = elim (one_share x xs b) [
  | inl o ↦
      let n : shares_in xs b ≡ 0 = none_of x.buffer b xs o.0 (IsDistinct-head nat_eq x.buffer (map (λ (s : Share). s.buffer) xs) d) in
      inr (record { place = 0; within = omega arith; buffer = o.0; count = omega (arith, o.1, n) })
  | inr o ↦ elim (share_named xs b (IsDistinct-tail nat_eq x.buffer (map (λ (s : Share). s.buffer) xs) d)) [
    | inl n ↦ inl (o.1 ∙ n)
    | inr h ↦ inr (record { place = suc h.place; within = omega (arith, h.within); buffer = h.buffer; count = o.1 ∙ h.count })
  ]
]

pub token_named : (xs : List ℕ) (u : ℕ) → IsDistinct nat_eq xs → (tokens_in xs u ≡ 0) ⊎ IsTokenAt xs u
token_named [] u d = inl refl
token_named (x ∷ xs) u d = elim (one_token x xs u) [
  | inl o ↦
      let n : tokens_in xs u ≡ 0 = none_else x u xs o.0 (IsDistinct-head nat_eq x xs d) in
      inr (record { place = 0; within = omega arith; token = o.0; once = omega (arith, o.1, n) })
  | inr o ↦ elim (token_named xs u (IsDistinct-tail nat_eq x xs d)) [
    | inl n ↦ inl (o.1 ∙ n)
    | inr h ↦ inr (record { place = suc h.place; within = omega (arith, h.within); token = h.token; once = o.1 ∙ h.once })
  ]
]

-- A share that is at a place says all of its buffer.
pub share_at : (xs : List Share) (i : ℕ) (d : Share) → IsDistinct nat_eq (map (λ (s : Share). s.buffer) xs) → i < length xs → shares_in xs (get_or xs i d).buffer ≡ (get_or xs i d).count
share_at [] i d e lt = absurd (omega arith)
share_at (x ∷ xs) zero d e lt = elim (one_share x xs x.buffer) [
  | inl o ↦ let n : shares_in xs x.buffer ≡ 0 = none_of x.buffer x.buffer xs refl (IsDistinct-head nat_eq x.buffer (map (λ (s : Share). s.buffer) xs) e) in omega (arith, o.1, n)
  | inr o ↦ absurd (o.0 refl)
]
share_at (x ∷ xs) (suc i) d e lt =
    let h : shares_in xs (get_or xs i d).buffer ≡ (get_or xs i d).count = share_at xs i d (IsDistinct-tail nat_eq x.buffer (map (λ (s : Share). s.buffer) xs) e) (omega arith) in
    elim (one_share x xs (get_or xs i d).buffer) [
      | inl o ↦
          let n : shares_in xs (get_or xs i d).buffer ≡ 0 = none_of x.buffer (get_or xs i d).buffer xs o.0 (IsDistinct-head nat_eq x.buffer (map (λ (s : Share). s.buffer) xs) e) in
          absurd (apart (get_or xs i d) xs i refl (IsDistinct-head nat_eq x.buffer (map (λ (s : Share). s.buffer) xs) e) o.0 (omega arith))
      | inr o ↦ o.1 ∙ h
    ]
  where
    apart : (s : Share) (ys : List Share) (k : ℕ) → get_or ys k d ≡ s → AllByRecursion (λ y. nat_eq x.buffer y ≡ false) (map (λ (s : Share). s.buffer) ys) → x.buffer ≡ s.buffer → k < length ys → ⊥
    apart s [] k q a f l = absurd (omega arith)
    apart s (y ∷ ys) zero q a f l = eqb-false x.buffer y.buffer a.0 (f ∙ sym (ap (λ (t : Share). t.buffer) q))
    apart s (y ∷ ys) (suc k) q a f l = apart s ys k q a.1 f (omega arith)

-- Items of a program name at most 2,048 of a part.
pub few_named : (P : Program) (items : Items) → IsItems P items → (p : Part) → bag_of items p ≤ 2048
few_named P items of (ShareOf b) = elim (share_named items.shares b of.distinct_buffers) [
  | inl n ↦ omega (arith, n)
  | inr s ↦ let l : (1 ≤ (get_or items.shares s.place no_share).count) × ((get_or items.shares s.place no_share).count ≤ 16) = of.counts s.place no_share s.within in omega (arith, s.count, l.1)
]
few_named P items of (TokenOf u) = elim (token_named items.tokens u of.distinct_tokens) [
  | inl n ↦ omega (arith, n)
  | inr s ↦ omega (arith, s.once)
]
few_named P items of Credit = of.credits

-- ---- the pool

pub few_shares : (P : Program) (b : ℕ) → IsView P → shares_at P.buffers b ≤ 16
few_shares P b h = go (ltb b (length P.buffers)) refl
  where
    go : (x : Bool) → ltb b (length P.buffers) ≡ x → shares_at P.buffers b ≤ 16
    go true e = (h.buffers b no_buffer (ltb-true _ _ e)).shares.1
    go false e = let f : get_or P.buffers b no_buffer ≡ no_buffer = get_or_past P.buffers b no_buffer (ltb-false _ _ e) in subst (λ (y : Buffer). y.shares ≤ 16) (sym f) (omega arith)

-- A test of each part that items name says it of a part, or they name none of it.
shares_tested : (test : Part → Bool) (ss : List Share) (b : ℕ) → list_all (λ (s : Share). test (ShareOf s.buffer)) ss ≡ true → (shares_in ss b ≡ 0) ⊎ (test (ShareOf b) ≡ true)
shares_tested test [] b e = inl refl
shares_tested test (s ∷ ss) b e =
    let h = and_parts (test (ShareOf s.buffer)) (list_all (λ (s : Share). test (ShareOf s.buffer)) ss) e in
    elim (one_share s ss b) [
      | inl o ↦ inr (subst (λ c. test (ShareOf c) ≡ true) o.0 h.0)
      | inr o ↦ elim (shares_tested test ss b h.1) [ inl n ↦ inl (o.1 ∙ n) | inr t ↦ inr t ]
    ]

tokens_tested : (test : Part → Bool) (ts : List ℕ) (u : ℕ) → list_all (λ u. test (TokenOf u)) ts ≡ true → (tokens_in ts u ≡ 0) ⊎ (test (TokenOf u) ≡ true)
tokens_tested test [] u e = inl refl
tokens_tested test (t ∷ ts) u e =
    let h = and_parts (test (TokenOf t)) (list_all (λ u. test (TokenOf u)) ts) e in
    elim (one_token t ts u) [
      | inl o ↦ inr (subst (λ v. test (TokenOf v) ≡ true) o.0 h.0)
      | inr o ↦ elim (tokens_tested test ts u h.1) [ inl n ↦ inl (o.1 ∙ n) | inr t ↦ inr t ]
    ]

pub each_tested : (test : Part → Bool) (items : Items) → each_part test items ≡ true → (p : Part) → (bag_of items p ≡ 0) ⊎ (test p ≡ true)
each_tested test items e p = let h = and_parts (shares && tokens) (test Credit) e in let f = and_parts shares tokens h.0 in go p f.0 f.1 h.1
  where
    shares : Bool
    shares = list_all (λ (s : Share). test (ShareOf s.buffer)) items.shares

    tokens : Bool
    tokens = list_all (λ u. test (TokenOf u)) items.tokens

    go : (p : Part) → shares ≡ true → tokens ≡ true → test Credit ≡ true → (bag_of items p ≡ 0) ⊎ (test p ≡ true)
    go (ShareOf b) h g f = shares_tested test items.shares b h
    go (TokenOf u) h g f = tokens_tested test items.tokens u g
    go Credit h g f = inr f

-- What each part passes, each that items name does.
pub all_tested : (test : Part → Bool) (items : Items) → ((p : Part) → test p ≡ true) → each_part test items ≡ true
all_tested test items h = and_from _ _ (and_from _ _ (shares items.shares) (tokens items.tokens)) (h Credit)
  where
    shares : (ss : List Share) → list_all (λ (s : Share). test (ShareOf s.buffer)) ss ≡ true
    shares [] = refl
    shares (s ∷ ss) = and_from _ _ (h (ShareOf s.buffer)) (shares ss)

    tokens : (ts : List ℕ) → list_all (λ u. test (TokenOf u)) ts ≡ true
    tokens [] = refl
    tokens (t ∷ ts) = and_from _ _ (h (TokenOf t)) (tokens ts)

-- A test that says less is passed where one that says more is.
pub less_tested : (a b : Part → Bool) (items : Items) → ((p : Part) → a p ≡ true → b p ≡ true) → each_part a items ≡ true → each_part b items ≡ true
less_tested a b items h e =
    let x = and_parts (shares_pass a items.shares && tokens_pass a items.tokens) (a Credit) e in
    let y = and_parts (shares_pass a items.shares) (tokens_pass a items.tokens) x.0 in
    and_from _ _ (and_from _ _ (shares items.shares y.0) (tokens items.tokens y.1)) (h Credit x.1)
  where
    shares_pass : (Part → Bool) → List Share → Bool
    shares_pass test ss = list_all (λ (s : Share). test (ShareOf s.buffer)) ss

    tokens_pass : (Part → Bool) → List ℕ → Bool
    tokens_pass test ts = list_all (λ u. test (TokenOf u)) ts

    shares : (ss : List Share) → shares_pass a ss ≡ true → shares_pass b ss ≡ true
    shares [] f = refl
    shares (s ∷ ss) f = let g = and_parts (a (ShareOf s.buffer)) (shares_pass a ss) f in and_from _ _ (h (ShareOf s.buffer) g.0) (shares ss g.1)

    tokens : (ts : List ℕ) → tokens_pass a ts ≡ true → tokens_pass b ts ≡ true
    tokens [] f = refl
    tokens (t ∷ ts) f = let g = and_parts (a (TokenOf t)) (tokens_pass a ts) f in and_from _ _ (h (TokenOf t) g.0) (tokens ts g.1)

pub true_not : {b : Bool} → b ≡ true → not b ≡ false
true_not {b = true} e = refl
true_not {b = false} e = absurd (cc)

module _ (P : Program) (pool : Pool) (items : Items) where
  -- What the pool includes is there, part by part.
  pub included : includes P pool items ≡ true → (p : Part) → bag_of items p ≤ pooled P pool p
  included e p = elim (each_tested (λ p. nat_le (bag_of items p) (pooled P pool p)) items e p) [
    | inl n ↦ omega (arith, n)
    | inr t ↦ leb-true _ _ t
  ]

  -- Where the pool has room for the items, of no part that they name there would be more than there are.
  pub all_fit : overfills P (pooled P pool) items ≡ false → (p : Part) → (bag_of items p ≡ 0) ⊎ (pooled P pool p + bag_of items p ≤ all_of P p)
  all_fit e p = elim (each_tested (fits P (pooled P pool) items) items (not-false _ e) p) [
    | inl n ↦ inl n
    | inr t ↦ inr (leb-true _ _ t)
  ]
