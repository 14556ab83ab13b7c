-- What tests of the items of a put and of a take say, where nobody has more of a part than there is.
use Rattle.std.proofs.Common.{◌≡◌, ℕ, ◌+◌, ◌≤◌, true, false, List, [], ◌∷◌, length, Option, Some, None, nat_eq, slice_get, refl, subst, sym, inl, inr, arith, All}
use Rattle.std.specs.List.{IsDistinct, list_all, list_any}
use Rattle.std.proofs.lemmas.Bool.{and_from, cases_order, eqb-true, le-leb, or_cases}
use Rattle.std.proofs.lemmas.List.{get_or_past}
use Rattle.std.proofs.lemmas.List.Elements.{All-get_or, All-nil}
use Rattle.rc_lang.specs.declared.program.Share.{Share}
use Rattle.rc_lang.specs.Program.{Items, Program, Thread, items_at, lists_in, lists_of, no_items}
use Rattle.rc_lang.specs.Kept.{IsItems, IsList, IsProgram}
use Rattle.rc_split.specs.Bags.{Part, ShareOf, TokenOf, Credit, bag_of}
use Rattle.rc_split.specs.Pools.{all_of, fits, overfills}
use Rattle.rc_split.proofs.Named.{all_tested, true_not}
use Rattle.rc_split.proofs.PoolBags.{one_token, tokens_in}
use Rattle.rc_rules.specs.Rules.{has_room, is_within_limit, limit}

-- ---- the items of a put and of a take

nothing_named : (P : Program) → IsItems P no_items
unfolding IsDistinct
nothing_named P = record { buffers = All-nil _; counts = All-nil _; distinct_buffers = tt; tokens = All-nil _; distinct_tokens = tt; credits = omega arith; queue = tt }

listed : (P : Program) (lists : List Items) → All (IsList P) lists → (k : ℕ) → IsItems P (items_at lists k)
listed P lists h k = elim (cases_order (length lists) k) [
  | inl e ↦ past (omega (arith, e))
  | inr o ↦ elim o [ inl lt ↦ past (omega (arith, lt)) | inr lt ↦ (All-get_or (IsList P) lists k no_items lt h).first ]
]
  where
    past : length lists ≤ k → IsItems P (items_at lists k)
    past le = subst (IsItems P) (sym (get_or_past lists k no_items le)) (nothing_named P)

-- They are items of the program.
pub items_of : (P : Program) → IsProgram P → (i k : ℕ) → IsItems P (items_at (lists_of P i) k)
items_of P made i k = go (slice_get P.threads i) refl
  where
    go : (x : Option Thread) → slice_get P.threads i ≡ x → IsItems P (items_at (lists_in x) k)
    go None e = nothing_named P
    go (Some t) e = listed P t.lists (made.each i t e).lists k

-- ---- parts that are named

-- A token that is named is among the items.
token_more : (t : ℕ) (ts : List ℕ) (u : ℕ) → tokens_in ts u ≤ tokens_in (t ∷ ts) u
token_more t ts u = elim (one_token t ts u) [ inl o ↦ omega (arith, o.1) | inr o ↦ omega (arith, o.1) ]

token_first : (t : ℕ) (ts : List ℕ) (u : ℕ) → t ≡ u → 1 ≤ tokens_in (t ∷ ts) u
token_first t ts u e = elim (one_token t ts u) [ inl o ↦ omega (arith, o.1) | inr o ↦ absurd (o.0 e) ]

pub token_there : (tokens : List ℕ) (u : ℕ) → list_any (λ v. nat_eq v u) tokens ≡ true → 1 ≤ tokens_in tokens u
token_there [] u e = absurd (cc)
token_there (t ∷ ts) u e = elim (or_cases (nat_eq t u) (list_any (λ v. nat_eq v u) ts) e) [
  | inl h ↦ token_first t ts u (eqb-true t u h)
  | inr h ↦ omega (arith, token_there ts u h, token_more t ts u)
]

-- ---- tests of all parts that items name

module _ (P : Program) (items : Items) (b : Part → ℕ) (few : (p : Part) → b p + bag_of items p ≤ limit P p) where
  all_shares : (ss : List Share) → list_all (λ (s : Share). is_within_limit P b items (ShareOf s.buffer)) ss ≡ true
  all_shares [] = refl
  all_shares (s ∷ ss) = and_from (is_within_limit P b items (ShareOf s.buffer)) _ (le-leb _ _ (few (ShareOf s.buffer))) (all_shares ss)

  all_tokens : (ts : List ℕ) → list_all (λ u. is_within_limit P b items (TokenOf u)) ts ≡ true
  all_tokens [] = refl
  all_tokens (u ∷ ts) = and_from (is_within_limit P b items (TokenOf u)) _ (le-leb _ _ (few (TokenOf u))) (all_tokens ts)

  -- A thread has room for what nobody else has.
  pub room_for : has_room P b items ≡ true
  room_for = and_from _ (is_within_limit P b items Credit) (and_from _ _ (all_shares items.shares) (all_tokens items.tokens)) (le-leb _ _ (few Credit))

module _ (P : Program) (there : Part → ℕ) (items : Items) (few : (p : Part) → there p + bag_of items p ≤ limit P p) where
  fit : (p : Part) → there p + bag_of items p ≤ all_of P p
  fit (ShareOf b) = few (ShareOf b)
  fit (TokenOf u) = few (TokenOf u)
  fit Credit = few Credit

  -- There is room for what isn't there.
  pub room_in_pools : overfills P there items ≡ false
  room_in_pools = true_not (all_tested (fits P there items) items (λ p. le-leb _ _ (fit p)))
