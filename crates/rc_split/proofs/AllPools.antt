-- What is in all pools together, and what a put and a take of one of them do to it.
use Rattle.std.proofs.Common.{◌≡◌, ℕ, zero, suc, ◌+◌, ◌≤◌, false, cond, length, replicate, Option, Some, None, inl, inr, refl, ap, arith}
use Rattle.std.specs.Prelude.{slice_index_or, slice_set, sum_by}
use Rattle.std.proofs.lemmas.Bool.{cases_lt, le-leb, leb-true, not-false}
use Rattle.std.proofs.lemmas.List.{get_or_past, set_past}
use Rattle.std.proofs.lemmas.List.Sums.{get_or-le-sum_by, sum_by-cons, sum_by-set}
use Rattle.rc_lang.specs.Program.{Items, Program, token_place}
use Rattle.rc_lang.specs.Kept.{IsProgram}
use Rattle.rc_lang.proofs.Views.{own_view}
use Rattle.rc_split.specs.Bags.{Part, ShareOf, TokenOf, Credit, bag_of}
use Rattle.rc_split.specs.Pools.{CanAdd, Pool, Pools, all_of, all_pooled, empty_pool, empty_pools, fits, mark_at, no_pool, overfills, pool_of, pooled, put_into, taken_from, with_items, with_pool, without_items}
use Rattle.rc_split.proofs.Alike.{all_alike}
use Rattle.rc_split.proofs.Named.{all_fit, few_shares, less_tested, true_not}
use Rattle.rc_split.proofs.PoolBags.{pooled_with, pooled_without}

-- ---- empty pools

none_marked : (n : ℕ) (o : Option ℕ) → mark_at (replicate n false) o ≡ 0
none_marked n None = refl
none_marked n (Some k) = ap (λ b. cond b 1 0) (all_alike n k false)

none_in_one : (P : Program) (p : Part) → pooled P (empty_pool P) p ≡ 0
none_in_one P (ShareOf b) = all_alike (length P.buffers) b 0
none_in_one P (TokenOf u) = none_marked (length P.tokens) (token_place P.tokens u)
none_in_one P Credit = refl

none_nowhere : (P : Program) (p : Part) → pooled P no_pool p ≡ 0
none_nowhere P (ShareOf b) = refl
none_nowhere P (TokenOf u) = none_marked 0 (token_place P.tokens u)
none_nowhere P Credit = refl

-- how much of a part is in a pool
abbrev pub part_of : Program → Part → Pool → ℕ
part_of P p = λ (pool : Pool). pooled P pool p

none_in_each : (P : Program) (n : ℕ) (p : Part) → sum_by (part_of P p) (replicate n (empty_pool P)) ≡ 0
none_in_each P zero p = refl
none_in_each P (suc n) p =
    let s : sum_by (part_of P p) (replicate (suc n) (empty_pool P)) ≡ pooled P (empty_pool P) p + sum_by (part_of P p) (replicate n (empty_pool P)) = sum_by-cons (part_of P p) (empty_pool P) (replicate n (empty_pool P)) in
    let one : pooled P (empty_pool P) p ≡ 0 = none_in_one P p in
    let rest : sum_by (part_of P p) (replicate n (empty_pool P)) ≡ 0 = none_in_each P n p in
    omega (arith, s, one, rest)

pub none_pooled : (P : Program) (p : Part) → all_pooled P (empty_pools P) p ≡ 0
none_pooled P p =
    let one : pooled P (empty_pool P) p ≡ 0 = none_in_one P p in
    let rest : sum_by (part_of P p) (replicate (length P.pools) (empty_pool P)) ≡ 0 = none_in_each P (length P.pools) p in
    omega (arith, one, rest)

module _ (P : Program) where
  -- ---- one pool among all

  -- Another pool in place of one, or of none.
  pub pooled_set : (pools : Pools) (name : Option ℕ) (pool : Pool) (p : Part) → all_pooled P (with_pool name pool pools) p + pooled P (pool_of pools name) p ≤ all_pooled P pools p + pooled P pool p
  pooled_set pools None pool p = omega arith
  pooled_set pools (Some n) pool p = elim (cases_lt n (length pools.named)) [
    | inl lt ↦
        let s : sum_by (part_of P p) (slice_set pools.named n pool) + pooled P (slice_index_or pools.named n no_pool) p ≡ sum_by (part_of P p) pools.named + pooled P pool p = sum_by-set (part_of P p) pools.named n pool no_pool lt in
        omega (arith, s)
    | inr le ↦
        let same : sum_by (part_of P p) (slice_set pools.named n pool) ≡ sum_by (part_of P p) pools.named = ap (sum_by (part_of P p)) (set_past pools.named n pool le) in
        let none : pooled P (slice_index_or pools.named n no_pool) p ≡ pooled P no_pool p = ap (part_of P p) (get_or_past pools.named n no_pool le) in
        omega (arith, same, none, none_nowhere P p)
  ]

  -- One has no more than all.
  pub pooled_most : (pools : Pools) (name : Option ℕ) (p : Part) → pooled P (pool_of pools name) p ≤ all_pooled P pools p
  pooled_most pools None p = omega arith
  pooled_most pools (Some n) p = elim (cases_lt n (length pools.named)) [
    | inl lt ↦
        let s : pooled P (slice_index_or pools.named n no_pool) p ≤ sum_by (part_of P p) pools.named = get_or-le-sum_by (part_of P p) pools.named n no_pool lt in
        omega (arith, s)
    | inr le ↦
        let none : pooled P (slice_index_or pools.named n no_pool) p ≡ pooled P no_pool p = ap (part_of P p) (get_or_past pools.named n no_pool le) in
        omega (arith, none, none_nowhere P p)
  ]

  -- ---- a put and a take

  pub all_with : (pools : Pools) (name : Option ℕ) (items : Items) (p : Part) → all_pooled P (put_into P name items pools) p ≤ all_pooled P pools p + bag_of items p
  all_with pools name items p = omega (arith, pooled_set pools name (with_items P (pool_of pools name) items) p, pooled_with P (pool_of pools name) items p)

  pub all_without : (pools : Pools) (name : Option ℕ) (items : Items) → ((p : Part) → bag_of items p ≤ pooled P (pool_of pools name) p) → (p : Part) → all_pooled P (taken_from P name items pools) p + bag_of items p ≤ all_pooled P pools p
  all_without pools name items there p = omega (arith, pooled_set pools name (without_items P (pool_of pools name) items) p, pooled_without P (pool_of pools name) items there p)

  -- ---- room

  -- Where there is room beside more, there is beside less.
  pub room_less : (a b : Part → ℕ) → ((p : Part) → a p ≤ b p) → (items : Items) → overfills P b items ≡ false → overfills P a items ≡ false
  room_less a b less items e = true_not (less_tested (fits P b items) (fits P a items) items (λ p t. let le : b p + bag_of items p ≤ all_of P p = leb-true _ _ t in le-leb _ _ (omega (arith, le, less p))) (not-false _ e))

  pub room_in_one : (pools : Pools) (name : Option ℕ) (items : Items) → overfills P (all_pooled P pools) items ≡ false → overfills P (pooled P (pool_of pools name)) items ≡ false
  room_in_one pools name items e = room_less (pooled P (pool_of pools name)) (all_pooled P pools) (λ p. pooled_most pools name p) items e

  few_of_all : IsProgram P → (p : Part) → all_of P p ≤ 2048
  few_of_all made (ShareOf b) = omega (arith, few_shares P b (own_view P made))
  few_of_all made (TokenOf u) = omega arith
  few_of_all made Credit = made.completion_entries.within

  -- Where there is room, no count overflows.
  pub can_add : IsProgram P → (pools : Pools) (name : Option ℕ) (items : Items) → overfills P (all_pooled P pools) items ≡ false → CanAdd P (pool_of pools name) items
  can_add made pools name items e p = elim (all_fit P (pool_of pools name) items (room_in_one pools name items e) p) [
    | inl n ↦ inl n
    | inr l ↦ inr (omega (arith, l, few_of_all made p))
  ]
