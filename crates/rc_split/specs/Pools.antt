-- The pools: what threads put where each of them can take it.
use Rattle.std.specs.Prelude.{ℕ, ◌≡◌, ◌+◌, ◌-◌, ◌<◌, ◌^◌, ◌⊎◌, Bool, true, false, cond, not, ◌&&◌, sum_by, List, [], length, fold, replicate, Option, Some, None, nat_le, slice_index, slice_index_or, slice_set}
use Rattle.std.specs.List.{list_all}
use Rattle.rc_lang.specs.declared.program.Share.{Share}
use Rattle.rc_lang.specs.Program.{Program, Items, Stock, shares_at, token_place}
use Rattle.rc_split.specs.Bags.{Part, ShareOf, TokenOf, Credit, bag_of}

-- Shares by the numbers of their buffers, whether a token is there by its place among the program's, and credits. What is
-- behind the end of a list isn't there.
pub record Pool : Type 0 where
  pub shares : List ℕ
  pub marks : List Bool
  pub credits : ℕ

-- a pool with nothing in it, which has a place for each buffer and each token of a program
abbrev pub empty_pool : Program → Pool
empty_pool P = record { shares = replicate (length P.buffers) 0; marks = replicate (length P.tokens) false; credits = 0 }

-- a pool that isn't there
abbrev pub no_pool : Pool
no_pool = record { shares = []; marks = []; credits = 0 }

-- 1 at the place of a token that is there
abbrev pub mark_at : List Bool → Option ℕ → ℕ
mark_at marks None = 0
mark_at marks (Some place) = cond (slice_index_or marks place false) 1 0

-- how many of each part are in the pool
abbrev pub pooled : Program → Pool → Part → ℕ
pooled P pool (ShareOf b) = slice_index pool.shares b
pooled P pool (TokenOf u) = mark_at pool.marks (token_place P.tokens u)
pooled P pool Credit = pool.credits

-- whether each part that items name passes a test
abbrev pub each_part : (Part → Bool) → Items → Bool
each_part test items = list_all (λ (s : Share). test (ShareOf s.buffer)) items.shares && list_all (λ u. test (TokenOf u)) items.tokens && test Credit

-- The pool has as many of each part as the items name together.
abbrev pub includes : Program → Pool → Items → Bool
includes P pool items = each_part (λ p. nat_le (bag_of items p) (pooled P pool p)) items

-- as many of each part as there are: the shares of a buffer, one of each token, and a credit for each completion entry
abbrev pub all_of : Program → Part → ℕ
all_of P (ShareOf b) = shares_at P.buffers b
all_of P (TokenOf u) = 1
all_of P Credit = P.completion_entries

-- Where so many of each part are there, with the items there would be no more of this one than there are.
abbrev pub fits : Program → (Part → ℕ) → Items → Part → Bool
fits P there items p = nat_le (there p + bag_of items p) (all_of P p)

-- With the items there would be more of a part than there are.
abbrev pub overfills : Program → (Part → ℕ) → Items → Bool
overfills P there items = not (each_part (fits P there items) items)

-- ---- items that are put, and that are taken

abbrev pub more_shares : List ℕ → List Share → List ℕ
more_shares counts shares = fold (λ (row : List ℕ) (s : Share). slice_set row s.buffer (slice_index row s.buffer + s.count)) counts shares

abbrev pub fewer_shares : List ℕ → List Share → List ℕ
fewer_shares counts shares = fold (λ (row : List ℕ) (s : Share). slice_set row s.buffer (slice_index row s.buffer - s.count)) counts shares

abbrev pub with_mark : Bool → List Bool → Option ℕ → List Bool
with_mark is marks None = marks
with_mark is marks (Some place) = slice_set marks place is

abbrev pub with_marks : Program → Bool → List Bool → List ℕ → List Bool
with_marks P is marks tokens = fold (λ (row : List Bool) u. with_mark is row (token_place P.tokens u)) marks tokens

-- the pool once a token, or each of several, is there or not
abbrev pub with_token : Program → Bool → Pool → ℕ → Pool
with_token P is pool u = record pool { marks = with_mark is pool.marks (token_place P.tokens u) }

abbrev pub with_tokens : Program → Bool → Pool → List ℕ → Pool
with_tokens P is pool tokens = record pool { marks = with_marks P is pool.marks tokens }

abbrev pub with_items : Program → Pool → Items → Pool
with_items P pool items = record {
  shares = more_shares pool.shares items.shares;
  marks = with_marks P true pool.marks items.tokens;
  credits = pool.credits + items.credits;
}

abbrev pub without_items : Program → Pool → Items → Pool
without_items P pool items = record {
  shares = fewer_shares pool.shares items.shares;
  marks = with_marks P false pool.marks items.tokens;
  credits = pool.credits - items.credits;
}

-- With the items no count of a part that they name comes to 2^32.
abbrev pub CanAdd : Program → Pool → Items → Type 0
CanAdd P pool items = (p : Part) → (bag_of items p ≡ 0) ⊎ (pooled P pool p + bag_of items p < 2 ^ 32)

-- ---- all pools

-- The pool without a name, and those with one, by their numbers.
pub record Pools : Type 0 where
  pub unnamed : Pool
  pub named : List Pool

abbrev pub empty_pools : Program → Pools
empty_pools P = record { unnamed = empty_pool P; named = replicate (length P.pools) (empty_pool P) }

-- The pool with this number among those with a name, or the one without. Nothing is put into a pool that isn't there.
abbrev pub pool_of : Pools → Option ℕ → Pool
pool_of pools None = pools.unnamed
pool_of pools (Some n) = slice_index_or pools.named n no_pool

abbrev pub with_pool : Option ℕ → Pool → Pools → Pools
with_pool None pool pools = record pools { unnamed = pool }
with_pool (Some n) pool pools = record pools { named = slice_set pools.named n pool }

abbrev pub put_into : Program → Option ℕ → Items → Pools → Pools
put_into P name items pools = with_pool name (with_items P (pool_of pools name) items) pools

abbrev pub taken_from : Program → Option ℕ → Items → Pools → Pools
taken_from P name items pools = with_pool name (without_items P (pool_of pools name) items) pools

-- What they have at the start is what their lines say.
abbrev pub start_pools : Program → Pools
start_pools P = fold (λ (pools : Pools) (s : Stock). put_into P s.pool s.items pools) (empty_pools P) P.stock

-- a sum over all of them
abbrev pub in_all : (Pool → ℕ) → Pools → ℕ
in_all f pools = f pools.unnamed + sum_by f pools.named

-- how many of each part are in all of them
abbrev pub all_pooled : Program → Pools → Part → ℕ
all_pooled P pools p = in_all (λ (pool : Pool). pooled P pool p) pools
