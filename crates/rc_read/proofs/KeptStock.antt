-- What is kept of what pools have at the start, and what one more line of it does to it.
use Rattle.std.proofs.Common.{◌≡◌, ℕ, zero, suc, ◌+◌, ◌<◌, ◌≤◌, true, false, cond, List, [], ◌∷◌, ◌++◌, length, length-append, map, Option, Some, None, is_none, slice_get, refl, sym, ap, ◌∙◌, subst, inl, inr, All, arith, Contains}
use Rattle.std.specs.Prelude.{IfSome}
use Rattle.std.proofs.lemmas.Bool.{or_parts}
use Rattle.std.proofs.lemmas.List.{get_or_append_left, map_push}
use Rattle.std.proofs.lemmas.List.Elements.{All-nil, All-push, All-weaker}
use Rattle.rc_lang.specs.declared.program.Share.{Share}
use Rattle.rc_lang.specs.declared.program.Token.{Token}
use Rattle.rc_lang.specs.Program.{Items, Program, Stock}
use Rattle.rc_lang.specs.Kept.{IsEachPoolOnce, IsItems, IsStock, stock_numbers}
use Rattle.rc_lang.specs.Resolved.{DeclaresPool, DeclaresToken}
use Rattle.rc_lang.proofs.Lookups.{get_push}
use Rattle.rc_read.specs.Sheets.{has_unnamed}
use Rattle.rc_read.proofs.KeptParts.{RiseTo, rise_more, rise_none, rise_on}

-- ---- a program that declares more

pub record Grows (p q : Program) : Type 0 where
  pub version : q.version ≡ p.version
  pub buffers : length p.buffers ≤ length q.buffers
  pub tokens : (u : ℕ) → DeclaresToken p u → DeclaresToken q u
  pub pools : length p.pools ≤ length q.pools

pub grows_not : (p : Program) → Grows p p
grows_not p = record { version = refl; buffers = omega arith; tokens = λ u h. h; pools = omega arith }

pub items_on : (p q : Program) → Grows p q → (i : Items) → i.queue ≡ None → IsItems p i → IsItems q i
items_on p q g i none h = record {
  buffers = All-weaker (λ (s : Share). s.buffer < length p.buffers) (λ (s : Share). s.buffer < length q.buffers) (λ (s : Share) lt. omega (arith, lt, g.buffers)) i.shares h.buffers;
  counts = h.counts;
  distinct_buffers = h.distinct_buffers;
  tokens = All-weaker (DeclaresToken p) (DeclaresToken q) g.tokens i.tokens h.tokens;
  distinct_tokens = h.distinct_tokens;
  credits = h.credits;
  queue = subst (λ o. IfSome o (λ k. k ≤ q.entries)) (sym none) tt;
}

pool_on : (p q : Program) → Grows p q → (pool : Option ℕ) → DeclaresPool p pool → DeclaresPool q pool
pool_on p q g None h = tt
pool_on p q g (Some n) h = let lt : n < length p.pools = h in omega (arith, lt, g.pools)

stock_on : (p q : Program) → Grows p q → (s : Stock) → IsStock p s → IsStock q s
stock_on p q g s h = record { pool = pool_on p q g s.pool h.pool; line = h.line; items = items_on p q g s.items h.of_pool.no_queue h.items; of_pool = h.of_pool }

-- A token stays declared where one more is.
pub still_declared : (tokens : List Token) (t : Token) (u : ℕ) → Contains (map (λ (x : Token). x.user_data) tokens) u → Contains (map (λ (x : Token). x.user_data) (tokens ++ t ∷ [])) u
still_declared tokens t u h =
    let keys = map (λ (x : Token). x.user_data) tokens in
    let more : map (λ (x : Token). x.user_data) (tokens ++ t ∷ []) ≡ keys ++ t.user_data ∷ [] = map_push (λ (x : Token). x.user_data) tokens t in
    let size : length (keys ++ t.user_data ∷ []) ≡ length keys + 1 = length-append keys (t.user_data ∷ []) in
    subst (λ us. Contains us u) (sym more) (h.0, omega (arith, h.1, size), get_or_append_left keys (t.user_data ∷ []) u h.0 h.1 ∙ h.2)

-- ---- what is kept

pub record AreStocked (p : Program) (count : ℕ) (stock : List Stock) : Type 0 where
  pub few : length stock ≤ length p.pools + cond (has_unnamed stock) 1 0
  pub each : All (IsStock p) stock
  pub once : IsEachPoolOnce stock
  pub none : p.version ≤ 4 → stock ≡ []
  pub numbers : RiseTo count (stock_numbers stock)

pub none_stocked : (p : Program) (count : ℕ) → AreStocked p count []
none_stocked p count = record { few = omega arith; each = All-nil (IsStock p); once = λ i j a b e f same. absurd (cc e); none = λ old. refl; numbers = rise_none count }

-- one more line, on which more may be declared
pub stocked_on : (p q : Program) (count : ℕ) (stock : List Stock) → Grows p q → AreStocked p count stock → AreStocked q (count + 1) stock
stocked_on p q count stock g k = record {
  few = omega (arith, k.few, g.pools);
  each = All-weaker (IsStock p) (IsStock q) (stock_on p q g) stock k.each;
  once = k.once;
  none = λ old. k.none (subst (λ v. v ≤ 4) g.version old);
  numbers = rise_on count (stock_numbers stock) k.numbers;
}

-- ---- one more

-- None of these is of this pool.
abbrev IsNewPool : List Stock → Option ℕ → Type 0
IsNewPool stock pool = (i : ℕ) (s : Stock) → slice_get stock i ≡ Some s → s.pool ≡ pool → ⊥

once_more : (stock : List Stock) (s : Stock) → IsEachPoolOnce stock → IsNewPool stock s.pool → IsEachPoolOnce (stock ++ s ∷ [])
once_more stock s once new i j a b e f same = elim (get_push stock s i a e) [
  | inl h ↦ elim (get_push stock s j b f) [
    | inl g ↦ once i j a b h g same
    | inr g ↦ absurd (new i a h (same ∙ ap (λ (x : Stock). x.pool) (sym g.1)))
  ]
  | inr h ↦ elim (get_push stock s j b f) [
    | inl g ↦ absurd (new j b g (sym same ∙ ap (λ (x : Stock). x.pool) (sym h.1)))
    | inr g ↦ h.0 ∙ sym g.0
  ]
]

-- The number of a pool that is declared now is that of none above it.
new_named : (p : Program) (stock : List Stock) → All (IsStock p) stock → IsNewPool stock (Some (length p.pools))
new_named p stock each i s e same =
    let h : IsStock p s = from_get p stock each i s e in
    let lt : length p.pools < length p.pools = subst (DeclaresPool p) same h.pool in
    omega (arith, lt)
  where
    from_get : (q : Program) (xs : List Stock) → All (IsStock q) xs → (j : ℕ) (x : Stock) → slice_get xs j ≡ Some x → IsStock q x
    from_get q [] all j x f = absurd (cc f)
    from_get q (y ∷ ys) all zero x f = let z : y ≡ x = cc f in subst (IsStock q) z (all 0 y (omega arith))
    from_get q (y ∷ ys) all (suc j) x f = from_get q ys (λ k d lt. all (suc k) d (omega (arith, lt))) j x f

new_unnamed : (stock : List Stock) → has_unnamed stock ≡ false → IsNewPool stock None
new_unnamed [] h i s e same = absurd (cc e)
new_unnamed (x ∷ xs) h zero s e same =
    let z : x ≡ s = cc e in
    let first : is_none x.pool ≡ false = (or_parts (is_none x.pool) (has_unnamed xs) h).0 in
    let none : is_none x.pool ≡ true = ap (λ (y : Stock). is_none y.pool) z ∙ ap is_none same in
    absurd (cc (first, none))
new_unnamed (x ∷ xs) h (suc i) s e same = new_unnamed xs (or_parts (is_none x.pool) (has_unnamed xs) h).1 i s e same

unnamed_more : (stock : List Stock) (s : Stock) → has_unnamed stock ≡ false → is_none s.pool ≡ true → has_unnamed (stock ++ s ∷ []) ≡ true
unnamed_more [] s h e = rw e refl
unnamed_more (x ∷ xs) s h e = let o = or_parts (is_none x.pool) (has_unnamed xs) h in rw o.0 (unnamed_more xs s o.1 e)

named_more : (stock : List Stock) (s : Stock) → is_none s.pool ≡ false → has_unnamed (stock ++ s ∷ []) ≡ has_unnamed stock
named_more [] s e = rw e refl
named_more (x ∷ xs) s e = rw (named_more xs s e) refl

numbers_stocked : (count : ℕ) (stock : List Stock) (s : Stock) → s.line ≡ count + 1 → RiseTo count (stock_numbers stock) → RiseTo (count + 1) (stock_numbers (stock ++ s ∷ []))
numbers_stocked count stock s e k =
    subst (λ ns. RiseTo (count + 1) ns) (sym (map_push (λ (x : Stock). x.line) stock s ∙ ap (λ n. stock_numbers stock ++ n ∷ []) e)) (rise_more count (stock_numbers stock) k)

-- What one of the declared pools has: a pool more, and a line more.
pub named_stocked : (p q : Program) (count : ℕ) (stock : List Stock) (s : Stock) → Grows p q → length q.pools ≡ length p.pools + 1 → 5 ≤ q.version → s.pool ≡ Some (length p.pools) → s.line ≡ count + 1 → IsStock q s → AreStocked p count stock → AreStocked q (count + 1) (stock ++ s ∷ [])
named_stocked p q count stock s g more later pool line is k =
    let size : length (stock ++ s ∷ []) ≡ length stock + 1 = length-append stock (s ∷ []) in
    let same : has_unnamed (stock ++ s ∷ []) ≡ has_unnamed stock = named_more stock s (ap is_none pool) in
    record {
      few = let f : length (stock ++ s ∷ []) ≤ length q.pools + cond (has_unnamed stock) 1 0 = omega (arith, k.few, size, more) in subst (λ b. length (stock ++ s ∷ []) ≤ length q.pools + cond b 1 0) (sym same) f;
      each = All-push (IsStock q) stock s (All-weaker (IsStock p) (IsStock q) (stock_on p q g) stock k.each) is;
      once = once_more stock s k.once (subst (IsNewPool stock) (sym pool) (new_named p stock k.each));
      none = λ old. absurd (omega (arith, old, later));
      numbers = numbers_stocked count stock s line k.numbers;
    }

-- What the pool without a name has.
pub unnamed_stocked : (p q : Program) (count : ℕ) (stock : List Stock) (s : Stock) → Grows p q → 5 ≤ q.version → s.pool ≡ None → s.line ≡ count + 1 → has_unnamed stock ≡ false → IsStock q s → AreStocked p count stock → AreStocked q (count + 1) (stock ++ s ∷ [])
unnamed_stocked p q count stock s g later pool line new is k =
    let size : length (stock ++ s ∷ []) ≡ length stock + 1 = length-append stock (s ∷ []) in
    let some : has_unnamed (stock ++ s ∷ []) ≡ true = unnamed_more stock s new (ap is_none pool) in
    let before : length stock ≤ length p.pools + 0 = subst (λ b. length stock ≤ length p.pools + cond b 1 0) new k.few in
    record {
      few = subst (λ b. length (stock ++ s ∷ []) ≤ length q.pools + cond b 1 0) (sym some) (omega (arith, before, size, g.pools));
      each = All-push (IsStock q) stock s (All-weaker (IsStock p) (IsStock q) (stock_on p q g) stock k.each) is;
      once = once_more stock s k.once (subst (IsNewPool stock) (sym pool) (new_unnamed stock new));
      none = λ old. absurd (omega (arith, old, later));
      numbers = numbers_stocked count stock s line k.numbers;
    }
