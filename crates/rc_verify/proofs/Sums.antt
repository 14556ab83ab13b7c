-- A header, or the line of a pool, more.
use Rattle.std.proofs.Common.{◌≡◌, ℕ, zero, suc, ◌+◌, ◌-◌, ◌*◌, ◌^◌, ◌<◌, ◌≤◌, Bool, true, false, ◌||◌, nat_eq, List, [], ◌∷◌, ◌++◌, ◌⊎◌, inl, inr, get_or, length, map, take, drop, count_by, Option, Some, None, is_none, slice_get, refl, sym, ap, ◌∙◌, subst, nat_le, arith}
use Rattle.std.specs.Prelude.{OnOk, Result, Ok, Err}
use Rattle.std.specs.List.{list_all}
use Rattle.std.proofs.lemmas.Bool.{eq-eqb, eqb-true, le-leb, leb-false, leb-true}
use Rattle.std.proofs.lemmas.List.{get_or-map, length-map}
use Rattle.std.proofs.lemmas.Option.{slice_get-get_or}
use Rattle.std.proofs.lemmas.List.Elements.{All-from_get_or}
use Rattle.std.proofs.lemmas.List.Sums.{list_all-from_AllPass}
use Rattle.std.proofs.Math.Nat.{suc-mul}
use Rattle.std.proofs.Math.Numerals.{add-one}
use Rattle.std.proofs.lemmas.Nat.{mul-le}
use Rattle.rc_lang.specs.declared.program.Stock.{Stock as StockPart}
use Rattle.rc_lang.specs.Parts.{view_items, view_stock}
use Rattle.rc_lang.specs.Program.{Program, Items, Stock, Thread, further_copies, line_end, shares_at}
use Rattle.rc_lang.specs.Kept.{IsItems, IsProgram, IsStock}
use Rattle.rc_lang.proofs.Copies.{alone, copy_at}
use Rattle.rc_split.specs.Bags.{Part, ShareOf, TokenOf, Credit, bag_of, begun, plus, IsWithin, IsSameBag}
use Rattle.rc_split.specs.Holdings.{Gains, Holding, Holds, bag}
use Rattle.rc_split.proofs.Named.{all_at, no_share, share_named, token_named}
use Rattle.rc_split.proofs.Turns.{itself, shares_more_le, tokens_more_le}
use Rattle.rc_rules.specs.Labellings.{given_to, given_to_pools, headers_bag, shares_of, tokens_of, credits_of, header_asks, header_premises, is_empty, may_hold}
use Rattle.rc_rules.specs.declared.cause.Cause.{Cause}
use Rattle.rc_rules.specs.Premises.{Meets, FailsFirst, Tests}
use Rattle.rc_rules.specs.Rules.{limit}
use Rattle.rc_verify.proofs.Strongest.{take_suc_at}
use Rattle.rc_verify.specs.Headers.{JudgesItems, share_fits, times, token_fits}

threads_more : (stock : List Stock) (ts : List Thread) (t : Thread) (p : Part) → headers_bag (begun stock (ts ++ t ∷ [])) p ≡ headers_bag (begun stock ts) p + bag_of t.items p
threads_more [] [] t p = omega arith
threads_more [] (x ∷ ts) t p = omega (arith, threads_more [] ts t p)
threads_more (s ∷ ss) ts t p = omega (arith, threads_more ss ts t p)

-- ---- so many times

pub one_less : (n x : ℕ) → 1 ≤ n → n * x ≡ (n - 1) * x + x
one_less zero x le = absurd (omega (arith, le))
one_less (suc n) x le = let e : suc n - 1 ≡ n = omega arith in suc-mul n x ∙ ap (λ m. m * x + x) (sym e)

pub few_product : (a b : ℕ) → a < 2 ^ 32 → b < 2 ^ 32 → a * b ≤ 4294967295 * 4294967295
few_product a b few less = mul-le a b 4294967295 4294967295 (omega (arith, few)) (omega (arith, less))

pub none_left : (n have x all : ℕ) → n ≡ 0 → have + n * x ≡ all → have ≡ all
none_left n have x all e h = let z : n * x ≡ 0 * x = ap (λ m. m * x) e in omega (arith, z, h)

stock_more : (stock : List Stock) (s : Stock) (p : Part) → headers_bag (begun (stock ++ s ∷ []) []) p ≡ headers_bag (begun stock []) p + bag_of s.items p
stock_more [] s p = omega arith
stock_more (x ∷ ss) s p = omega (arith, stock_more ss s p)

-- ---- the copies of a line

more_of : (P : Program) (i : ℕ) (t : Thread) (p : Part) → slice_get P.threads i ≡ Some t → given_to P (suc i) p ≡ given_to P i p + bag_of t.items p
more_of P i t p e = ap (λ (xs : List Thread). headers_bag (begun P.stock xs) p) (take_suc_at P.threads i t e) ∙ threads_more P.stock (take i P.threads) t p

-- what pools, a thread and so many copies behind it give besides what is given above it
copies_hold : (P : Program) → IsProgram P → (i : ℕ) (s : Thread) → slice_get P.threads i ≡ Some s → (m : ℕ) → m ≤ further_copies (drop (i + 1) P.threads) → (p : Part) → given_to P (i + suc m) p ≡ given_to P i p + suc m * bag_of s.items p
copies_hold P made i s e zero le p =
    let place : i + 1 ≡ suc i = omega arith in
    let all : given_to P (i + 1) p ≡ given_to P (suc i) p = ap (λ k. given_to P k p) place in
    omega (arith, all, more_of P i s p e)
copies_hold P made i s e (suc m) le p =
    let h = copies_hold P made i s e m (omega (arith, le)) p in
    let c = copy_at P made i s e (suc m) le in
    let place : i + suc (suc m) ≡ suc (i + suc m) = omega arith in
    let all : given_to P (i + suc (suc m)) p ≡ given_to P (suc (i + suc m)) p = ap (λ k. given_to P k p) place in
    let own : bag_of c.thread.items p ≡ bag_of s.items p = ap (λ (t : Thread). bag_of t.items p) c.same in
    let one : suc (suc m) * bag_of s.items p ≡ suc m * bag_of s.items p + bag_of s.items p = suc-mul (suc m) (bag_of s.items p) in
    omega (arith, h, all, own, one, more_of P (i + suc m) c.thread p c.stands)

-- what is given up to the end of a thread's line, where so much is given above it
pub held_with : (P : Program) (i n : ℕ) (t : Thread) (h : Holding) → IsProgram P → slice_get P.threads i ≡ Some t → Holds h P (given_to P i) → n ≡ line_end P.threads i - i → IsSameBag (given_to P (line_end P.threads i)) (plus (bag h) (times n (bag_of t.items)))
held_with P i n t h made is k q p =
    let m = further_copies (drop (i + 1) P.threads) in
    let place : line_end P.threads i ≡ i + suc m = omega arith in
    let all : given_to P (line_end P.threads i) p ≡ given_to P (i + suc m) p = ap (λ j. given_to P j p) place in
    let size : n ≡ suc m = omega (arith, q) in
    let own : n * bag_of t.items p ≡ suc m * bag_of t.items p = ap (λ j. j * bag_of t.items p) size in
    omega (arith, all, own, k.each p, copies_hold P made i t is m (omega arith) p)

-- What is answered of the items is that of the header.
pub header_told : {X : Type 0} (P : Program) (i n : ℕ) (t : Thread) (h : Holding) (may : Bool) (r : Result X Cause) → IsProgram P → slice_get P.threads i ≡ Some t → Holds h P (given_to P i) → n ≡ line_end P.threads i - i → may ≡ may_hold (Some t) → JudgesItems P (bag h) n may t.items r → Tests r (header_asks P i)
header_told P i n t h may r made is k q m j =
    subst (λ b. Tests r (header_premises P (given_to P (line_end P.threads i)) b)) (m ∙ sym (ap may_hold is)) (j (given_to P (line_end P.threads i)) (held_with P i n t h made is k q))

-- A line whose threads may hold tokens has one thread, or none of them does.
pub one_or_none : (P : Program) (i n : ℕ) (t : Thread) → IsProgram P → slice_get P.threads i ≡ Some t → n ≡ line_end P.threads i - i → may_hold (Some t) ≡ true → (n ≡ 1) ⊎ (t.items.tokens ≡ [])
one_or_none P i n t made is q h = go t.copy refl h
  where
    none : (us : List ℕ) → is_empty us ≡ true → us ≡ []
    none [] f = refl
    none (u ∷ us) f = absurd cc

    go : (copy : Option ℕ) → t.copy ≡ copy → is_none copy || is_empty t.items.tokens ≡ true → (n ≡ 1) ⊎ (t.items.tokens ≡ [])
    go None f h = let z : further_copies (drop (i + 1) P.threads) ≡ 0 = alone P made i t is f in inl (omega (arith, z, q))
    go (Some c) f h = inr (none t.items.tokens h)

-- the same of the lines of pools
pub stock_at : (P : Program) (parts : List StockPart) (i : ℕ) (d : StockPart) → map view_stock parts ≡ P.stock → i < length P.stock → slice_get P.stock i ≡ Some (view_stock (get_or parts i d))
stock_at P parts i d e lt =
    let l : i < length (map view_stock parts) = subst (λ (ss : List Stock). i < length ss) (sym e) lt in
    let k : i < length parts = subst (λ n. i < n) (length-map parts view_stock) l in
    subst (λ ss. slice_get ss i ≡ Some (view_stock (get_or parts i d))) e (slice_get-get_or (map view_stock parts) i (view_stock d) l ∙ ap Some (get_or-map view_stock parts i d (view_stock d) k))

pub pooled_with : (P : Program) (parts : List StockPart) (i : ℕ) (d : StockPart) (h : Holding) → map view_stock parts ≡ P.stock → i < length P.stock → Holds h P (given_to_pools P i) → IsSameBag (given_to_pools P (i + 1)) (plus (bag h) (times 1 (bag_of (view_items (get_or parts i d).items))))
pooled_with P parts i d h e lt k p =
    let s = view_stock (get_or parts i d) in
    rw (add-one, take_suc_at P.stock i s (stock_at P parts i d e lt)) (omega (arith, stock_more (take i P.stock) s p, k.each p))

-- what the premises say of each part
pub all_within : (P : Program) (all : Part → ℕ) (alone : Bool) → Meets (header_premises P all alone) → IsWithin all (limit P)
all_within P all alone m (ShareOf b) = m.0 (ShareOf b)
all_within P all alone m (TokenOf u) = m.1.0 (TokenOf u)
all_within P all alone m Credit = m.1.1.1.0 Credit

-- So what is held is within the limits, and what is held after more are.
pub still_within : (P : Program) (h : Holding) (all : Part → ℕ) → Holds h P all → IsWithin all (limit P) → IsWithin (bag h) (limit P)
still_within P h all k m p = omega (arith, k.each p, m p)

pub now_held : {X : Type 0} (P : Program) (old new : Holding) (before after b : Part → ℕ) (r : Result X Cause) → Holds old P before → IsSameBag after (plus (bag old) b) → OnOk r (Gains old new b) → OnOk r (Holds new P after)
now_held P old new before after b (Ok x) held same gains = record { of = gains.of ∙ held.of; each = λ p. omega (arith, gains.each p, same p) }
now_held P old new before after b (Err e) held same gains = tt

-- The items of a pool's line are items of the program.
pub stock_items : (P : Program) (parts : List StockPart) (i : ℕ) (d : StockPart) → IsProgram P → map view_stock parts ≡ P.stock → i < length P.stock → IsItems P (view_items (get_or parts i d).items)
stock_items P parts i d made e lt =
    let l : i < length (map view_stock parts) = subst (λ (ss : List Stock). i < length ss) (sym e) lt in
    let k : i < length parts = subst (λ n. i < n) (length-map parts view_stock) l in
    let there : IsStock P (get_or P.stock i (view_stock d)) = made.stock i (view_stock d) lt in
    subst (λ (s : Stock). IsItems P s.items) (get_or-map view_stock parts i d (view_stock d) k) (subst (λ (xs : List Stock). IsItems P (get_or xs i (view_stock d)).items) (sym e) there.items)

-- ---- these items so often besides what is held

module _ (P : Program) (held : Part → ℕ) (copies : ℕ) (may : Bool) (items : Items) (some : 1 ≤ copies) (one : may ≡ true → (copies ≡ 1) ⊎ (items.tokens ≡ [])) (of : IsItems P items) (within : IsWithin held (limit P)) (all : Part → ℕ) (same : IsSameBag all (plus held (times copies (bag_of items)))) where
  -- so many times what is there at least, and what is there exactly
  at_least : (p : Part) (n : ℕ) → n ≤ bag_of items p → copies * n ≤ copies * bag_of items p
  at_least p n le = mul-le copies n copies (bag_of items p) (omega arith) le

  exactly : (p : Part) (n : ℕ) → bag_of items p ≡ n → copies * bag_of items p ≡ copies * n
  exactly p n e = ap (λ m. copies * m) e

  shares_left : IsWithin (shares_of all) (limit P) → list_all (share_fits P held copies) items.shares ≡ true
  shares_left h = list_all-from_AllPass (share_fits P held copies) items.shares (λ i d lt.
      let s = get_or items.shares i d in
      let le : s.count ≤ bag_of items (ShareOf s.buffer) = omega (arith, shares_more_le items.shares i d (ShareOf s.buffer) lt, itself s.buffer s.count) in
      le-leb _ _ (omega (arith, h (ShareOf s.buffer), same (ShareOf s.buffer), at_least (ShareOf s.buffer) s.count le)))

  shares_covered : list_all (share_fits P held copies) items.shares ≡ true → IsWithin (shares_of all) (limit P)
  shares_covered f (ShareOf b) = elim (share_named items.shares b of.distinct_buffers) [
    | inl n ↦
        let z : bag_of items (ShareOf b) ≡ 0 = omega (arith, n) in
        omega (arith, same (ShareOf b), within (ShareOf b), exactly (ShareOf b) 0 z)
    | inr s ↦
        let share = get_or items.shares s.place no_share in
        let fits : held (ShareOf share.buffer) + copies * share.count ≤ shares_at P.buffers share.buffer = leb-true _ _ (all_at (share_fits P held copies) items.shares s.place no_share f s.within) in
        let g : held (ShareOf b) + copies * share.count ≤ shares_at P.buffers b = subst (λ c. held (ShareOf c) + copies * share.count ≤ shares_at P.buffers c) s.buffer fits in
        let own : bag_of items (ShareOf b) ≡ share.count = omega (arith, s.count) in
        omega (arith, same (ShareOf b), g, exactly (ShareOf b) share.count own)
  ]
  shares_covered f (TokenOf u) = omega arith
  shares_covered f Credit = omega arith

  tokens_left : IsWithin (tokens_of all) (limit P) → list_all (token_fits held) items.tokens ≡ true
  tokens_left h = list_all-from_AllPass (token_fits held) items.tokens (All-from_get_or (λ u. token_fits held u ≡ true) items.tokens 0 (λ i lt.
      let u = get_or items.tokens i 0 in
      let le : 1 ≤ bag_of items (TokenOf u) = omega (arith, tokens_more_le items.tokens i (TokenOf u) lt, itself u 1) in
      eq-eqb _ _ (omega (arith, h (TokenOf u), same (TokenOf u), some, at_least (TokenOf u) 1 le))))

  tokens_covered : may ≡ true → list_all (token_fits held) items.tokens ≡ true → IsWithin (tokens_of all) (limit P)
  tokens_covered m f (ShareOf b) = omega arith
  tokens_covered m f (TokenOf u) = elim (token_named items.tokens u of.distinct_tokens) [
    | inl n ↦
        let z : bag_of items (TokenOf u) ≡ 0 = omega (arith, n) in
        omega (arith, same (TokenOf u), within (TokenOf u), exactly (TokenOf u) 0 z)
    | inr s ↦
        let fits : held (TokenOf (get_or items.tokens s.place 0)) ≡ 0 = eqb-true _ _ (all_at (token_fits held) items.tokens s.place 0 f s.within) in
        let g : held (TokenOf u) ≡ 0 = subst (λ c. held (TokenOf c) ≡ 0) s.token fits in
        let own : bag_of items (TokenOf u) ≡ 1 = omega (arith, s.once) in
        elim (one m) [
          | inl e ↦ omega (arith, same (TokenOf u), g, e, exactly (TokenOf u) 1 own)
          | inr e ↦ let z : bag_of items (TokenOf u) ≡ 0 = ap (λ us. count_by (λ v. nat_eq v u) us) e in absurd (omega (arith, z, own))
        ]
  ]
  tokens_covered m f Credit = omega arith

  credits_covered : nat_le (held Credit + copies * items.credits) P.completion_entries ≡ true → IsWithin (credits_of all) (limit P)
  credits_covered f (ShareOf b) = omega arith
  credits_covered f (TokenOf u) = omega arith
  credits_covered f Credit = omega (arith, same Credit, leb-true (held Credit + copies * items.credits) P.completion_entries f)

  pub shares_over : list_all (share_fits P held copies) items.shares ≡ false → FailsFirst 16 (header_premises P all may)
  shares_over f = record {
    below = (λ lt. absurd (omega (arith, lt)), (λ lt. absurd (omega (arith, lt)), (λ lt. absurd (omega (arith, lt)), (λ lt. absurd (omega (arith, lt)), tt))));
    fails = λ m. let g : list_all (share_fits P held copies) items.shares ≡ true = shares_left (m.0 (omega arith)) in absurd (cc (f, g));
  }

  pub tokens_numbered : list_all (share_fits P held copies) items.shares ≡ true → may ≡ false → FailsFirst 17 (header_premises P all may)
  tokens_numbered s f = record {
    below = (λ lt. shares_covered s, (λ lt. absurd (omega (arith, lt)), (λ lt. absurd (omega (arith, lt)), (λ lt. absurd (omega (arith, lt)), tt))));
    fails = λ m. let g : may ≡ true = m.1.1.0 (omega arith) in absurd (cc (f, g));
  }

  pub tokens_twice : list_all (share_fits P held copies) items.shares ≡ true → list_all (token_fits held) items.tokens ≡ false → FailsFirst 17 (header_premises P all may)
  tokens_twice s f = record {
    below = (λ lt. shares_covered s, (λ lt. absurd (omega (arith, lt)), (λ lt. absurd (omega (arith, lt)), (λ lt. absurd (omega (arith, lt)), tt))));
    fails = λ m. let g : list_all (token_fits held) items.tokens ≡ true = tokens_left (m.1.0 (omega arith)) in absurd (cc (f, g));
  }

  pub credits_over : list_all (share_fits P held copies) items.shares ≡ true → may ≡ true → list_all (token_fits held) items.tokens ≡ true → nat_le (held Credit + copies * items.credits) P.completion_entries ≡ false → FailsFirst 18 (header_premises P all may)
  credits_over s t u f = record {
    below = (λ lt. shares_covered s, (λ lt. tokens_covered t u, (λ lt. t, (λ lt. absurd (omega (arith, lt)), tt))));
    fails = λ m. absurd (omega (arith, leb-false (held Credit + copies * items.credits) P.completion_entries f, same Credit, m.1.1.1.0 (omega arith) Credit));
  }

  pub all_fit : list_all (share_fits P held copies) items.shares ≡ true → may ≡ true → list_all (token_fits held) items.tokens ≡ true → nat_le (held Credit + copies * items.credits) P.completion_entries ≡ true → Meets (header_premises P all may)
  all_fit s t u f = (shares_covered s, (tokens_covered t u, (t, (credits_covered f, tt))))
