-- The start world has what is true of each world.
use Rattle.std.proofs.Common.{◌≡◌, ℕ, zero, suc, ◌+◌, ◌≤◌, List, [], ◌∷◌, length, map, Option, Some, None, refl, sym, ap, ◌∙◌, subst, arith}
use Rattle.std.specs.Prelude.{fold, replicate, slice_get, ℤ, pos}
use Rattle.rc_lang.specs.Program.{Program, Stock, Thread}
use Rattle.rc_rules.specs.declared.mode.Mode.{Mode}
use Rattle.rc_rules.specs.Labels.{UnderLock, WeakerMode, WeakerPeeked, WeakerSubmitting}
use Rattle.rc_rules.specs.Labellings.{headers_bag}
use Rattle.rc_rules.specs.Rules.{limit, unlocked}
use Rattle.rc_split.specs.Bags.{Part, bag_of, begun}
use Rattle.rc_split.specs.Pools.{Pools, all_pooled, empty_pools, put_into, start_pools}
use Rattle.rc_split.proofs.AllPools.{all_with, none_pooled}
use Rattle.rc_world.specs.Controls.{Standing}
use Rattle.rc_world.specs.Machine.{start_world}
use Rattle.rc_admit.proofs.Lists.{sum_to}
use Rattle.rc_admit.proofs.Owned.{Stand, HasStart, WellOwned}

none_below : {A : Type 0} (F : A → A → Type 0) (o : Option A) → UnderLock F o None → o ≡ None
none_below F None w = refl
none_below F (Some s) w = absurd w

unlocked_below : (m : Mode) → WeakerMode m unlocked → m ≡ unlocked
unlocked_below m w = ap (λ x. record m { sq = x }) (none_below WeakerSubmitting m.sq w.0) ∙ ap (λ x. record unlocked { cq = x }) (none_below WeakerPeeked m.cq w.1)

abbrev zeros : List ℤ
zeros = replicate 64 (pos 0)

abbrev first_standing : Thread → Standing
first_standing t = record { place = 0; variables = zeros }

-- what a header says that its thread holds
abbrev bag_in : Option Thread → Part → ℕ
bag_in None p = 0
bag_in (Some t) p = bag_of t.items p

-- ---- sums over headers

sum_to_most : (f g : ℕ → ℕ) (n : ℕ) → ((j : ℕ) → f j ≤ g j) → sum_to f n ≤ sum_to g n
sum_to_most f g zero h = omega arith
sum_to_most f g (suc n) h =
    let a : sum_to f n ≤ sum_to g n = sum_to_most f g n h in
    let b : f n ≤ g n = h n in
    omega arith

sum_front : (t : Thread) (ts : List Thread) (p : Part) (n : ℕ) → sum_to (λ i. bag_in (slice_get (t ∷ ts) i) p) (suc n) ≡ bag_of t.items p + sum_to (λ i. bag_in (slice_get ts i) p) n
sum_front t ts p zero = omega arith
sum_front t ts p (suc n) = let e : sum_to (λ i. bag_in (slice_get (t ∷ ts) i) p) (suc n) ≡ bag_of t.items p + sum_to (λ i. bag_in (slice_get ts i) p) n = sum_front t ts p n in omega arith

sum_headers : (ts : List Thread) (p : Part) → sum_to (λ i. bag_in (slice_get ts i) p) (length (map first_standing ts)) ≡ headers_bag (begun [] ts) p
sum_headers [] p = refl
sum_headers (t ∷ ts) p =
    let a : sum_to (λ i. bag_in (slice_get (t ∷ ts) i) p) (suc (length (map first_standing ts))) ≡ bag_of t.items p + sum_to (λ i. bag_in (slice_get ts i) p) (length (map first_standing ts)) = sum_front t ts p (length (map first_standing ts)) in
    let c : sum_to (λ i. bag_in (slice_get ts i) p) (length (map first_standing ts)) ≡ headers_bag (begun [] ts) p = sum_headers ts p in
    omega (arith, a)

-- ---- pools

both_begun : (ss : List Stock) (ts : List Thread) (p : Part) → headers_bag (begun ss []) p + headers_bag (begun [] ts) p ≡ headers_bag (begun ss ts) p
both_begun [] ts p = omega arith
both_begun (s ∷ ss) ts p = omega (arith, both_begun ss ts p)

stocked : (P : Program) (ss : List Stock) (pools : Pools) (p : Part) → all_pooled P (fold (λ (ps : Pools) (s : Stock). put_into P s.pool s.items ps) pools ss) p ≤ all_pooled P pools p + headers_bag (begun ss []) p
stocked P [] pools p = omega arith
stocked P (s ∷ ss) pools p =
    let next : Pools = put_into P s.pool s.items pools in
    let rest : all_pooled P (fold (λ (ps : Pools) (s : Stock). put_into P s.pool s.items ps) next ss) p ≤ all_pooled P next p + headers_bag (begun ss []) p = stocked P ss next p in
    omega (arith, rest, all_with P pools s.pool s.items p)

-- Pools begin with no more than their lines say.
start_pooled : (P : Program) (p : Part) → all_pooled P (start_pools P) p ≤ headers_bag (begun P.stock []) p
start_pooled P p =
    let all : all_pooled P (start_pools P) p ≤ all_pooled P (empty_pools P) p + headers_bag (begun P.stock []) p = stocked P P.stock (empty_pools P) p in
    omega (arith, all, none_pooled P p)

-- a thread of the start world, and its header
first_at : (ts : List Thread) (i : ℕ) (th : Standing) → slice_get (map first_standing ts) i ≡ Some th → (t : Thread) × (slice_get ts i ≡ Some t) × (th ≡ first_standing t)
first_at [] i th e = absurd (cc)
first_at (t ∷ ts) zero th e = (t, refl, cc)
first_at (t ∷ ts) (suc i) th e = first_at ts i th e

module _ (P : Program) (S : Stand) (start : HasStart P S) where
  -- what a thread begins with
  first_bag : (i : ℕ) (x : Option Thread) → slice_get P.threads i ≡ x → Part → ℕ
  first_bag i None e p = 0
  first_bag i (Some t) e p = (start i t e).bag p

  first_most : (i : ℕ) (x : Option Thread) (e : slice_get P.threads i ≡ x) (p : Part) → first_bag i x e p ≤ bag_in x p
  unfolding first_bag
  first_most i None e p = omega arith
  first_most i (Some t) e p = (start i t e).less p

  first_stands : (i : ℕ) (x : Option Thread) (e : slice_get P.threads i ≡ x) (t : Thread) → x ≡ Some t → S i (first_bag i x e) unlocked zeros 0
  unfolding first_bag
  first_stands i None e t h = absurd (cc)
  first_stands i (Some u) e t h = let l = start i u e in subst (λ m. S i l.bag m zeros 0) (unlocked_below l.mode l.weaker) l.stands

  pub start_has : ((p : Part) → headers_bag (begun P.stock P.threads) p ≤ limit P p) → WellOwned P S (start_world P)
  start_has within = (
    λ i. first_bag i (slice_get P.threads i) refl,
    λ i. unlocked,
    record {
      of = refl;
      room = omega arith;
      stands = λ i th e.
          let f = first_at P.threads i th e in
          subst (λ (t : Standing). S i (first_bag i (slice_get P.threads i) refl) unlocked t.variables t.place) (sym f.2) (first_stands i (slice_get P.threads i) refl f.0 f.1);
      total = λ p.
          let f : ℕ → ℕ = λ i. first_bag i (slice_get P.threads i) refl p + 0 in
          let g : ℕ → ℕ = λ i. bag_in (slice_get P.threads i) p in
          let n : ℕ = length (map first_standing P.threads) in
          let x : sum_to f n ≤ sum_to g n = sum_to_most f g n (λ j. let h : first_bag j (slice_get P.threads j) refl p ≤ bag_in (slice_get P.threads j) p = first_most j (slice_get P.threads j) refl p in omega arith) in
          let y : sum_to g n ≡ headers_bag (begun [] P.threads) p = sum_headers P.threads p in
          omega (arith, x, y, start_pooled P p, both_begun P.stock P.threads p);
      within = within;
      free = λ n. (omega arith, refl);
      idle = λ n. refl;
      submits = λ i. tt;
      reaps = λ i. tt;
      queued = tt;
      pending = tt;
      completed = tt;
      agree = refl;
    },
  )
