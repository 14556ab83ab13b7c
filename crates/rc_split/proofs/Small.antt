-- Counts stay small where their sums are.
use Rattle.std.proofs.Common.{◌≡◌, ℕ, ◌+◌, ◌^◌, ◌<◌, true, List, cond, nat_eq, slice_index, refl, arith}
use Rattle.std.proofs.lemmas.Bool.{eq-eqb}
use Rattle.rc_split.specs.declared.part.Part.{Part as Given}
use Rattle.rc_split.specs.declared.part.Part.TheVariants.{Shares, Credits}
use Rattle.rc_split.specs.Bags.{Part, ShareOf, Credit, plus}
use Rattle.rc_split.specs.Holdings.{Holding, IsSound, bag, given_bag}

sums : (v h : Holding) (part x : Given) → v ≡ h → part ≡ x → ((p : Part) → plus (bag h) (given_bag part) p < 2 ^ 20) → (p : Part) → bag v p + given_bag x p < 2 ^ 20
sums v h part x e q s p = let f : bag h p + given_bag part p < 2 ^ 20 = s p in rw (e, ← q) f

pub share_small : (v h : Holding) (part : Given) (b k : ℕ) → v ≡ h → part ≡ Shares b k → ((p : Part) → plus (bag h) (given_bag part) p < 2 ^ 20) → slice_index v.shares b + k < 2 ^ 20
share_small v h part b k e q s =
    let f : slice_index v.shares b + cond (nat_eq b b) k 0 < 2 ^ 20 = sums v h part (Shares b k) e q s (ShareOf b) in
    let g : nat_eq b b ≡ true = eq-eqb b b refl in
    rw g at f

pub shares_sound : (v h : Holding) (part : Given) (b k : ℕ) (new : List ℕ) → v ≡ h → part ≡ Shares b k → ((p : Part) → plus (bag h) (given_bag part) p < 2 ^ 20) → IsSound v → ((c : ℕ) → slice_index new c ≡ slice_index v.shares c + cond (nat_eq b c) k 0) → IsSound (record v { shares = new })
shares_sound v h part b k new e q s i n = record { made = i.made; shares = λ c. omega (arith, n c, sums v h part (Shares b k) e q s (ShareOf c)); credits = i.credits }

pub credits_small : (v h : Holding) (part : Given) (n : ℕ) → v ≡ h → part ≡ Credits n → ((p : Part) → plus (bag h) (given_bag part) p < 2 ^ 20) → v.credits + n < 2 ^ 20
credits_small v h part n e q s = sums v h part (Credits n) e q s Credit
