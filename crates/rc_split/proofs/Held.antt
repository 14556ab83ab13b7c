-- Items that are given one by one.
use Rattle.std.proofs.Common.{◌≡◌, ℕ, ◌+◌, ◌<◌, ◌≤◌, Bool, true, false, List, length, take, get_or, subst, sym, arith}
use Rattle.rc_lang.specs.declared.program.Share.{Share}
use Rattle.rc_lang.specs.Program.{Program, Items}
use Rattle.rc_split.specs.Bags.{Part, TokenOf, bag_of, bag_on, parts, tokens_alone}
use Rattle.rc_split.specs.Holdings.{AreDeclared, AreDeclaredOn}
use Rattle.rc_split.proofs.Turns.{itself, same_parts, tokens_more_le}

pub declared : (P Q : Program) (items : Items) (z : Bool) (ss : List Share) (ts : List ℕ) → Q ≡ P → ss ≡ items.shares → ts ≡ items.tokens → AreDeclaredOn P z items → AreDeclared Q (parts ss ts items.credits)
declared P Q items z ss ts e f g h = subst (λ R. AreDeclared R (parts ss ts items.credits)) (sym e) (subst (λ x. AreDeclared P (parts x ts items.credits)) (sym f) (subst (λ x. AreDeclared P (parts items.shares x items.credits)) (sym g) (go z h)))
  where
    go : (z : Bool) → AreDeclaredOn P z items → AreDeclared P (parts items.shares items.tokens items.credits)
    go true h = record { buffers = h.buffers; tokens = h.tokens }
    go false h = record { buffers = h.0.buffers; tokens = h.0.tokens }

first_within : (items : Items) (z : Bool) (p : Part) → bag_of items p ≤ bag_on z items p
first_within items true p = omega arith
first_within items false p = omega arith

-- what is given to nothing first, and then besides, is no more than both lists say
pub first_few : (items : Items) (z : Bool) (ss : List Share) (ts : List ℕ) (a : Part → ℕ) (p : Part) (n : ℕ) → ss ≡ items.shares → ts ≡ items.tokens → a p ≡ 0 → bag_on z items p ≤ n → a p + bag_of (parts ss ts items.credits) p ≤ n
first_few items z ss ts a p n e f q h = rw (e, f) (omega (arith, same_parts items p, first_within items z p, q, h))

pub both_few : (items : Items) (z : Bool) (ss us : List Share) (ts vs : List ℕ) (a b : Part → ℕ) (p : Part) (n : ℕ) → z ≡ false → ss ≡ items.shares → ts ≡ items.tokens → us ≡ items.more.shares → vs ≡ items.more.tokens → a p ≡ 0 → b p ≡ a p + bag_of (parts ss ts items.credits) p → bag_on z items p ≤ n → b p + bag_of (parts us vs items.more.credits) p ≤ n
both_few items true ss us ts vs a b p n y e f g k q r h = absurd cc
both_few items false ss us ts vs a b p n y e f g k q r h =
    let r' : b p ≡ a p + bag_of (parts items.shares items.tokens items.credits) p = rw (← e, ← f) r in
    rw (g, k) (omega (arith, same_parts items p, q, r', h))

-- a token that is once is given once
pub not_yet : (xs : List ℕ) (i : ℕ) (a b : Part → ℕ) → i < length xs → ((p : Part) → b p ≡ a p + bag_of (tokens_alone (take i xs)) p) → ((u : ℕ) → a (TokenOf u) + bag_of (tokens_alone xs) (TokenOf u) ≤ 1) → b (TokenOf (get_or xs i 0)) ≡ 0
not_yet xs i a b lt h s =
    let u = get_or xs i 0 in
    omega (arith, h (TokenOf u), s u, tokens_more_le xs i (TokenOf u) lt, itself u 1)
