-- The threads of an accepted program start as their labellings say, and hold together no more than there is.
use Rattle.std.proofs.Common.{◌≡◌, ℕ, suc, ◌<◌, ◌≤◌, Bool, true, List, [], ◌∷◌, length, take_all, Option, Some, None, refl, sym, ap, ◌∙◌, subst, arith}
use Rattle.std.specs.Prelude.{ℤ, pos, IfSome, replicate, slice_get}
use Rattle.std.specs.Ordering.{int_eq}
use Rattle.std.proofs.lemmas.List.{get_or-replicate, length-replicate}
use Rattle.rc_lang.specs.Program.{Program, Thread, line_end, lines_in, lines_of, lists_in}
use Rattle.rc_lang.specs.Kept.{IsProgram}
use Rattle.rc_rules.specs.Labels.{Live, Weaker}
use Rattle.rc_rules.specs.Sides.{on}
use Rattle.rc_rules.specs.Labellings.{Accepts, IsGood, given_to_pools, header_premises, may_hold, headers_bag, label_at, start_of}
use Rattle.rc_rules.specs.Premises.{Meets}
use Rattle.rc_rules.specs.Rules.{limit, unlocked}
use Rattle.rc_split.specs.Bags.{Part, ShareOf, TokenOf, Credit, bag_of, begun}
use Rattle.rc_rules.proofs.Weaker.{same_below}
use Rattle.rc_admit.proofs.Flat.{lead}
use Rattle.rc_admit.proofs.FlatPlaces.{Labelled}
use Rattle.rc_admit.proofs.Owned.{HasStart}
use Rattle.rc_admit.proofs.Sides.{IsStored, side_of}

-- the variables of a thread as it begins
abbrev zeros : List ℤ
zeros = replicate 64 (pos 0)

-- At the start the flag is 0.
side_zero : (flag : Option ℕ) → IsStored flag zeros → side_of flag zeros ≡ true
side_zero None h = refl
side_zero (Some f) h = let h' : f < length zeros = h in let l : length zeros ≡ 64 = length-replicate 64 (pos 0) in ap (λ n. int_eq n (pos 0)) (get_or-replicate 64 f (pos 0) (pos 0) (omega arith))

flag_stored : (flag : Option ℕ) (variables : ℕ) → IfSome flag (λ x. x < variables) → variables ≤ 64 → IsStored flag zeros
flag_stored None variables h few = tt
flag_stored (Some f) variables h few = let h' : f < variables = h in let l : length zeros ≡ 64 = length-replicate 64 (pos 0) in omega arith

-- Each thread starts at its first place, which has the label of its header's items.
pub labelled_start : (P : Program) → IsProgram P → Accepts P → HasStart P (Labelled P)
labelled_start P made accepts i t e =
    let h = (accepts.threads i t e).labels in
    let good : IsGood P t (lines_of P i) h.0 = subst (λ x. IsGood P t x h.0) (sym (ap lines_in e)) h.1 in
    let it = made.each i t e in
    let stored = flag_stored t.flag (length t.variables) it.flag.variable it.few_variables in
    lead P made i t h.0 (ap lists_in e) good (bag_of t.items) unlocked zeros 0 [] refl refl stored tt (subst (λ z. Weaker (label_at h.0 0 z) (Live (bag_of t.items) unlocked)) (sym (side_zero t.flag stored)) (same_below (label_at h.0 0 true) (on true (start_of t)) (h.1.begins true)))

last : {A : Type 0} (x : A) (xs : List A) → (y : A) × (slice_get (x ∷ xs) (length xs) ≡ Some y)
last x [] = (x, refl)
last x (y ∷ xs) = last y xs

within : (P : Program) (all : Part → ℕ) (alone : Bool) → Meets (header_premises P all alone) → (p : Part) → all p ≤ limit P p
within P all alone h (ShareOf b) = h.0 (ShareOf b)
within P all alone h (TokenOf u) = h.1.0 (TokenOf u)
within P all alone h Credit = h.1.1.1.0 Credit

-- Pools and headers give together no more than there is: the last header's premises are of all of them.
pub headers_within : (P : Program) → Accepts P → (p : Part) → headers_bag (begun P.stock P.threads) p ≤ limit P p
headers_within P accepts = go P.threads refl
  where
    go : (ts : List Thread) → P.threads ≡ ts → (p : Part) → headers_bag (begun P.stock P.threads) p ≤ limit P p
    go [] e p =
        let pools : headers_bag (begun P.stock P.threads) p ≡ given_to_pools P (length P.stock) p = ap (λ xs. headers_bag (begun P.stock xs) p) e ∙ sym (ap (λ ss. headers_bag (begun ss []) p) (take_all (length P.stock) P.stock (omega arith))) in
        omega (arith, pools, within P (given_to_pools P (length P.stock)) true accepts.pools p)
    go (t ∷ ts) e p =
        let l = last t ts in
        let h = (accepts.threads (length ts) l.0 (ap (λ xs. slice_get xs (length ts)) e ∙ l.1)).header in
        let n : length P.threads ≡ suc (length ts) = ap length e in
        let alone = may_hold (slice_get P.threads (length ts)) in
        within P (headers_bag (begun P.stock P.threads)) alone (subst (λ xs. Meets (header_premises P (headers_bag (begun P.stock xs)) alone)) (take_all (line_end P.threads (length ts)) P.threads (omega arith)) h) p
