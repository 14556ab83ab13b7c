-- The threads are judged in turn.
use Rattle.std.proofs.Common.{◌≡◌, ℕ, zero, suc, ◌+◌, ◌<◌, ◌≤◌, Bool, true, ◌||◌, List, [], length, drop, map, Option, Some, is_none, refl, sym, ap, ◌∙◌, subst, inl, inr, get_or, ◌⊎◌, arith}
use Rattle.std.specs.Prelude.{slice_get, slice_index_or}
use Rattle.std.proofs.lemmas.Bool.{cases_lt}
use Rattle.std.proofs.lemmas.List.{length-map, take_all}
use Rattle.std.proofs.lemmas.Option.{slice_get_cases}
use Rattle.rc_lang.specs.declared.program.Thread.{Thread as ThreadPart}
use Rattle.rc_lang.specs.declared.program.Stock.{Stock as StockPart}
use Rattle.rc_lang.specs.Parts.{view_stock, view_thread}
use Rattle.rc_lang.specs.Program.{Program, Stock, Thread, further_copies, line_end}
use Rattle.rc_lang.specs.Kept.{IsProgram}
use Rattle.rc_lang.proofs.Copies.{NextAt, next_at, one_end}
use Rattle.rc_split.specs.Bags.{Part, ShareOf, TokenOf, Credit, IsWithin, begun}
use Rattle.rc_rules.specs.Labellings.{Passes, given_to, given_to_pools, header_asks, header_premises, headers_bag, is_empty, may_hold, pool_asks, shares_of, tokens_of, credits_of, IsHeaderRefused, IsBodyRefused, IsPoolRefused, IsThreadRefused}
use Rattle.rc_rules.specs.Premises.{Meets, FailsFirst}
use Rattle.rc_rules.specs.Rules.{limit}
use Rattle.rc_rules.proofs.Copies.{labels_of_copy}
use Rattle.rc_rules.proofs.Headers.{thread_at}
use Rattle.rc_verify.proofs.Sums.{all_within, stock_at}

-- These threads all pass.
abbrev pub PassTo : Program → ℕ → Type 0
PassTo P i = (k : ℕ) (t : Thread) → k < i → slice_get P.threads k ≡ Some t → Passes P k t

-- Where no line gives anything its premises are met.
pub nothing_asked : (P : Program) → Meets (pool_asks P 0)
nothing_asked P = (shares, (tokens, (refl, (credits, tt))))
  where
    shares : IsWithin (shares_of (headers_bag [])) (limit P)
    shares (ShareOf b) = omega arith
    shares (TokenOf u) = omega arith
    shares Credit = omega arith

    tokens : IsWithin (tokens_of (headers_bag [])) (limit P)
    tokens (ShareOf b) = omega arith
    tokens (TokenOf u) = omega arith
    tokens Credit = omega arith

    credits : IsWithin (credits_of (headers_bag [])) (limit P)
    credits (ShareOf b) = omega arith
    credits (TokenOf u) = omega arith
    credits Credit = omega arith

-- The lines of pools give no more than there is.
pub pools_within : (P : Program) (n : ℕ) → Meets (pool_asks P n) → IsWithin (given_to_pools P n) (limit P)
pools_within P n m = all_within P (given_to_pools P n) true m

-- A thread that passes has all that is given up to the end of its line be no more than there is.
pub passed_within : (P : Program) (i : ℕ) → i < length P.threads → ((t : Thread) → slice_get P.threads i ≡ Some t → Passes P i t) → IsWithin (given_to P (line_end P.threads i)) (limit P)
passed_within P i lt h = elim (slice_get_cases P.threads i).1 [
  | inl f ↦ all_within P (given_to P (line_end P.threads i)) (may_hold (slice_get P.threads i)) (h f.0 f.2).header
  | inr f ↦ absurd (omega (arith, f.0, lt))
]

pub one_more : (P : Program) (i : ℕ) → PassTo P i → ((t : Thread) → slice_get P.threads i ≡ Some t → Passes P i t) → PassTo P (i + 1)
one_more P i h g k t lt e = elim (cases_lt k i) [
  | inl l ↦ h k t l e
  | inr l ↦ let z : k ≡ i = omega arith in rw z (g t (rw z at e))
]

-- The next copy passes where one does.
copy_passes : (P : Program) (k : ℕ) → (n : NextAt P k) → Passes P k n.earlier → Passes P (k + 1) n.later
copy_passes P k n h = record {
  header = subst (λ (b : Bool). Meets (header_premises P (given_to P (line_end P.threads (k + 1))) b)) alike (subst (λ j. Meets (header_premises P (given_to P j) (may_hold (slice_get P.threads k)))) (sym (one_end P k n)) h.header);
  labels = labels_of_copy P n.earlier n.later n.next.same h.labels;
}
  where
    own : may_hold (Some n.later) ≡ may_hold (Some n.earlier)
    own =
        ap (λ (copy : Option ℕ). is_none copy || is_empty n.later.items.tokens) n.next.has
        ∙ ap (λ (t : Thread). is_empty t.items.tokens) n.next.same
        ∙ sym (ap (λ (copy : Option ℕ). is_none copy || is_empty n.earlier.items.tokens) n.next.after)

    alike : may_hold (slice_get P.threads k) ≡ may_hold (slice_get P.threads (k + 1))
    alike = ap may_hold n.first ∙ sym own ∙ sym (ap may_hold n.second)

-- All threads of a line pass where its first does.
copies_pass : (P : Program) → IsProgram P → (i : ℕ) → PassTo P (i + 1) → (m : ℕ) → m ≤ further_copies (drop (i + 1) P.threads) → PassTo P (i + 1 + m)
copies_pass P made i h zero le = let place : i + 1 ≡ i + 1 + 0 = omega arith in subst (PassTo P) place h
copies_pass P made i h (suc m) le =
    let behind : i + 1 + m ≡ i + m + 1 = omega arith in
    let g = subst (PassTo P) behind (copies_pass P made i h m (omega (arith, le))) in
    let n = next_at P made i m (omega (arith, le)) in
    let place : i + 1 + suc m ≡ i + m + 1 + 1 = omega arith in
    subst (PassTo P) (sym place) (one_more P (i + m + 1) g (λ t e.
    let second = n.second in
    let one : n.later ≡ t = cc (e, second) in
    subst (Passes P (i + m + 1)) one (copy_passes P (i + m) n (g (i + m) n.earlier (omega arith) n.first))))

pub line_passes : (P : Program) → IsProgram P → (i : ℕ) → PassTo P i → ((t : Thread) → slice_get P.threads i ≡ Some t → Passes P i t) → PassTo P (line_end P.threads i)
line_passes P made i h g = copies_pass P made i (one_more P i h g) (further_copies (drop (i + 1) P.threads)) (omega arith)

pub header_refused : (P : Program) (parts : List ThreadPart) (i v : ℕ) (d : ThreadPart) (t : Thread) → map view_thread parts ≡ P.threads → i < length P.threads → slice_get P.threads i ≡ Some t → FailsFirst v (header_asks P i) → ((t.line ≡ (slice_index_or parts i d).line) × IsHeaderRefused P i v) ⊎ IsBodyRefused P i t (slice_index_or parts i d).line v
header_refused P parts i v d t e lt at f =
    let s : slice_get P.threads i ≡ Some (view_thread (slice_index_or parts i d)) = thread_at P parts i d e lt in
    let z : t ≡ view_thread (slice_index_or parts i d) = cc (at, s) in
    inl (ap (λ (x : Thread). x.line) z, record { below = f.below; fails = f.fails })

pub refused_at : (P : Program) (i number v : ℕ) → i < length P.threads → Meets (pool_asks P (length P.stock)) → PassTo P i → ((t : Thread) → slice_get P.threads i ≡ Some t → ((t.line ≡ number) × IsHeaderRefused P i v) ⊎ IsBodyRefused P i t number v) → IsThreadRefused P number v
refused_at P i number v lt pools h g = elim (slice_get_cases P.threads i).1 [
  | inl f ↦ record { pools = pools; index = i; thread = f.0; thread_is = f.2; earlier = h; at = g f.0 f.2 }
  | inr f ↦ absurd (omega (arith, f.0, lt))
]

-- ---- the lines of pools

pub pool_refused : (P : Program) (parts : List StockPart) (i v : ℕ) (d : StockPart) → map view_stock parts ≡ P.stock → i < length P.stock → Meets (pool_asks P i) → FailsFirst v (pool_asks P (i + 1)) → IsPoolRefused P (get_or parts i d).line v
pool_refused P parts i v d e lt earlier f = record { index = i; stock = view_stock (get_or parts i d); stock_is = stock_at P parts i d e lt; number_is = refl; earlier = earlier; below = f.below; fails = f.fails }

-- All of them were judged.
pub all_pools : (P : Program) (n : ℕ) → length P.stock ≤ n → (p : Part) → given_to_pools P n p ≡ given_to P 0 p
all_pools P n le p = ap (λ ss. headers_bag (begun ss []) p) (take_all n P.stock le)

pub pools_met : (P : Program) (n : ℕ) → n ≡ length P.stock → Meets (pool_asks P n) → Meets (pool_asks P (length P.stock))
pools_met P n e m = subst (λ k. Meets (pool_asks P k)) e m

pub begins_within : (P : Program) → Meets (pool_asks P (length P.stock)) → IsWithin (given_to P 0) (limit P)
begins_within P m p = omega (arith, all_pools P (length P.stock) (omega arith) p, pools_within P (length P.stock) m p)

pub stock_length : (P : Program) (parts : List StockPart) → map view_stock parts ≡ P.stock → length parts ≡ length P.stock
stock_length P parts e = sym (length-map parts view_stock) ∙ ap (λ (ss : List Stock). length ss) e

-- as many as are kept
pub parts_length : (P : Program) (parts : List ThreadPart) → map view_thread parts ≡ P.threads → length parts ≡ length P.threads
parts_length P parts e = sym (length-map parts view_thread) ∙ ap (λ (ts : List Thread). length ts) e
