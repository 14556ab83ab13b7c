-- A program that is refused is refused once, and not accepted.
use Rattle.std.proofs.Common.{◌≡◌, ℕ, zero, suc, ◌+◌, ◌≤◌, ◌⊎◌, inl, inr, true, List, [], ◌∷◌, length, take, Some, refl, sym, ap, ◌∙◌, arith}
use Rattle.std.specs.Prelude.{slice_get}
use Rattle.std.proofs.lemmas.Bool.{cases_lt}
use Rattle.std.proofs.lemmas.List.{take-take, take_all}
use Rattle.rc_lang.specs.declared.lines.Line.{Line}
use Rattle.rc_lang.specs.Program.{Program, Stock, Thread}
use Rattle.rc_split.specs.Bags.{Part, ShareOf, TokenOf, Credit, IsWithin, begun}
use Rattle.rc_rules.specs.Labellings.{IsGood, HasLabels, Passes, Accepts, IsRefused, IsRefusedAt, IsHeaderRefused, IsBodyRefused, IsPoolRefused, IsThreadRefused, credits_of, given_to_pools, header_asks, header_premises, headers_bag, label_at, pool_asks, shares_of, tokens_of}
use Rattle.rc_rules.specs.Premises.{Meets, MeetsBelow}
use Rattle.rc_rules.specs.Rules.{limit}
use Rattle.rc_rules.specs.Sides.{Sides}
use Rattle.rc_rules.proofs.Weaker.{below_fewer, meets_below}
use Rattle.rc_verify.proofs.Strongest.{get_front, good_at}

-- ---- a beginning of the lines

good_front : (P : Program) (thread : Thread) (lines : List Line) (n : ℕ) (ls : List Sides) → IsGood P thread lines ls → IsGood P thread (take n lines) ls
good_front P thread lines n ls g = record {
  begins = g.begins;
  each = λ j l is.
      let r = get_front lines n j l is in
      let a = g.each j l r.0 in
      good_at P thread (take n lines) (take j lines) ls (take (j + 1) ls) j (label_at ls (j + 1)) l.stmt (take-take j n lines (omega (arith, r.1))) refl (λ z. refl) a.meets a.after;
}

pub has_front : (P : Program) (thread : Thread) (lines : List Line) (m n : ℕ) → m ≤ n → HasLabels P thread (take n lines) → HasLabels P thread (take m lines)
has_front P thread lines m n le h = let g = good_front P thread (take n lines) m h.0 h.1 in (h.0, rw (take-take m n lines le) at g)

-- ---- one line and one cause

one_cause : (P : Program) (thread : Thread) (j : ℕ) (k l : Line) (v w : ℕ) → IsRefusedAt P thread j k v → IsRefusedAt P thread j l w → v ≤ w
one_cause P thread j k l v w a b = elim (cases_lt w v) [
  | inl lt ↦
      let z : k ≡ l = let e = a.line_is in let f = b.line_is in cc (e, f) in
      absurd (b.never_met a.met_below.0 a.met_below.1 (below_fewer (w + 1) v _ (omega (arith, lt)) (rw z at a.met_below.2)))
  | inr le ↦ le
]

least_place : (P : Program) (thread : Thread) (i j : ℕ) (k l : Line) (v w : ℕ) → IsRefusedAt P thread i k v → IsRefusedAt P thread j l w → j ≤ i
least_place P thread i j k l v w a b = elim (cases_lt i j) [
  | inl lt ↦ absurd (a.none_up_to (has_front P thread thread.lines (i + 1) j (omega (arith, lt)) b.good_before))
  | inr le ↦ le
]

one_header : (P : Program) (i v w : ℕ) → IsHeaderRefused P i v → IsHeaderRefused P i w → v ≤ w
one_header P i v w a b = elim (cases_lt w v) [
  | inl lt ↦ absurd (b.fails (below_fewer (w + 1) v (header_asks P i) (omega (arith, lt)) a.below))
  | inr le ↦ le
]

header_stands : (P : Program) (i v : ℕ) → Meets (header_asks P i) → IsHeaderRefused P i v → ⊥
header_stands P i v m a = a.fails (meets_below (v + 1) (header_asks P i) m)

one_body : (P : Program) (i m n v w : ℕ) (t : Thread) → IsBodyRefused P i t m v → IsBodyRefused P i t n w → (m ≡ n) × (v ≡ w)
one_body P i m n v w t a b =
    let le = least_place P t a.place b.place a.line b.line v w a.refused b.refused in
    let ge = least_place P t b.place a.place b.line a.line w v b.refused a.refused in
    let z : a.place ≡ b.place = omega (arith, le, ge) in
    let r = rw z at a.refused in
    let x = one_cause P t b.place a.line b.line v w r b.refused in
    let y = one_cause P t b.place b.line a.line w v b.refused r in
    let e = r.line_is in
    let f = b.refused.line_is in
    let l : a.line ≡ b.line = cc (e, f) in
    (sym a.number_is ∙ ap (λ (q : Line). q.number) l ∙ b.number_is, omega (arith, x, y))

one_at : (P : Program) (i m n v w : ℕ) (t : Thread) → (((t.line ≡ m) × IsHeaderRefused P i v) ⊎ IsBodyRefused P i t m v) → (((t.line ≡ n) × IsHeaderRefused P i w) ⊎ IsBodyRefused P i t n w) → (m ≡ n) × (v ≡ w)
one_at P i m n v w t (inl a) (inl b) = let x = one_header P i v w a.1 b.1 in let y = one_header P i w v b.1 a.1 in (sym a.0 ∙ b.0, omega (arith, x, y))
one_at P i m n v w t (inl a) (inr b) = absurd (header_stands P i v b.header a.1)
one_at P i m n v w t (inr a) (inl b) = absurd (header_stands P i w a.header b.1)
one_at P i m n v w t (inr a) (inr b) = one_body P i m n v w t a b

-- ---- a thread that passes isn't refused

passes_not : (P : Program) (i number v : ℕ) (t : Thread) → Passes P i t → (((t.line ≡ number) × IsHeaderRefused P i v) ⊎ IsBodyRefused P i t number v) → ⊥
passes_not P i number v t p (inl a) = header_stands P i v p.header a.1
passes_not P i number v t p (inr b) = b.refused.none_up_to (p.labels.0, good_front P t t.lines (b.place + 1) p.labels.0 p.labels.1)

first_index : (P : Program) (m n v w : ℕ) → (a : IsThreadRefused P m v) → (b : IsThreadRefused P n w) → b.index ≤ a.index
first_index P m n v w a b = elim (cases_lt a.index b.index) [
  | inl lt ↦ absurd (passes_not P a.index m v a.thread (b.earlier a.index a.thread lt a.thread_is) a.at)
  | inr le ↦ le
]

same_at : (P : Program) (i j m n v w : ℕ) (t u : Thread) → i ≡ j → slice_get P.threads i ≡ Some t → slice_get P.threads j ≡ Some u → (((t.line ≡ m) × IsHeaderRefused P i v) ⊎ IsBodyRefused P i t m v) → (((u.line ≡ n) × IsHeaderRefused P j w) ⊎ IsBodyRefused P j u n w) → (m ≡ n) × (v ≡ w)
same_at P i j m n v w t u e g h a b =
    let h' = rw (sym e) at h in
    let z : t ≡ u = cc (g, h') in
    one_at P j m n v w u (rw (e, z) at a) b

one_thread : (P : Program) (m n v w : ℕ) → IsThreadRefused P m v → IsThreadRefused P n w → (m ≡ n) × (v ≡ w)
one_thread P m n v w a b =
    let le = first_index P m n v w a b in
    let ge = first_index P n m w v b a in
    same_at P a.index b.index m n v w a.thread b.thread (omega (arith, le, ge)) a.thread_is b.thread_is a.at b.at

-- ---- the lines of pools

-- What gives less meets what gives more does.
less_asked : (P : Program) (a b : Part → ℕ) → IsWithin a b → Meets (header_premises P b true) → Meets (header_premises P a true)
less_asked P a b le m = (shares, (tokens, (refl, (credits, tt))))
  where
    shares : IsWithin (shares_of a) (limit P)
    shares (ShareOf x) = omega (arith, le (ShareOf x), m.0 (ShareOf x))
    shares (TokenOf u) = omega arith
    shares Credit = omega arith

    tokens : IsWithin (tokens_of a) (limit P)
    tokens (ShareOf x) = omega arith
    tokens (TokenOf u) = omega (arith, le (TokenOf u), m.1.0 (TokenOf u))
    tokens Credit = omega arith

    credits : IsWithin (credits_of a) (limit P)
    credits (ShareOf x) = omega arith
    credits (TokenOf u) = omega arith
    credits Credit = omega (arith, le Credit, m.1.1.1.0 Credit)

take_less : (ss : List Stock) (i j : ℕ) → i ≤ j → (p : Part) → headers_bag (begun (take i ss) []) p ≤ headers_bag (begun (take j ss) []) p
take_less ss zero j le p = omega arith
take_less ss (suc i) zero le p = absurd (omega (arith, le))
take_less [] (suc i) (suc j) le p = omega arith
take_less (s ∷ ss) (suc i) (suc j) le p = omega (arith, take_less ss i j (omega (arith, le)) p)

all_less : (P : Program) (i : ℕ) (p : Part) → given_to_pools P i p ≤ given_to_pools P (length P.stock) p
all_less P i p = elim (cases_lt i (length P.stock)) [
  | inl lt ↦ take_less P.stock i (length P.stock) (omega (arith, lt)) p
  | inr le ↦
      let here : given_to_pools P i p ≡ headers_bag (begun P.stock []) p = ap (λ ss. headers_bag (begun ss []) p) (take_all i P.stock le) in
      let there : given_to_pools P (length P.stock) p ≡ headers_bag (begun P.stock []) p = ap (λ ss. headers_bag (begun ss []) p) (take_all (length P.stock) P.stock (omega arith)) in
      omega (arith, here, there)
]

-- A line that is refused isn't above one that isn't, nor in a program whose lines of pools are all there.
pool_stands : (P : Program) (number v : ℕ) (all : Part → ℕ) (a : IsPoolRefused P number v) → IsWithin (given_to_pools P (a.index + 1)) all → Meets (header_premises P all true) → ⊥
pool_stands P number v all a le m = a.fails (meets_below (v + 1) (pool_asks P (a.index + 1)) (less_asked P (given_to_pools P (a.index + 1)) all le m))

not_pool : (P : Program) (number v : ℕ) → IsPoolRefused P number v → Meets (pool_asks P (length P.stock)) → ⊥
not_pool P number v a m = pool_stands P number v (given_to_pools P (length P.stock)) a (λ p. all_less P (a.index + 1) p) m

first_pool : (P : Program) (m n v w : ℕ) (a : IsPoolRefused P m v) (b : IsPoolRefused P n w) → b.index ≤ a.index
first_pool P m n v w a b = elim (cases_lt a.index b.index) [
  | inl lt ↦ absurd (pool_stands P m v (given_to_pools P b.index) a (take_less P.stock (a.index + 1) b.index (omega (arith, lt))) b.earlier)
  | inr le ↦ le
]

least_pool : (P : Program) (i v w : ℕ) → MeetsBelow v (pool_asks P (i + 1)) → (MeetsBelow (w + 1) (pool_asks P (i + 1)) → ⊥) → v ≤ w
least_pool P i v w below fails = elim (cases_lt w v) [
  | inl lt ↦ absurd (fails (below_fewer (w + 1) v (pool_asks P (i + 1)) (omega (arith, lt)) below))
  | inr le ↦ le
]

one_pool : (P : Program) (m n v w : ℕ) → IsPoolRefused P m v → IsPoolRefused P n w → (m ≡ n) × (v ≡ w)
one_pool P m n v w a b =
    let le = first_pool P m n v w a b in
    let ge = first_pool P n m w v b a in
    let z : a.index ≡ b.index = omega (arith, le, ge) in
    let is = rw z at a.stock_is in
    let there = b.stock_is in
    let same : a.stock ≡ b.stock = cc (is, there) in
    let x = least_pool P b.index v w (rw z at a.below) b.fails in
    let y = least_pool P b.index w v b.below (rw z at a.fails) in
    (sym a.number_is ∙ ap (λ (s : Stock). s.line) same ∙ b.number_is, omega (arith, x, y))

-- ---- programs

pub never_both : (P : Program) (number v : ℕ) → Accepts P → IsRefused P number v → ⊥
never_both P number v a (inl r) = not_pool P number v r a.pools
never_both P number v a (inr r) = passes_not P r.index number v r.thread (a.threads r.index r.thread r.thread_is) r.at

pub one_refusal : (P : Program) (m n v w : ℕ) → IsRefused P m v → IsRefused P n w → (m ≡ n) × (v ≡ w)
one_refusal P m n v w (inl a) (inl b) = one_pool P m n v w a b
one_refusal P m n v w (inl a) (inr b) = absurd (not_pool P m v a b.pools)
one_refusal P m n v w (inr a) (inl b) = absurd (not_pool P n w b a.pools)
one_refusal P m n v w (inr a) (inr b) = one_thread P m n v w a b
