-- Items of headers and loops can be held.
use Rattle.std.proofs.Common.{◌≡◌, ℕ, ◌≤◌, ◌<◌, ◌^◌, Bool, true, false, cond, nat_eq, List, ◌++◌, inl, inr, length, map, sum_by, count_by, sym, ap, subst, ◌∙◌, arith, get_or}
use Rattle.std.specs.Prelude.{All}
use Rattle.std.specs.List.{IsDistinct}
use Rattle.std.proofs.lemmas.List.Sums.{sum_by-append}
use Rattle.rc_lang.specs.declared.program.Share.{Share}
use Rattle.rc_lang.specs.Program.{Program, Items, besides}
use Rattle.rc_lang.specs.Kept.{IsItems, IsList}
use Rattle.rc_split.specs.Bags.{Part, ShareOf, TokenOf, Credit, bag_of, bag_on}
use Rattle.rc_split.specs.Holdings.{AreDeclared, AreDeclaredOn}
use Rattle.rc_split.proofs.Named.{no_share, share_named, token_named}
use Rattle.std.specs.Prelude.{Some, slice_get}
use Rattle.std.proofs.lemmas.List.{get_or-map, length-map}
use Rattle.std.proofs.lemmas.Option.{slice_get-get_or}
use Rattle.rc_lang.specs.Parts.{view_thread}
use Rattle.rc_lang.specs.declared.program.Thread.{Thread as ThreadPart}
use Rattle.rc_lang.specs.Program.{Thread}

pub names_declared : (P : Program) (items : Items) → IsItems P items → AreDeclared P items
names_declared P items h = record { buffers = h.buffers; tokens = h.tokens }

-- ---- each once

pub count_once : (u : ℕ) (xs : List ℕ) → IsDistinct nat_eq xs → count_by (λ v. nat_eq v u) xs ≤ 1
count_once u xs h = elim (token_named xs u h) [
  | inl n ↦ omega (arith, n)
  | inr s ↦ omega (arith, s.once)
]

pub few_of : (b : ℕ) (xs : List Share) → IsDistinct nat_eq (map (λ (s : Share). s.buffer) xs) → All (λ (s : Share). (1 ≤ s.count) × (s.count ≤ 16)) xs → sum_by (λ (s : Share). cond (nat_eq s.buffer b) s.count 0) xs ≤ 16
few_of b xs d h = elim (share_named xs b d) [
  | inl n ↦ omega (arith, n)
  | inr s ↦ let l : (1 ≤ (get_or xs s.place no_share).count) × ((get_or xs s.place no_share).count ≤ 16) = h s.place no_share s.within in omega (arith, s.count, l.1)
]

pub once : (P : Program) (items : Items) (u : ℕ) → IsItems P items → bag_of items (TokenOf u) ≤ 1
once P items u h = count_once u items.tokens h.distinct_tokens

pub few : (P : Program) (items : Items) (p : Part) → IsItems P items → bag_of items p ≤ 2048
few P items (ShareOf b) h = omega (arith, few_of b items.shares h.distinct_buffers h.counts)
few P items (TokenOf u) h = omega (arith, once P items u h)
few P items Credit h = h.credits

pub small : (P : Program) (items : Items) (p : Part) → IsItems P items → bag_of items p < 2 ^ 20
small P items p h = omega (arith, few P items p h)

-- ---- on both sides of a flag

pub declared_on : (P : Program) (items : Items) (z : Bool) → IsList P items → AreDeclaredOn P z items
declared_on P items true h = names_declared P items h.first
declared_on P items false h = (names_declared P items h.first, names_declared P (besides items) h.more)

pub once_on : (P : Program) (items : Items) (z : Bool) (u : ℕ) → IsList P items → bag_on z items (TokenOf u) ≤ 1
once_on P items true u h = once P items u h.first
once_on P items false u h = omega (arith, count_once u (items.tokens ++ items.more.tokens) h.apart, sum_by-append (λ v. cond (nat_eq v u) 1 0) items.tokens items.more.tokens)

pub small_on : (P : Program) (items : Items) (z : Bool) (p : Part) → IsList P items → bag_on z items p < 2 ^ 20
small_on P items true p h = small P items p h.first
small_on P items false p h = omega (arith, few P items p h.first, few P (besides items) p h.more)

-- ---- headers

-- the header of a thread
pub thread_at : (P : Program) (parts : List ThreadPart) (i : ℕ) (d : ThreadPart) → map view_thread parts ≡ P.threads → i < length P.threads → slice_get P.threads i ≡ Some (view_thread (get_or parts i d))
thread_at P parts i d e lt =
    let l : i < length (map view_thread parts) = subst (λ (ts : List Thread). i < length ts) (sym e) lt in
    let l' : i < length parts = subst (λ n. i < n) (length-map parts view_thread) l in
    subst (λ ts. slice_get ts i ≡ Some (view_thread (get_or parts i d))) e (slice_get-get_or (map view_thread parts) i (view_thread d) l ∙ ap Some (get_or-map view_thread parts i d (view_thread d) l'))
