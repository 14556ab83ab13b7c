-- The first of the faults of a world is the least.
use Rattle.std.proofs.Common.{◌≡◌, ℕ, zero, suc, ◌+◌, ◌<◌, ◌≤◌, Bool, true, false, if◌then◌else◌, List, [], ◌∷◌, ◌++◌, Option, Some, None, refl, sym, ap, ◌∙◌, subst, slice_get, eq-or-lt_of_le, ◌⊎◌, inl, inr, arith}
use Rattle.std.proofs.lemmas.Option.{same_Some}
use Rattle.rc_lang.specs.declared.lines.Line.{Line}
use Rattle.rc_world.specs.declared.fault.Fault.{Fault}
use Rattle.rc_world.specs.declared.fault.FaultKind.{FaultKind}
use Rattle.rc_world.specs.declared.fault.Party.{Party}
use Rattle.rc_world.specs.declared.fault.Party.TheVariants.{At, InKernel}
use Rattle.rc_world.specs.FaultNames.{number_of_fault}
use Rattle.rc_world.specs.Controls.{Standing, next_line}
use Rattle.rc_world.specs.Faults.{all_kinds, fault_at, fault_of, faults_by, faults_from, faults_of, has_fault, in_kernel, kernel_faults}
use Rattle.rc_world.specs.LeastFault.{IsFault, IsFaultAt, IsLeastFault, IsNotAfter, FaultsAreLeast, thread_of}
use Rattle.rc_world.specs.Machine.{World}
use Rattle.rc_world.proofs.LawFaultless.{none_at, none_here, none_if, none_in_kernel, none_of_kind, place_in_all}

first_of : {A : Type 0} (xs ys : List A) (x : A) → slice_get (xs ++ ys) 0 ≡ Some x → (slice_get xs 0 ≡ Some x) ⊎ ((xs ≡ []) × (slice_get ys 0 ≡ Some x))
first_of [] ys x e = inr (refl, e)
first_of (y ∷ xs) ys x e = inl e

first_if : {A : Type 0} (b : Bool) (y x : A) → slice_get (if b then y ∷ [] else []) 0 ≡ Some x → (b ≡ true) × (y ≡ x)
first_if true y x e = (refl, same_Some y x e)
first_if false y x e = absurd (cc)

-- ---- no fault of a kind

none_of : (w : World) (kind : FaultKind) (p : Party) → faults_of w kind ≡ [] → IsFaultAt w kind p → ⊥
none_of w kind InKernel e h = let d = none_in_kernel w kind e in absurd (cc)
none_of w kind (At i n) e h = let d = none_at w kind e i h.0 h.1 in absurd (cc (d, h.3))

-- ---- the first fault of a kind

-- The fault is at a thread, from thread j on the first of its kind.
record IsFirstFrom (w : World) (kind : FaultKind) (j : ℕ) (f : Fault) : Type 0 where
  thread : ℕ
  line : Line
  stands : next_line w.program w.controls thread ≡ Some line
  has : has_fault w kind thread line.stmt ≡ true
  same : record { kind = kind; party = At thread line.number } ≡ f
  before : (k : ℕ) → j ≤ k → k < thread → fault_at w kind k (next_line w.program w.controls k) ≡ []

first_here : (w : World) (kind : FaultKind) (j : ℕ) (f : Fault) (l : Option Line) → next_line w.program w.controls j ≡ l → slice_get (fault_at w kind j l) 0 ≡ Some f → IsFirstFrom w kind j f
first_here w kind j f None n e = absurd (cc)
first_here w kind j f (Some l) n e =
    let h = first_if (has_fault w kind j l.stmt) (record { kind = kind; party = At j l.number }) f e in
    record { thread = j; line = l; stands = n; has = h.0; same = h.1; before = λ k le lt. absurd (omega arith) }

first_from : (w : World) (kind : FaultKind) (j : ℕ) (ts : List Standing) (f : Fault) → slice_get (faults_from w kind j ts) 0 ≡ Some f → IsFirstFrom w kind j f
first_from w kind j [] f e = absurd (cc)
first_from w kind j (t ∷ ts) f e = elim (first_of (fault_at w kind j (next_line w.program w.controls j)) _ f e) [
  | inl h ↦ first_here w kind j f (next_line w.program w.controls j) refl h
  | inr h ↦
      let z = first_from w kind (j + 1) ts f h.1 in
      record { thread = z.thread; line = z.line; stands = z.stands; has = z.has; same = z.same; before = λ k le lt. or_later z.thread k (z.before k) h.0 le lt }
]
  where
    or_later : (i k : ℕ) → (j + 1 ≤ k → k < i → fault_at w kind k (next_line w.program w.controls k) ≡ []) → fault_at w kind j (next_line w.program w.controls j) ≡ [] → j ≤ k → k < i → fault_at w kind k (next_line w.program w.controls k) ≡ []
    or_later i k later here le lt = elim (eq-or-lt_of_le le) [
      | inl q ↦ subst (λ n. fault_at w kind n (next_line w.program w.controls n) ≡ []) q here
      | inr q ↦ later (omega arith) lt
    ]

-- The fault is one of the world's, of this kind, and the least of its kind.
record IsFirst (w : World) (kind : FaultKind) (f : Fault) : Type 0 where
  same : f.kind ≡ kind
  there : IsFault w f
  least : (p : Party) → IsFaultAt w kind p → thread_of f.party ≤ thread_of p

first_of_threads : (w : World) (kind : FaultKind) (f : Fault) → kernel_faults w kind ≡ [] → slice_get (faults_from w kind 0 w.controls.threads) 0 ≡ Some f → IsFirst w kind f
first_of_threads w kind f none e =
    let z = first_from w kind 0 w.controls.threads f e in
    subst (λ x. IsFirst w kind x) z.same (record { same = refl; there = (z.line, z.stands, refl, z.has); least = λ p h. at_least z p h })
  where
    not_before : (i k : ℕ) → (k < i → ⊥) → i ≤ k
    not_before i k h = omega arith

    at_least : (z : IsFirstFrom w kind 0 f) (p : Party) → IsFaultAt w kind p → z.thread ≤ thread_of p
    at_least z InKernel h = let d = none_if (in_kernel w kind) _ none in absurd (cc (d, h))
    at_least z (At k n) h = not_before z.thread k (λ lt.
        let d = none_here w kind k h.0 (sym (ap (fault_at w kind k) h.1) ∙ z.before k (omega arith) lt) in
        absurd (cc (d, h.3)))

first_of_kind : (w : World) (kind : FaultKind) (f : Fault) → slice_get (faults_of w kind) 0 ≡ Some f → IsFirst w kind f
first_of_kind w kind f e = elim (first_of (kernel_faults w kind) (faults_from w kind 0 w.controls.threads) f e) [
  | inl h ↦
      let k = first_if (in_kernel w kind) (record { kind = kind; party = InKernel }) f h in
      subst (λ x. IsFirst w kind x) k.1 (record { same = refl; there = k.0; least = λ p q. omega arith })
  | inr h ↦ first_of_threads w kind f h.0 h.1
]

-- ---- the first of all

-- The numbers of these kinds go up from n on.
abbrev CountUp : ℕ → List FaultKind → Type 0
CountUp n [] = Unit {0}
CountUp n (kind ∷ kinds) = (number_of_fault kind ≡ n) × CountUp (n + 1) kinds

counted : (n : ℕ) (kinds : List FaultKind) → CountUp n kinds → (m : ℕ) (kind : FaultKind) → slice_get kinds m ≡ Some kind → number_of_fault kind ≡ n + m
counted n [] c m kind e = absurd (cc)
counted n (k ∷ kinds) c zero kind e = let h = ap number_of_fault (same_Some k kind e) in let q : number_of_fault k ≡ n = c.0 in omega (arith, h)
counted n (k ∷ kinds) c (suc m) kind e = let h : number_of_fault kind ≡ n + 1 + m = counted (n + 1) kinds c.1 m kind e in omega arith

-- The fault is the first of its kind, and the world has none of an earlier one of these.
record IsChosen (w : World) (kinds : List FaultKind) (f : Fault) : Type 0 where
  kind : FaultKind
  first : slice_get (faults_of w kind) 0 ≡ Some f
  least : (m : ℕ) (other : FaultKind) → slice_get kinds m ≡ Some other → (faults_of w other ≡ [] → ⊥) → number_of_fault kind ≤ number_of_fault other

chosen : (w : World) (n : ℕ) (kinds : List FaultKind) (f : Fault) → CountUp n kinds → slice_get (faults_by w kinds) 0 ≡ Some f → IsChosen w kinds f
chosen w n [] f c e = absurd (cc)
chosen w n (k ∷ kinds) f c e = elim (first_of (faults_of w k) (faults_by w kinds) f e) [
  | inl h ↦ record { kind = k; first = h; least = λ m other q some. after (number_of_fault k) m (number_of_fault other) c.0 (counted n (k ∷ kinds) c m other q) }
  | inr h ↦ let z = chosen w (n + 1) kinds f c.1 h.1 in record { kind = z.kind; first = z.first; least = λ m other q some. later z h.0 m other q some }
]
  where
    after : (x m y : ℕ) → x ≡ n → y ≡ n + m → x ≤ y
    after x m y p q = omega arith

    later : (z : IsChosen w kinds f) → faults_of w k ≡ [] → (m : ℕ) (other : FaultKind) → slice_get (k ∷ kinds) m ≡ Some other → (faults_of w other ≡ [] → ⊥) → number_of_fault z.kind ≤ number_of_fault other
    later z none zero other q some = absurd (some (subst (λ x. faults_of w x ≡ []) (same_Some k other q) none))
    later z none (suc m) other q some = z.least m other q some

all_count_up : CountUp 1 all_kinds
all_count_up = (refl, (refl, (refl, (refl, (refl, (refl, (refl, (refl, (refl, (refl, (refl, (refl, tt))))))))))))

none_after : (w : World) (f : Fault) → IsChosen w all_kinds f → (g : Fault) → IsFault w g → IsNotAfter f g
none_after w f c g h =
    let z = first_of_kind w c.kind f c.first in
    let p = place_in_all g.kind in
    record {
      kinds = subst (λ k. number_of_fault k ≤ number_of_fault g.kind) (sym z.same) (c.least p.0 g.kind p.1 (λ none. none_of w g.kind g.party none h));
      threads = λ e. z.least g.party (subst (λ k. IsFaultAt w k g.party) (sym e ∙ z.same) h);
    }

pub least : FaultsAreLeast
least w = go (fault_of w) refl
  where
    go : (x : Option Fault) → fault_of w ≡ x → IsLeastFault w x
    go None e = λ f h. none_of w f.kind f.party (none_of_kind w e f.kind) h
    go (Some f) e = let c = chosen w 1 all_kinds f all_count_up e in ((first_of_kind w c.kind f c.first).there, λ g h. none_after w f c g h)
