-- What a world without a fault has: none of any kind, in the kernel or at the next line of a thread.
use Rattle.std.proofs.Common.{◌≡◌, ℕ, zero, suc, ◌+◌, ◌<◌, Bool, true, false, if◌then◌else◌, List, [], ◌∷◌, ◌++◌, length, Option, Some, None, refl, sym, ap, ◌∙◌, subst, slice_get, arith}
use Rattle.std.proofs.lemmas.Option.{same_Some, slice_get_within}
use Rattle.rc_lang.specs.declared.lines.Line.{Line}
use Rattle.rc_world.specs.declared.event.Item.{Item}
use Rattle.rc_world.specs.declared.event.Item.TheVariants.{Thread, Kernel}
use Rattle.rc_world.specs.declared.fault.FaultKind.{FaultKind}
use Rattle.rc_world.specs.declared.fault.FaultKind.TheVariants.{WriteOfPending, ReadOfFilling, KernelClash, ThreadRace, RingFull, Overflow, AmbiguousData, UnknownReap, NoLock, RawEntry, OutOfBuffer, DoublePut}
use Rattle.rc_world.specs.Controls.{Standing, next_at, next_line}
use Rattle.rc_world.specs.Faults.{all_kinds, fault_at, fault_of, faults, faults_by, faults_from, faults_of, has_fault, in_kernel, kernel_faults, clashes, overflows}
use Rattle.rc_world.specs.Harm.{DoesNoHarm, IsHarmless}
use Rattle.rc_world.specs.Machine.{World}

nothing_first : {A : Type 0} (xs : List A) → slice_get xs 0 ≡ None → xs ≡ []
nothing_first [] e = refl
nothing_first (x ∷ xs) e = absurd (cc)

front_empty : {A : Type 0} (xs ys : List A) → xs ++ ys ≡ [] → xs ≡ []
front_empty [] ys e = refl
front_empty (x ∷ xs) ys e = absurd (cc)

back_empty : {A : Type 0} (xs ys : List A) → xs ++ ys ≡ [] → ys ≡ []
back_empty [] ys e = e
back_empty (x ∷ xs) ys e = absurd (cc)

pub none_if : {A : Type 0} (b : Bool) (x : A) → (if b then x ∷ [] else []) ≡ [] → b ≡ false
none_if false x e = refl
none_if true x e = absurd (cc)

-- the place of a kind among all
pub place_in_all : (kind : FaultKind) → (m : ℕ) × (slice_get all_kinds m ≡ Some kind)
place_in_all WriteOfPending = (0, refl)
place_in_all ReadOfFilling = (1, refl)
place_in_all KernelClash = (2, refl)
place_in_all ThreadRace = (3, refl)
place_in_all RingFull = (4, refl)
place_in_all Overflow = (5, refl)
place_in_all AmbiguousData = (6, refl)
place_in_all UnknownReap = (7, refl)
place_in_all NoLock = (8, refl)
place_in_all RawEntry = (9, refl)
place_in_all OutOfBuffer = (10, refl)
place_in_all DoublePut = (11, refl)

none_by : (w : World) (kinds : List FaultKind) → faults_by w kinds ≡ [] → (m : ℕ) (kind : FaultKind) → slice_get kinds m ≡ Some kind → faults_of w kind ≡ []
none_by w [] e m kind h = absurd (cc)
none_by w (k ∷ kinds) e zero kind h = subst (λ x. faults_of w x ≡ []) (same_Some k kind h) (front_empty (faults_of w k) (faults_by w kinds) e)
none_by w (k ∷ kinds) e (suc m) kind h = none_by w kinds (back_empty (faults_of w k) (faults_by w kinds) e) m kind h

-- A world without a fault has none of any kind:
pub none_of_kind : (w : World) → fault_of w ≡ None → (kind : FaultKind) → faults_of w kind ≡ []
none_of_kind w e kind = let p = place_in_all kind in none_by w all_kinds (nothing_first (faults w) e) p.0 kind p.1

-- not in the kernel,
pub none_in_kernel : (w : World) (kind : FaultKind) → faults_of w kind ≡ [] → in_kernel w kind ≡ false
none_in_kernel w kind e = none_if (in_kernel w kind) _ (front_empty (kernel_faults w kind) _ e)

-- nor at the next line of a thread.
pub none_here : (w : World) (kind : FaultKind) (i : ℕ) (l : Line) → fault_at w kind i (Some l) ≡ [] → has_fault w kind i l.stmt ≡ false
none_here w kind i l e = none_if (has_fault w kind i l.stmt) _ e

none_from : (w : World) (kind : FaultKind) (j : ℕ) (ts : List Standing) (k i : ℕ) → faults_from w kind j ts ≡ [] → k < length ts → j + k ≡ i → fault_at w kind i (next_line w.program w.controls i) ≡ []
none_from w kind j [] k i e lt q = absurd (omega arith)
none_from w kind j (t ∷ ts) zero i e lt q =
    let h : j ≡ i = omega arith in
    subst (λ n. fault_at w kind n (next_line w.program w.controls n) ≡ []) h (front_empty (fault_at w kind j (next_line w.program w.controls j)) _ e)
none_from w kind j (t ∷ ts) (suc k) i e lt q = none_from w kind (j + 1) ts k i (back_empty (fault_at w kind j (next_line w.program w.controls j)) _ e) (omega arith) (omega arith)

pub standing_within : (w : World) (i : ℕ) (l : Line) → next_line w.program w.controls i ≡ Some l → i < length w.controls.threads
standing_within w i l e = go (slice_get w.controls.threads i) refl
  where
    go : (t : Option Standing) → slice_get w.controls.threads i ≡ t → i < length w.controls.threads
    go None g = let d : next_line w.program w.controls i ≡ None = ap (next_at w.program i) g in absurd (cc)
    go (Some t) g = slice_get_within w.controls.threads i t g

pub none_at : (w : World) (kind : FaultKind) → faults_of w kind ≡ [] → (i : ℕ) (l : Line) → next_line w.program w.controls i ≡ Some l → has_fault w kind i l.stmt ≡ false
none_at w kind e i l n =
    let h = back_empty (kernel_faults w kind) _ e in
    none_here w kind i l (sym (ap (fault_at w kind i) n) ∙ none_from w kind 0 w.controls.threads i i h (standing_within w i l n) (omega arith))

pub harmless_in : (w : World) → fault_of w ≡ None → (i : ℕ) → IsHarmless w i
harmless_in w e i kind l n = none_at w kind (none_of_kind w e kind) i l n

pub calm_in : (w : World) → fault_of w ≡ None → clashes w.pending ≡ false
calm_in w e = none_in_kernel w KernelClash (none_of_kind w e KernelClash)

-- So no step that an item names does harm.
pub no_harm_in : (w : World) → fault_of w ≡ None → (item : Item) → DoesNoHarm w item
no_harm_in w e (Thread i take) = harmless_in w e i
no_harm_in w e (Kernel user_data res fill) = calm_in w e

-- ---- and what has none of any kind

none_next : (w : World) (kind : FaultKind) (i : ℕ) (x : Option Line) → ((l : Line) → x ≡ Some l → has_fault w kind i l.stmt ≡ false) → fault_at w kind i x ≡ []
none_next w kind i None h = refl
none_next w kind i (Some l) h = rw (h l refl) refl

none_on : (w : World) (kind : FaultKind) (ts : List Standing) (i : ℕ) → ((j : ℕ) (l : Line) → next_line w.program w.controls j ≡ Some l → has_fault w kind j l.stmt ≡ false) → faults_from w kind i ts ≡ []
none_on w kind [] i h = refl
none_on w kind (t ∷ ts) i h = ap (λ xs. xs ++ faults_from w kind (i + 1) ts) (none_next w kind i (next_line w.program w.controls i) (h i)) ∙ none_on w kind ts (i + 1) h

all_none : (w : World) (kinds : List FaultKind) → ((kind : FaultKind) → faults_of w kind ≡ []) → faults_by w kinds ≡ []
all_none w [] h = refl
all_none w (kind ∷ kinds) h = ap (λ xs. xs ++ faults_by w kinds) (h kind) ∙ all_none w kinds h

-- A world without a fault in the kernel and at the next line of each thread has none.
pub without_fault : (w : World) → clashes w.pending ≡ false → overflows w w.pending ≡ false → ((kind : FaultKind) (j : ℕ) (l : Line) → next_line w.program w.controls j ≡ Some l → has_fault w kind j l.stmt ≡ false) → fault_of w ≡ None
without_fault w clash over h = ap (λ xs. slice_get xs 0) (all_none w all_kinds (λ kind. rw (in_none kind) (none_on w kind w.controls.threads 0 (h kind))))
  where
    in_none : (kind : FaultKind) → in_kernel w kind ≡ false
    in_none KernelClash = clash
    in_none Overflow = over
    in_none _ = refl
