-- The first fault of a kind, thread after thread.
use Rattle.std.proofs.Common.{ℕ, ◌≡◌, ◌+◌, ◌<◌, ◌≤◌, true, false, ◌||◌, List, [], ◌∷◌, ◌++◌, drop, length, get_or, Option, Some, None, slice_get, refl, ap, ◌∙◌, arith}
use Rattle.std.proofs.lemmas.List.{drop_all, drop_more}
use Rattle.rc_world.specs.declared.fault.Fault.{Fault}
use Rattle.rc_world.specs.declared.fault.FaultKind.{FaultKind}
use Rattle.rc_world.specs.Controls.{Standing, next_line}
use Rattle.rc_world.specs.Faults.{Access, access_at, conflicts, fault_at, faults_by, faults_from, faults_of, races_from}
use Rattle.rc_world.specs.Machine.{World}

pub head_none : {A : Type 0} (xs ys : List A) → slice_get xs 0 ≡ None → slice_get (xs ++ ys) 0 ≡ slice_get ys 0
head_none [] ys e = refl
head_none (x ∷ xs) ys e = absurd (cc)

pub head_some : {A : Type 0} (xs ys : List A) (x : A) → slice_get xs 0 ≡ Some x → slice_get (xs ++ ys) 0 ≡ Some x
head_some [] ys y e = absurd (cc)
head_some (x ∷ xs) ys y e = e

pub drop_next : {A : Type 0} (xs : List A) (i : ℕ) → i < length xs → (x : A) × (drop i xs ≡ x ∷ drop (i + 1) xs)
drop_next [] i lt = absurd (omega arith)
drop_next (x ∷ xs) i lt = (_, drop_more (x ∷ xs) i x lt)

pub faults_here : (w : World) (kind : FaultKind) (threads : List Standing) (i : ℕ) → i < length threads
    → faults_from w kind i (drop i threads) ≡ fault_at w kind i (next_line w.program w.controls i) ++ faults_from w kind (i + 1) (drop (i + 1) threads)
faults_here w kind threads i lt =
    let d = drop_next threads i lt in
    ap (faults_from w kind i) d.1

pub faults_more : (w : World) (kind : FaultKind) (threads : List Standing) (i : ℕ) → i < length threads → slice_get (fault_at w kind i (next_line w.program w.controls i)) 0 ≡ None
    → slice_get (faults_from w kind i (drop i threads)) 0 ≡ slice_get (faults_from w kind (i + 1) (drop (i + 1) threads)) 0
faults_more w kind threads i lt none = ap (λ fs. slice_get fs 0) (faults_here w kind threads i lt) ∙ head_none _ _ none

pub faults_found : (w : World) (kind : FaultKind) (threads : List Standing) (i : ℕ) (f : Fault) → i < length threads → slice_get (fault_at w kind i (next_line w.program w.controls i)) 0 ≡ Some f
    → slice_get (faults_from w kind i (drop i threads)) 0 ≡ Some f
faults_found w kind threads i f lt some = ap (λ fs. slice_get fs 0) (faults_here w kind threads i lt) ∙ head_some _ _ f some

pub faults_end : (w : World) (kind : FaultKind) (threads : List Standing) (i : ℕ) → length threads ≤ i → slice_get (faults_from w kind i (drop i threads)) 0 ≡ None
faults_end w kind threads i le = ap (λ ts. slice_get (faults_from w kind i ts) 0) (drop_all i threads le)

-- ---- all kinds

pub kinds_here : (w : World) (kinds : List FaultKind) (i : ℕ) (d : FaultKind) → i < length kinds
    → faults_by w (drop i kinds) ≡ faults_of w (get_or kinds i d) ++ faults_by w (drop (i + 1) kinds)
kinds_here w kinds i d lt = ap (faults_by w) (drop_more kinds i d lt)

pub kinds_more : (w : World) (kinds : List FaultKind) (i : ℕ) (d : FaultKind) → i < length kinds → slice_get (faults_of w (get_or kinds i d)) 0 ≡ None
    → slice_get (faults_by w (drop i kinds)) 0 ≡ slice_get (faults_by w (drop (i + 1) kinds)) 0
kinds_more w kinds i d lt none = ap (λ fs. slice_get fs 0) (kinds_here w kinds i d lt) ∙ head_none _ _ none

pub kinds_found : (w : World) (kinds : List FaultKind) (i : ℕ) (d : FaultKind) (f : Fault) → i < length kinds → slice_get (faults_of w (get_or kinds i d)) 0 ≡ Some f
    → slice_get (faults_by w (drop i kinds)) 0 ≡ Some f
kinds_found w kinds i d f lt some = ap (λ fs. slice_get fs 0) (kinds_here w kinds i d lt) ∙ head_some _ _ f some

-- ---- races

pub races_here : (w : World) (a : Option Access) (threads : List Standing) (i : ℕ) → i < length threads
    → races_from w a i (drop i threads) ≡ (conflicts a (access_at (next_line w.program w.controls i)) || races_from w a (i + 1) (drop (i + 1) threads))
races_here w a threads i lt =
    let d = drop_next threads i lt in
    ap (races_from w a i) d.1

pub races_more : (w : World) (a : Option Access) (threads : List Standing) (i : ℕ) → i < length threads → conflicts a (access_at (next_line w.program w.controls i)) ≡ false
    → races_from w a i (drop i threads) ≡ races_from w a (i + 1) (drop (i + 1) threads)
races_more w a threads i lt none = races_here w a threads i lt ∙ ap (λ b. b || races_from w a (i + 1) (drop (i + 1) threads)) none

pub races_found : (w : World) (a : Option Access) (threads : List Standing) (i : ℕ) → i < length threads → conflicts a (access_at (next_line w.program w.controls i)) ≡ true
    → races_from w a i (drop i threads) ≡ true
races_found w a threads i lt some = races_here w a threads i lt ∙ ap (λ b. b || races_from w a (i + 1) (drop (i + 1) threads)) some

pub races_end : (w : World) (a : Option Access) (threads : List Standing) (i : ℕ) → length threads ≤ i → races_from w a i (drop i threads) ≡ false
races_end w a threads i le = ap (races_from w a i) (drop_all i threads le)

pub no_races : (w : World) (j : ℕ) (threads : List Standing) → races_from w None j threads ≡ false
no_races w j [] = refl
no_races w j (t ∷ ts) = no_races w (j + 1) ts
