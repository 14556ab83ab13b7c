-- What is kept of open blocks, as they open and close.
use Rattle.std.proofs.Common.{◌≡◌, ℕ, zero, suc, ◌-◌, ◌<◌, ◌≤◌, List, [], ◌∷◌, ◌++◌, length, length-append, length-set, take, drop, append_assoc, Option, Some, None, refl, sym, ap, subst, ◌∙◌, arith, slice_get, slice_index_or, slice_set}
use Rattle.std.specs.Prelude.{IsSome}
use Rattle.std.specs.List.{refill}
use Rattle.std.proofs.lemmas.List.{length-take-le, take_at}
use Rattle.std.proofs.Math.Seq.{take-suc-set}
use Rattle.rc_lang.specs.declared.lines.Block.{Block}
use Rattle.rc_lang.specs.declared.lines.Block.TheVariants.{InLock, InIf, InElse, InPeek, InArm, InLoop}
use Rattle.rc_lang.specs.Nesting.{innermost, without_innermost}
use Rattle.rc_lang.proofs.Lookups.{innermost_split}
use Rattle.rc_rules.specs.States.{State}
use Rattle.rc_verify.specs.Stack.{kept_in, last_of, rest_of}
use Rattle.rc_verify.specs.Walk.{AreKept, OnKept, branch_place, listed, loop_place, places}

-- ---- places

pub nothing_more : {A : Type 0} (xs : List A) → xs ++ [] ≡ xs
nothing_more [] = refl
nothing_more (x ∷ xs) = ap (λ ys. x ∷ ys) (nothing_more xs)

module _ (f : Block → List ℕ) where
  pub places_more : (bs cs : List Block) → places f (bs ++ cs) ≡ places f bs ++ places f cs
  places_more [] cs = refl
  places_more (b ∷ bs) cs = ap (λ os. f b ++ os) (places_more bs cs) ∙ sym (append_assoc (f b) (places f bs) (places f cs))

  pub places_pushed : (bs : List Block) (b : Block) → places f (bs ++ b ∷ []) ≡ places f bs ++ f b
  places_pushed bs b = places_more bs (b ∷ []) ∙ ap (λ os. places f bs ++ os) (nothing_more (f b))

  -- a block of which nothing is kept
  pub pushed_none : (bs : List Block) (b : Block) → f b ≡ [] → places f (bs ++ b ∷ []) ≡ places f bs
  pushed_none bs b e = places_pushed bs b ∙ ap (λ os. places f bs ++ os) e ∙ nothing_more (places f bs)

  popped : (bs : List Block) (b : Block) → innermost bs ≡ Some b → places f bs ≡ places f (without_innermost bs) ++ f b
  popped bs b e = ap (places f) (innermost_split bs b e) ∙ places_pushed (without_innermost bs) b

  pub popped_none : (bs : List Block) (b : Block) → innermost bs ≡ Some b → f b ≡ [] → places f (without_innermost bs) ≡ places f bs
  popped_none bs b e n = sym (popped bs b e ∙ ap (λ os. places f (without_innermost bs) ++ os) n ∙ nothing_more (places f (without_innermost bs)))

few_more : (xs ys : List ℕ) (n : ℕ) → length xs ≤ 1 → length ys ≤ n → length (xs ++ ys) ≤ suc n
few_more xs ys n h g = omega (arith, length-append xs ys, h, g)

-- At most one place is kept of each block.
pub few_places : (f : Block → List ℕ) → ((b : Block) → length (f b) ≤ 1) → (bs : List Block) → length (places f bs) ≤ length bs
few_places f h [] = omega arith
few_places f h (b ∷ bs) = few_more (f b) (places f bs) (length bs) (h b) (few_places f h bs)

pub few_branches : (b : Block) → length (branch_place b) ≤ 1
few_branches (InLock o l) = omega arith
few_branches (InIf o) = omega arith
few_branches (InElse o) = omega arith
few_branches (InPeek o) = omega arith
few_branches (InArm o) = omega arith
few_branches (InLoop o k) = omega arith

pub few_loops : (b : Block) → length (loop_place b) ≤ 1
few_loops (InLock o l) = omega arith
few_loops (InIf o) = omega arith
few_loops (InElse o) = omega arith
few_loops (InPeek o) = omega arith
few_loops (InArm o) = omega arith
few_loops (InLoop o k) = omega arith

-- ---- what is kept

module _ {X : Type 0} (R : ℕ → X → Type 0) where
  pub keep_more : (os : List ℕ) (xs : List X) (o : ℕ) (x : X) → AreKept R os xs → R o x → AreKept R (os ++ o ∷ []) (xs ++ x ∷ [])
  keep_more [] [] o x h r = (r, tt)
  keep_more [] (y ∷ xs) o x h r = absurd h
  keep_more (p ∷ os) [] o x h r = absurd h
  keep_more (p ∷ os) (y ∷ xs) o x h r = (h.0, keep_more os xs o x h.1 r)

  pub kept_length : (os : List ℕ) (xs : List X) → AreKept R os xs → length xs ≡ length os
  kept_length [] [] h = refl
  kept_length [] (y ∷ xs) h = absurd h
  kept_length (p ∷ os) [] h = absurd h
  kept_length (p ∷ os) (y ∷ xs) h = ap suc (kept_length os xs h.1)

  -- the last of what is kept, and the rest
  keeps_last : (os : List ℕ) (o : ℕ) (xs : List X) → AreKept R (os ++ o ∷ []) xs → (x : X) × (slice_get xs (length xs - 1) ≡ Some x) × R o x × AreKept R os (take (length xs - 1) xs)
  keeps_last [] o [] h = absurd h
  keeps_last [] o (x ∷ []) h = (x, refl, h.0, tt)
  keeps_last [] o (x ∷ y ∷ xs) h = absurd h.1
  keeps_last (p ∷ os) o [] h = absurd h
  keeps_last (p ∷ []) o (x ∷ []) h = absurd h.1
  keeps_last (p ∷ q ∷ os) o (x ∷ []) h = absurd h.1
  keeps_last (p ∷ os) o (x ∷ y ∷ xs) h =
      let k = keeps_last os o (y ∷ xs) h.1 in
      let n : length (x ∷ y ∷ xs) - 1 ≡ suc (length (y ∷ xs) - 1) = omega arith in
      (k.0, ap (λ i. slice_get (x ∷ y ∷ xs) i) n ∙ k.1, k.2, subst (λ i. AreKept R (p ∷ os) (take i (x ∷ y ∷ xs))) (sym n) (h.0, k.3))

-- the same of each, by what is true of its place
pub kept_too : {X : Type 0} (R S : ℕ → X → Type 0) (os : List ℕ) (xs : List X) → ((k o : ℕ) (x : X) → slice_get os k ≡ Some o → R o x → S o x) → AreKept R os xs → AreKept S os xs
kept_too R S [] [] f h = tt
kept_too R S [] (x ∷ xs) f h = absurd h
kept_too R S (o ∷ os) [] f h = absurd h
kept_too R S (o ∷ os) (x ∷ xs) f h = (f 0 o x refl h.0, kept_too R S os xs (λ k p y e r. f (suc k) p y e r) h.1)

-- The state that is kept last.
pub record KeepsLast (R : ℕ → State → Type 0) (os : List ℕ) (o : ℕ) (xs : List (Option State)) : Type 0 where
  pub state : State
  pub is : last_of xs ≡ Some state
  pub holds : R o state
  pub rest : AreKept (OnKept R) os (rest_of xs)

pub last_kept : (R : ℕ → State → Type 0) (os : List ℕ) (o : ℕ) (xs : List (Option State)) → AreKept (OnKept R) (os ++ o ∷ []) xs → KeepsLast R os o xs
last_kept R os o xs h = go (keeps_last (OnKept R) os o xs h)
  where
    go : (x : Option State) × (slice_get xs (length xs - 1) ≡ Some x) × OnKept R o x × AreKept (OnKept R) os (take (length xs - 1) xs) → KeepsLast R os o xs
    go k = at k.0 k.1 k.2 k.3
      where
        at : (x : Option State) → slice_get xs (length xs - 1) ≡ Some x → OnKept R o x → AreKept (OnKept R) os (take (length xs - 1) xs) → KeepsLast R os o xs
        at None e r a = absurd r
        at (Some s) e r a = record { state = s; is = ap kept_in e; holds = r; rest = a }

-- what the one that was taken last is
pub same_last : (R : ℕ → State → Type 0) (os : List ℕ) (o : ℕ) (xs : List (Option State)) (s : State) → KeepsLast R os o xs → last_of xs ≡ Some s → R o s
same_last R os o xs s k e = let q : k.state ≡ s = cc (k.is, e) in subst (λ (y : State). R o y) q k.holds

pub some_last : (R : ℕ → State → Type 0) (os : List ℕ) (o : ℕ) (xs : List (Option State)) → KeepsLast R os o xs → IsSome (last_of xs)
some_last R os o xs k = subst (λ (x : Option State). IsSome x) (sym k.is) refl

-- Of one place something is kept; of none nothing is.
pub one_listed : {X : Type 0} (R : ℕ → X → Type 0) (o : ℕ) (x : Option X) → AreKept R (o ∷ []) (listed x) → (y : X) × (x ≡ Some y) × R o y
one_listed R o None h = absurd h
one_listed R o (Some y) h = (y, refl, h.0)

-- ---- rooms, of which the first n are in use

front_get : {X : Type 0} (xs : List X) (m : ℕ) (d : X) → m < length xs → slice_get (take (suc m) xs) m ≡ Some (slice_index_or xs m d)
front_get [] m d lt = absurd (omega (arith, lt))
front_get (x ∷ xs) zero d lt = refl
front_get (x ∷ xs) (suc m) d lt = front_get xs m d (omega (arith, lt))

front_take : {X : Type 0} (xs : List X) (m : ℕ) → take m (take (suc m) xs) ≡ take m xs
front_take xs zero = refl
front_take [] (suc m) = refl
front_take (x ∷ xs) (suc m) = ap (λ ys. x ∷ ys) (front_take xs m)

before : (m : ℕ) → m ≡ suc m - 1
before m = omega arith

-- The last of them has what is kept last,
pub last_room : (rooms slice now : List (Option State)) (n : ℕ) (d x : Option State) → take n rooms ≡ now → n ≤ length rooms → IsSome (last_of now) → slice ≡ rooms → slice_index_or slice (n - 1) d ≡ x → last_of now ≡ x
last_room rooms slice now zero d x e le h s is = absurd (cc (subst (λ (xs : List (Option State)). IsSome (last_of xs)) (sym e) h))
last_room rooms slice now (suc m) d x e le h s is =
    let size : length now ≡ suc m = sym (ap length e) ∙ length-take-le (suc m) rooms le in
    let at : length now - 1 ≡ m = omega (arith, size) in
    ap (λ xs. kept_in (slice_get xs (length now - 1))) (sym e) ∙ ap (λ i. kept_in (slice_get (take (suc m) rooms) i)) at ∙ ap kept_in (front_get rooms m d (omega (arith, le))) ∙ ap (λ xs. slice_index_or xs m d) (sym s) ∙ ap (λ i. slice_index_or slice i d) (before m) ∙ is

-- and when another is written there, that is kept instead.
pub room_written : (rooms slice now : List (Option State)) (n : ℕ) (x : Option State) → take n rooms ≡ now → n ≤ length rooms → IsSome (last_of now) → slice ≡ rooms → take n (refill (length rooms) rooms (slice_set slice (n - 1) x)) ≡ rest_of now ++ x ∷ []
room_written rooms slice now zero x e le h s = absurd (cc (subst (λ (xs : List (Option State)). IsSome (last_of xs)) (sym e) h))
room_written rooms slice now (suc m) x e le h s =
    let size : length now ≡ suc m = sym (ap length e) ∙ length-take-le (suc m) rooms le in
    let at : length now - 1 ≡ m = omega (arith, size) in
    let rest : rest_of now ≡ take m rooms = ap (λ xs. take (length now - 1) xs) (sym e) ∙ ap (λ i. take i (take (suc m) rooms)) at ∙ front_take rooms m in
    ap (λ i. take (suc m) (refill (length rooms) rooms (slice_set slice i x))) (sym (before m)) ∙ ap (λ xs. take (suc m) (refill (length rooms) rooms (slice_set xs m x))) s ∙ ap (take (suc m)) (take_at (slice_set rooms m x) (drop (length (slice_set rooms m x)) rooms) (length rooms) (length-set rooms m x)) ∙ take-suc-set rooms m x (omega (arith, le)) ∙ ap (λ xs. xs ++ x ∷ []) (sym rest)

pub none_kept : (x : Option State) → IsSome x → x ≡ None → ⊥
none_kept None h e = absurd (cc h)
none_kept (Some s) h e = absurd (cc e)
