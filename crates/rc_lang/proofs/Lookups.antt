-- Look-ups in lists of lines and of blocks, where one more is at the end.
use Rattle.std.proofs.Common.{◌≡◌, ℕ, zero, suc, ◌+◌, ◌-◌, ◌<◌, ◌≤◌, Bool, true, false, ◌||◌, List, [], ◌∷◌, ◌++◌, length, length-append, get_or, take, take_all, Option, Some, None, refl, sym, ap, ◌∙◌, subst, slice_get, ◌⊎◌, inl, inr, arith}
use Rattle.std.proofs.Math.Bool.{or-false}
use Rattle.std.proofs.lemmas.Bool.{or_parts}
use Rattle.std.proofs.lemmas.List.Folds.{list_any-append}
use Rattle.std.proofs.lemmas.List.{take-append-le}
use Rattle.std.proofs.lemmas.Option.{slice_get-get_or, slice_get_within, slice_get_past}
use Rattle.rc_lang.specs.declared.lines.Block.{Block}
use Rattle.rc_lang.specs.declared.lines.Line.{Line}
use Rattle.rc_lang.specs.declared.lines.Locks.{Locks}
use Rattle.rc_lang.specs.declared.lines.Stmt.{Stmt}
use Rattle.rc_lang.specs.Locks.{with_locks}
use Rattle.rc_lang.specs.Nesting.{blocks_after, blocks_at, blocks_behind, directly_in_peek, in_peek, innermost, is_peek, is_some_peek, IsNestedIn, locks_in, takes_cq, takes_sq, without_innermost}
use Rattle.rc_lang.specs.Program.{stmt_at, stmt_of}

-- ---- lists

-- an element of a list with one more is an older one or that one
pub get_push : {A : Type 0} (xs : List A) (y : A) (k : ℕ) (z : A) → slice_get (xs ++ y ∷ []) k ≡ Some z → (slice_get xs k ≡ Some z) ⊎ ((k ≡ length xs) × (y ≡ z))
get_push [] y zero z e = inr (refl, cc)
get_push [] y (suc k) z e = absurd (cc)
get_push (x ∷ xs) y zero z e = inl e
get_push (x ∷ xs) y (suc k) z e = elim (get_push xs y k z e) [
  | inl h ↦ inl h
  | inr h ↦ inr (ap suc h.0, h.1)
]

pub get_old : {A : Type 0} (xs ys : List A) (k : ℕ) (z : A) → slice_get xs k ≡ Some z → slice_get (xs ++ ys) k ≡ Some z
get_old [] ys k z e = absurd (cc)
get_old (x ∷ xs) ys zero z e = e
get_old (x ∷ xs) ys (suc k) z e = get_old xs ys k z e

pub get_before : {A : Type 0} (xs ys : List A) (k : ℕ) → k < length xs → slice_get (xs ++ ys) k ≡ slice_get xs k
get_before [] ys k lt = absurd (omega arith)
get_before (x ∷ xs) ys zero lt = refl
get_before (x ∷ xs) ys (suc k) lt = get_before xs ys k (omega arith)

pub get_new : {A : Type 0} (xs : List A) (y : A) (ys : List A) → slice_get (xs ++ y ∷ ys) (length xs) ≡ Some y
get_new [] y ys = refl
get_new (x ∷ xs) y ys = get_new xs y ys

pub take_front : {A : Type 0} (xs ys : List A) → take (length xs) (xs ++ ys) ≡ xs
take_front xs ys = take-append-le (length xs) xs ys (omega arith) ∙ take_all (length xs) xs (omega arith)

front_and_last : {A : Type 0} (xs : List A) (k : ℕ) (x : A) → slice_get xs k ≡ Some x → length xs ≡ suc k → take k xs ++ x ∷ [] ≡ xs
front_and_last [] k x e n = absurd (cc)
front_and_last (y ∷ []) zero x e n = cc
front_and_last (y ∷ z ∷ xs) zero x e n = absurd (omega arith)
front_and_last (y ∷ xs) (suc k) x e n = ap (λ zs. y ∷ zs) (front_and_last xs k x e (omega arith))

-- ---- the innermost block

pub innermost_split : (bs : List Block) (b : Block) → innermost bs ≡ Some b → bs ≡ without_innermost bs ++ b ∷ []
innermost_split bs b e = let lt : length bs - 1 < length bs = slice_get_within bs (length bs - 1) b e in sym (front_and_last bs (length bs - 1) b e (omega arith))

pushed_length : (bs : List Block) (b : Block) → length (bs ++ b ∷ []) - 1 ≡ length bs
pushed_length bs b = let n : length (bs ++ b ∷ []) ≡ length bs + 1 = length-append bs (b ∷ []) in omega arith

pub innermost_pushed : (bs : List Block) (b : Block) → innermost (bs ++ b ∷ []) ≡ Some b
innermost_pushed bs b = ap (λ k. slice_get (bs ++ b ∷ []) k) (pushed_length bs b) ∙ get_new bs b []

pub nothing_open : (bs : List Block) → innermost bs ≡ None → bs ≡ []
nothing_open [] e = refl
nothing_open (a ∷ bs) e = let h : innermost (a ∷ bs) ≡ Some (get_or (a ∷ bs) (length (a ∷ bs) - 1) a) = slice_get-get_or (a ∷ bs) (length (a ∷ bs) - 1) a (omega arith) in absurd (cc)

pub directly_pushed : (bs : List Block) (b : Block) → directly_in_peek (bs ++ b ∷ []) ≡ is_peek b
directly_pushed bs b = ap is_some_peek (innermost_pushed bs b)

-- ---- locks, peeks and the way out of more blocks

-- locks, side by side
abbrev pub sides : Bool → Bool → Locks
sides a b = record { sq = a; cq = b }

pub same_sides : {a b c d : Bool} → a ≡ b → c ≡ d → sides a c ≡ sides b d
same_sides {b = b} {c = c} e f = ap (λ x. sides x c) e ∙ ap (λ x. sides b x) f

pub with_none : (l : Locks) → with_locks l (locks_in []) ≡ l
with_none l = same_sides (or-false l.sq) (or-false l.cq)

or_moves : (a b c : Bool) → ((a || b) || c) ≡ (a || (b || c))
or_moves true b c = refl
or_moves false b c = refl

pub with_moves : (l m n : Locks) → with_locks (with_locks l m) n ≡ with_locks l (with_locks m n)
with_moves l m n = same_sides (or_moves l.sq m.sq n.sq) (or_moves l.cq m.cq n.cq)

pub locks_more : (outer bs : List Block) → locks_in (outer ++ bs) ≡ with_locks (locks_in outer) (locks_in bs)
locks_more outer bs = same_sides (list_any-append takes_sq outer bs) (list_any-append takes_cq outer bs)

pub in_peek_more : (outer bs : List Block) → in_peek (outer ++ bs) ≡ (in_peek outer || in_peek bs)
in_peek_more outer bs = list_any-append is_peek outer bs

pub in_peek_pushed : (bs : List Block) (b : Block) → in_peek (bs ++ b ∷ []) ≡ (in_peek bs || is_peek b)
in_peek_pushed bs b = in_peek_more bs (b ∷ []) ∙ ap (λ x. in_peek bs || x) (or-false (is_peek b))

-- outside of peeks nothing is directly in one
pub not_directly : (bs : List Block) → in_peek bs ≡ false → directly_in_peek bs ≡ false
not_directly bs e = go (innermost bs) refl
  where
    go : (x : Option Block) → innermost bs ≡ x → directly_in_peek bs ≡ false
    go None f = ap is_some_peek f
    go (Some b) f = ap is_some_peek f ∙ (or_parts (in_peek (without_innermost bs)) (is_peek b) (sym (in_peek_pushed (without_innermost bs) b) ∙ ap in_peek (sym (innermost_split bs b f)) ∙ e)).1

-- ---- statements at places

-- the line that has the statement at a place
pub line_with : (lines : List Line) (j : ℕ) (s : Stmt) → stmt_at lines j ≡ Some s → (l : Line) × (slice_get lines j ≡ Some l) × (l.stmt ≡ s)
line_with lines j s e = go (slice_get lines j) refl e
  where
    go : (x : Option Line) → slice_get lines j ≡ x → stmt_of x ≡ Some s → (l : Line) × (slice_get lines j ≡ Some l) × (l.stmt ≡ s)
    go None g h = absurd (cc)
    go (Some l) g h = (l, g, cc)

pub stands_within : (lines : List Line) (j : ℕ) (s : Stmt) → stmt_at lines j ≡ Some s → j < length lines
stands_within lines j s e = let l = line_with lines j s e in slice_get_within lines j l.0 l.1

pub stands_at : (lines : List Line) (j : ℕ) → j < length lines → (s : Stmt) × (stmt_at lines j ≡ Some s)
stands_at [] j lt = absurd (omega arith)
stands_at (l ∷ lines) zero lt = (l.stmt, refl)
stands_at (l ∷ lines) (suc j) lt = stands_at lines j (omega arith)

pub past_the_end : (lines : List Line) (j : ℕ) → length lines ≤ j → stmt_at lines j ≡ None
past_the_end lines j h = ap stmt_of (slice_get_past lines j h)

pub stmt_new : (lines : List Line) (l : Line) → stmt_at (lines ++ l ∷ []) (length lines) ≡ Some l.stmt
stmt_new lines l = ap stmt_of (get_new lines l [])

pub stmt_before : (lines : List Line) (l : Line) (j : ℕ) → j < length lines → stmt_at (lines ++ l ∷ []) j ≡ stmt_at lines j
stmt_before lines l j lt = ap stmt_of (get_before lines (l ∷ []) j lt)

pub stmt_old : (lines : List Line) (l : Line) (j : ℕ) (s : Stmt) → stmt_at lines j ≡ Some s → stmt_at (lines ++ l ∷ []) j ≡ Some s
stmt_old lines l j s e = stmt_before lines l j (stands_within lines j s e) ∙ e

pub stmt_push : (lines : List Line) (l : Line) (j : ℕ) (s : Stmt) → stmt_at (lines ++ l ∷ []) j ≡ Some s → (stmt_at lines j ≡ Some s) ⊎ ((j ≡ length lines) × (l.stmt ≡ s))
stmt_push lines l j s e = go (line_with (lines ++ l ∷ []) j s e)
  where
    go : (m : Line) × (slice_get (lines ++ l ∷ []) j ≡ Some m) × (m.stmt ≡ s) → (stmt_at lines j ≡ Some s) ⊎ ((j ≡ length lines) × (l.stmt ≡ s))
    go m = elim (get_push lines l j m.0 m.1) [
      | inl h ↦ inl (ap stmt_of h ∙ ap Some m.2)
      | inr h ↦ inr (h.0, ap (λ (x : Line). x.stmt) h.1 ∙ m.2)
    ]

-- ---- blocks at places

blocks_on : (bs : List Block) (k : ℕ) (lines : List Line) (j : ℕ) (s : Stmt) → stmt_at lines j ≡ Some s → blocks_after bs k (take (suc j) lines) ≡ blocks_behind (blocks_after bs k (take j lines)) (k + j) s
blocks_on bs k [] j s e = absurd (cc)
blocks_on bs k (l ∷ lines) zero s e = let h : l.stmt ≡ s = cc in let n : k + 0 ≡ k = omega arith in rw n (ap (λ x. blocks_behind bs k x) h)
blocks_on bs k (l ∷ lines) (suc j) s e =
    let n : k + 1 + j ≡ k + suc j = omega arith in
    blocks_on (blocks_behind bs k l.stmt) (k + 1) lines j s e ∙ ap (λ m. blocks_behind (blocks_after (blocks_behind bs k l.stmt) (k + 1) (take j lines)) m s) n

-- the blocks after a line
pub blocks_suc : (lines : List Line) (j : ℕ) (s : Stmt) → stmt_at lines j ≡ Some s → blocks_at lines (suc j) ≡ blocks_behind (blocks_at lines j) j s
blocks_suc lines j s e = let n : 0 + j ≡ j = omega arith in blocks_on [] 0 lines j s e ∙ ap (λ m. blocks_behind (blocks_at lines j) m s) n

pub blocks_next : (lines : List Line) (j : ℕ) (s : Stmt) → stmt_at lines j ≡ Some s → blocks_at lines (j + 1) ≡ blocks_behind (blocks_at lines j) j s
blocks_next lines j s e = let n : j + 1 ≡ suc j = omega arith in ap (λ k. blocks_at lines k) n ∙ blocks_suc lines j s e

pub blocks_past : (lines : List Line) (j : ℕ) → length lines ≤ j → blocks_at lines j ≡ blocks_at lines (length lines)
blocks_past lines j h = ap (λ ls. blocks_after [] 0 ls) (take_all j lines h ∙ sym (take_all (length lines) lines (omega arith)))

pub blocks_old : (lines : List Line) (l : Line) (j : ℕ) → j ≤ length lines → blocks_at (lines ++ l ∷ []) j ≡ blocks_at lines j
blocks_old lines l j h = ap (λ ls. blocks_after [] 0 ls) (take-append-le j lines (l ∷ []) h)

-- the blocks after the new line
pub blocks_new : (lines : List Line) (l : Line) (j : ℕ) → length lines < j → blocks_at (lines ++ l ∷ []) j ≡ blocks_behind (blocks_at lines (length lines)) (length lines) l.stmt
blocks_new lines l j lt =
    let n : length (lines ++ l ∷ []) ≡ length lines + 1 = length-append lines (l ∷ []) in
    blocks_past (lines ++ l ∷ []) j (omega arith) ∙ ap (λ k. blocks_at (lines ++ l ∷ []) k) n ∙ blocks_next (lines ++ l ∷ []) (length lines) l.stmt (stmt_new lines l)
    ∙ ap (λ bs. blocks_behind bs (length lines) l.stmt) (blocks_old lines l (length lines) (omega arith))

-- ---- what nesting says of a line

-- Each line may be at its place.
abbrev pub EachNested : List Line → Type 0
EachNested lines = (j : ℕ) (l : Line) → slice_get lines j ≡ Some l → IsNestedIn (blocks_at lines j) l.stmt

pub nested_here : (lines : List Line) → EachNested lines → (j : ℕ) (s : Stmt) → stmt_at lines j ≡ Some s → IsNestedIn (blocks_at lines j) s
nested_here lines each j s e = let l = line_with lines j s e in subst (λ x. IsNestedIn (blocks_at lines j) x) l.2 (each j l.0 l.1)

pub nested_start : EachNested []
nested_start j l e = absurd (cc)

-- one more line that may be at the end
pub nested_more : (lines : List Line) (l : Line) → EachNested lines → IsNestedIn (blocks_at lines (length lines)) l.stmt → EachNested (lines ++ l ∷ [])
nested_more lines l each new j m e = elim (get_push lines l j m e) [
  | inl g ↦ let lt : j < length lines = slice_get_within lines j m g in subst (λ bs. IsNestedIn bs m.stmt) (sym (blocks_old lines l j (omega arith))) (each j m g)
  | inr g ↦ let le : j ≤ length lines = omega (arith, g.0) in
      let b : blocks_at (lines ++ l ∷ []) j ≡ blocks_at lines (length lines) = blocks_old lines l j le ∙ ap (λ i. blocks_at lines i) g.0 in
      subst (λ bs. IsNestedIn bs m.stmt) (sym b) (subst (λ (x : Line). IsNestedIn (blocks_at lines (length lines)) x.stmt) g.1 new)
]
