-- Schedules that are read piece by piece.
use Rattle.std.proofs.Common.{◌≡◌, ℕ, suc, ◌+◌, ◌<◌, List, [], ◌∷◌, ◌++◌, map, length, drop, get_or, Bool, true, false, cond, not, refl, sym, ap, ◌∙◌, arith, ltb, eqb, append_assoc, append-nil, length-append, inl, inr}
use Rattle.rc_world.proofs.Lists.{position_map}
use Rattle.std.specs.Prelude.{Option, Some, None, Result, Ok, Err, is_none, position, filter_map}
use Rattle.std.specs.List.{position_or_len, slice_split, cons_option}
use Rattle.std.proofs.lemmas.Bool.{cases_lt, lt-ltb, le-ltb}
use Rattle.std.specs.Str.{bytes_eq}
use Rattle.std.proofs.lemmas.List.{at_drop_more, at_drop_all}
use Rattle.rc_lang.specs.declared.program.Thread.{Thread as ThreadPart}
use Rattle.rc_lang.specs.Parts.{view_thread}
use Rattle.rc_lang.specs.Program.{Program, Thread}
use Rattle.rc_world.specs.declared.event.Item.{Item}
use Rattle.rc_world.specs.Schedule.{items_or, pieces_of, item_of, items_of}

-- the place of a name among the threads' parts is its place among the threads
pub place_of_thread : (parts : List ThreadPart) (threads : List Thread) (name : List ℕ) → map view_thread parts ≡ threads → position (λ (t : ThreadPart). bytes_eq t.name.items name) parts ≡ position (λ (t : Thread). bytes_eq t.name name) threads
place_of_thread parts threads name e = sym (position_map view_thread (λ (t : Thread). bytes_eq t.name name) parts) ∙ ap (position (λ (t : Thread). bytes_eq t.name name)) e

-- ---- the items so far, and what becomes of the pieces that are left

abbrev pub read_more : {A : Type 0} → List A → (List A → Result (List A) ℕ) → Option A → Result (List A) ℕ
read_more items rest None = Err (length items + 1)
read_more items rest (Some item) = rest (items ++ item ∷ [])

abbrev pub read_on : {A : Type 0} → (List ℕ → Option A) → List A → List (List ℕ) → Result (List A) ℕ
read_on f items [] = Ok items
read_on f items (piece ∷ pieces) = read_more items (λ more. read_on f more pieces) (f piece)

abbrev before : {A : Type 0} → List A → Result (List A) ℕ → Result (List A) ℕ
before items (Ok more) = Ok (items ++ more)
before items (Err n) = Err (length items + n)

none_first : {A : Type 0} → (items more : List A) (b : Bool) → b ≡ true → Err (length items + 1) ≡ before items (items_or (cond b (Some 0) None) more)
none_first items more true e = refl
none_first items more false e = absurd cc

some_goes_on : {A : Type 0} → (items more : List A) (item : A) (k : ℕ) (b c : Bool) → c ≡ b → before (items ++ item ∷ []) (items_or (cond b (Some k) None) more) ≡ before items (items_or (cond c (Some (1 + k)) None) (item ∷ more))
some_goes_on {A = A} items more item k true true e = ap error (omega (arith, length-append items (item ∷ []))) where
  error : ℕ → Result (List A) ℕ
  error n = Err n
some_goes_on {A = A} items more item k false false e = ap answer (append_assoc items (item ∷ []) more) where
  answer : List A → Result (List A) ℕ
  answer xs = Ok xs
some_goes_on items more item k true false e = absurd cc
some_goes_on items more item k false true e = absurd cc

ltb-suc : (m n : ℕ) → ltb (1 + m) (suc n) ≡ ltb m n
ltb-suc m n = elim (cases_lt m n) [ inl l ↦ lt-ltb (1 + m) (suc n) (omega arith) ∙ sym (lt-ltb m n l) | inr l ↦ le-ltb (1 + m) (suc n) (omega arith) ∙ sym (le-ltb m n l) ]

read_by : {A : Type 0} → (f : List ℕ → Option A) (items : List A) (pieces : List (List ℕ)) (o : Option A)
    → ((more : List A) → read_on f more pieces ≡ before more (items_or (position (λ p. is_none (f p)) pieces) (filter_map f pieces)))
    → read_more items (λ more. read_on f more pieces) o
    ≡ before items (items_or (cond (ltb (cond (not (is_none o)) (1 + position_or_len (λ p. is_none (f p)) pieces) 0) (suc (length pieces))) (Some (cond (not (is_none o)) (1 + position_or_len (λ p. is_none (f p)) pieces) 0)) None) (cons_option o (filter_map f pieces)))
read_by f items pieces None h = none_first items (filter_map f pieces) (ltb 0 (suc (length pieces))) (lt-ltb 0 (suc (length pieces)) (omega arith))
read_by f items pieces (Some item) h =
    let k : ℕ = position_or_len (λ p. is_none (f p)) pieces in
    h (items ++ item ∷ []) ∙ some_goes_on items (filter_map f pieces) item k (ltb k (length pieces)) (ltb (1 + k) (suc (length pieces))) (ltb-suc k (length pieces))

pub read_on_is : {A : Type 0} → (f : List ℕ → Option A) (items : List A) (pieces : List (List ℕ)) → read_on f items pieces ≡ before items (items_or (position (λ p. is_none (f p)) pieces) (filter_map f pieces))
read_on_is {A = A} f items [] = ap answer (sym (append-nil items)) where
  answer : List A → Result (List A) ℕ
  answer xs = Ok xs
read_on_is f items (piece ∷ pieces) = read_by f items pieces (f piece) (λ more. read_on_is f more pieces)

before_none : {A : Type 0} → (r : Result (List A) ℕ) → before [] r ≡ r
before_none (Ok more) = refl
before_none {A = A} (Err n) = ap error (omega arith) where
  error : ℕ → Result (List A) ℕ
  error n = Err n

pieces_are : (text : List ℕ) → eqb (length text) 0 ≡ false → pieces_of text ≡ slice_split (λ b. eqb b 44) text
pieces_are [] e = absurd cc
pieces_are (b ∷ bytes) e = refl

pub reads_all : (program : Program) (items : List Item) (text : List ℕ) → items ≡ [] → eqb (length text) 0 ≡ false → read_on (item_of program) items (slice_split (λ b. eqb b 44) text) ≡ items_of program text
reads_all program items text none some =
    let f : List ℕ → Option Item = item_of program in
    let pieces : List (List ℕ) = slice_split (λ b. eqb b 44) text in
    ap (λ (x : List Item). read_on f x pieces) none ∙ read_on_is f [] pieces ∙ before_none _ ∙ ap (λ (ps : List (List ℕ)). items_or (position (λ p. is_none (f p)) ps) (filter_map f ps)) (sym (pieces_are text some))

-- ---- one turn of the loop, from the n-th piece

turn_is : {A : Type 0} → (f : List ℕ → Option A) (items : List A) (pieces : List (List ℕ)) (n : ℕ) (piece : List ℕ) → (n < length pieces) × (piece ≡ get_or pieces n piece) → read_on f items (drop n pieces) ≡ read_more items (λ more. read_on f more (drop (n + 1) pieces)) (f piece)
turn_is f items pieces n piece h = at_drop_more (read_on f items) pieces n piece h.0 ∙ ap (λ (p : List ℕ). read_more items (λ more. read_on f more (drop (n + 1) pieces)) (f p)) (sym h.1)

pub takes_item : {A : Type 0} → (f : List ℕ → Option A) (items new : List A) (pieces : List (List ℕ)) (n m : ℕ) (piece : List ℕ) (item : A) (whole : Result (List A) ℕ) → (n < length pieces) × (piece ≡ get_or pieces n piece) → f piece ≡ Some item → new ≡ items ++ item ∷ [] → m ≡ n + 1 → read_on f items (drop n pieces) ≡ whole → read_on f new (drop m pieces) ≡ whole
takes_item f items new pieces n m piece item whole h e a b k =
    rw (a, b) (sym (ap (read_more items (λ more. read_on f more (drop (n + 1) pieces))) e) ∙ sym (turn_is f items pieces n piece h) ∙ k)

pub stops_at : {A : Type 0} → (f : List ℕ → Option A) (items : List A) (pieces : List (List ℕ)) (n count : ℕ) (piece : List ℕ) (whole : Result (List A) ℕ) → (n < length pieces) × (piece ≡ get_or pieces n piece) → f piece ≡ None → count ≡ length items → read_on f items (drop n pieces) ≡ whole → whole ≡ Err (count + 1)
stops_at f items pieces n count piece whole h e m k =
    rw m (sym k ∙ turn_is f items pieces n piece h ∙ ap (read_more items (λ more. read_on f more (drop (n + 1) pieces))) e)

pub ends_with_all : {A : Type 0} → (f : List ℕ → Option A) (items : List A) (pieces : List (List ℕ)) (n : ℕ) (whole : Result (List A) ℕ) → n ≡ length pieces → read_on f items (drop n pieces) ≡ whole → whole ≡ Ok items
ends_with_all f items pieces n whole e k = sym k ∙ at_drop_all (read_on f items) pieces n (omega (arith, e))
