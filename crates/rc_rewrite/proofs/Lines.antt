-- Lines of a model, and those that come of them.
use Rattle.std.proofs.Common.{◌≡◌, ℕ, List, [], ◌∷◌, ◌++◌, Bool, true, false, cond, eqb, ◌||◌, inl, inr, Ok, refl, sym, subst, append_assoc}
use Rattle.std.specs.List.{list_all}
use Rattle.std.proofs.lemmas.Bool.{and_parts, eqb-true, false_from_ne_true}
use Rattle.rc_lang.specs.Program.{Program}
use Rattle.rc_read.specs.Answer.{answer_of}
use Rattle.rc_read.specs.Words.{cut, before_line}
use Rattle.rc_rewrite.specs.Inside.{IsCutAt}
use Rattle.rc_rewrite.specs.Keeps.{has_byte, is_item_byte, are_items, IsLineRefilled, IsRefilled, AreLinesRefilled, CanBeRead, IsKept}

-- ---- bytes

either : (a b : Bool) → (a || b) ≡ false → (a ≡ false) × (b ≡ false)
either true b e = absurd cc
either false b e = (refl, e)

neither : (a b : Bool) → a ≡ false → b ≡ false → (a || b) ≡ false
neither true b e f = absurd cc
neither false b e f = f

pub has_byte-append : (n : ℕ) (xs ys : List ℕ) → has_byte n xs ≡ false → has_byte n ys ≡ false → has_byte n (xs ++ ys) ≡ false
has_byte-append n [] ys e f = f
has_byte-append n (x ∷ xs) ys e f =
    let p = either (eqb x n) (has_byte n xs) e in
    neither (eqb x n) (has_byte n (xs ++ ys)) p.0 (has_byte-append n xs ys p.1 f)

pub has_byte-front : (n : ℕ) (xs ys : List ℕ) → has_byte n (xs ++ ys) ≡ false → has_byte n xs ≡ false
has_byte-front n [] ys e = refl
has_byte-front n (x ∷ xs) ys e =
    let p = either (eqb x n) (has_byte n (xs ++ ys)) e in
    neither (eqb x n) (has_byte n xs) p.0 (has_byte-front n xs ys p.1)

pub has_byte-rest : (n : ℕ) (xs ys : List ℕ) → has_byte n (xs ++ ys) ≡ false → has_byte n ys ≡ false
has_byte-rest n [] ys e = e
has_byte-rest n (x ∷ xs) ys e = has_byte-rest n xs ys (either (eqb x n) (has_byte n (xs ++ ys)) e).1

-- items have no line feed
item_byte : (b : ℕ) → is_item_byte b ≡ true → eqb b 10 ≡ false
item_byte b e = false_from_ne_true (eqb b 10) (λ same. let k : b ≡ 10 = eqb-true b 10 same in let no = rw k at e in absurd cc)

pub items_feed : (list : List ℕ) → are_items list ≡ true → has_byte 10 list ≡ false
items_feed [] h = refl
items_feed (b ∷ list) h =
    let p = and_parts (is_item_byte b) (list_all is_item_byte list) h in
    neither (eqb b 10) (has_byte 10 list) (item_byte b p.0) (items_feed list p.1)

-- ---- lines

-- bytes without a line feed are in front of what is behind them
grows : (c : Bool) (b : ℕ) (front : List ℕ) (p q : List (List ℕ) × List ℕ) → c ≡ false → p ≡ ([], front) → cond c q (before_line b p) ≡ ([], b ∷ front)
grows true b front p q e f = absurd cc
grows false b front p q e f = rw f refl

pub cut_last : (line : List ℕ) → has_byte 10 line ≡ false → cut line ≡ ([], line)
cut_last [] h = refl
cut_last (b ∷ line) h =
    let p = either (eqb b 10) (has_byte 10 line) h in
    grows (eqb b 10) b line (cut line) ([] ∷ (cut line).0, (cut line).1) p.0 (cut_last line p.1)

joins : (c : Bool) (b : ℕ) (line : List ℕ) (lines : List (List ℕ)) (rest : List ℕ) (p q : List (List ℕ) × List ℕ) → c ≡ false → p ≡ (line ∷ lines, rest) → cond c q (before_line b p) ≡ ((b ∷ line) ∷ lines, rest)
joins true b line lines rest p q e f = absurd cc
joins false b line lines rest p q e f = rw f refl

pub cut_line : (line after : List ℕ) → has_byte 10 line ≡ false → cut (line ++ 10 ∷ after) ≡ (line ∷ (cut after).0, (cut after).1)
cut_line [] after h = refl
cut_line (b ∷ line) after h =
    let p = either (eqb b 10) (has_byte 10 line) h in
    let whole = cut (line ++ 10 ∷ after) in
    joins (eqb b 10) b line (cut after).0 (cut after).1 whole ([] ∷ whole.0, whole.1) p.0 (cut_line line after p.1)

-- ---- what comes of a line

pub refilled_feed : (old new : List ℕ) → IsLineRefilled old new → has_byte 10 old ≡ false → has_byte 10 new ≡ false
refilled_feed old new (inl same) h = rw same h
refilled_feed old new (inr (before, items, behind, list, line, can, same)) h =
    let whole : has_byte 10 (before ++ (items ++ 123 ∷ behind)) ≡ false = rw line.whole at h in
    let front = has_byte-front 10 before (items ++ 123 ∷ behind) whole in
    let rest = has_byte-rest 10 items (123 ∷ behind) (has_byte-rest 10 before (items ++ 123 ∷ behind) whole) in
    rw same (has_byte-append 10 before (list ++ 123 ∷ behind) front (has_byte-append 10 list (123 ∷ behind) (items_feed list can.bytes) rest))

pub last_refilled : (old new : List ℕ) → IsLineRefilled old new → has_byte 10 old ≡ false → IsRefilled old new
last_refilled old new r h = rw (cut_last old h, cut_last new (refilled_feed old new r h)) (tt, r)

pub line_refilled : (old new after behind : List ℕ) → IsLineRefilled old new → has_byte 10 old ≡ false → IsRefilled after behind → IsRefilled (old ++ 10 ∷ after) (new ++ 10 ∷ behind)
line_refilled old new after behind r h s = rw (cut_line old after h, cut_line new behind (refilled_feed old new r h)) ((r, s.0), s.1)

-- ---- a model, line by line

lines_stay : (lines : List (List ℕ)) → AreLinesRefilled lines lines
lines_stay [] = tt
lines_stay (line ∷ lines) = (inl refl, lines_stay lines)

pub as_it_is : (bytes text : List ℕ) → text ≡ bytes → CanBeRead bytes → IsKept bytes text
as_it_is bytes text e read = subst (IsKept bytes) (sym e) (read, read, (lines_stay (cut bytes).0, inl refl))

pub other_items : (bytes text : List ℕ) (P : Program) → CanBeRead bytes → IsRefilled bytes text → answer_of text ≡ Ok P → IsKept bytes text
other_items bytes text P first fits read = (first, (P, read), fits)

-- What is printed so far goes with each model that the rest may become.
abbrev pub GoesOn : List ℕ → List ℕ → List ℕ → Type 0
GoesOn source rest printed = (t : List ℕ) → IsRefilled rest t → IsRefilled source (printed ++ t)

pub one_line_more : (source rest line after old new made text : List ℕ) → IsCutAt 10 rest line after → IsLineRefilled line text → new ≡ old ++ text → made ≡ new ++ 10 ∷ [] → GoesOn source rest old → GoesOn source after made
one_line_more source rest line after old new made text at is e f goes = λ t r.
    let same : made ++ t ≡ old ++ (text ++ 10 ∷ t) = rw (f, e) (simp append_assoc) in
    subst (IsRefilled source) (sym same) (goes (text ++ 10 ∷ t) (subst (λ (x : List ℕ). IsRefilled x (text ++ 10 ∷ t)) (sym at.whole) (line_refilled line text after t is at.first r)))

pub last_line : (source rest old made text : List ℕ) → has_byte 10 rest ≡ false → IsLineRefilled rest text → made ≡ old ++ text → GoesOn source rest old → IsRefilled source made
last_line source rest old made text none is e goes = subst (IsRefilled source) (sym e) (goes text (last_refilled rest text is none))
