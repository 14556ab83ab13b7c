-- What follows a line that can't be read doesn't change the answer of a model.
use Rattle.std.proofs.Common.{◌≡◌, ℕ, zero, suc, ◌+◌, ◌*◌, ◌<◌, ◌≤◌, length, List, [], ◌∷◌, ◌++◌, take, inl, inr, Bool, true, false, cond, eqb, Option, Some, None, Result, Ok, Err, refl, sym, ap, subst, ◌∙◌, append_assoc, arith, length-append}
use Rattle.std.specs.Prelude.{IfOk, max}
use Rattle.std.specs.Io.KnownBytes.{Consumes}
use Rattle.std.specs.List.{list_any}
use Rattle.rc_read.specs.Answer.{answer_of, ended, judged, on_line}
use Rattle.rc_read.specs.Causes.{number_of_cause}
use Rattle.rc_read.specs.Sentences.{any_strange, first_true, is_strange, sentences}
use Rattle.rc_read.specs.Sheets.{Sheet, empty}
use Rattle.rc_read.specs.Stream.{HasRead, IsAnswerSoFar, Reading}
use Rattle.rc_read.specs.Words.{before_line, cut, last_line, text_lines}
use Rattle.rc_read.specs.declared.fault.ReadFault.{ReadFault}
use Rattle.rc_read.specs.declared.fault.ReadFault.TheVariants.{Text, OutOfMemory}
use Rattle.rc_read.proofs.Streams.{fault_answer, fault_of_all, judged-append_ok}
use Rattle.rc_report.specs.Models.{IsFault, IsSettled, KeepsEnough, KeepsPiece}
use Rattle.rc_report.proofs.Pieces.{append-[]}

-- ---- a line that a line feed has ended

settled_by_line : (bytes : List ℕ) (line number : ℕ) → judged empty (cut bytes).0 ≡ Err (line, number) → IsSettled bytes
settled_by_line bytes line number h more = fault_of_all bytes more (line, number) h ∙ sym (fault_answer line number bytes h)

-- ---- the line that hasn't ended

abbrev Lines : Type 0
Lines = List (List ℕ) × List ℕ

-- the lines of a beginning, with those of what follows
abbrev joined : Lines → Lines → Lines
joined (ls, p) ([], r) = (ls, p ++ r)
joined (ls, p) (m ∷ ms, r) = (ls ++ (p ++ m) ∷ ms, r)

joined_none : (q : Lines) → q ≡ joined ([], []) q
joined_none ([], r) = refl
joined_none (m ∷ ms, r) = refl

joined_line : (c : Bool) (b : ℕ) (p q : Lines) → cond c ([] ∷ (joined p q).0, (joined p q).1) (before_line b (joined p q)) ≡ joined (cond c ([] ∷ p.0, p.1) (before_line b p)) q
joined_line true b (ls, p) ([], r) = refl
joined_line true b (ls, p) (m ∷ ms, r) = refl
joined_line false b ([], p) ([], r) = refl
joined_line false b ([], p) (m ∷ ms, r) = refl
joined_line false b (l ∷ ls, p) ([], r) = refl
joined_line false b (l ∷ ls, p) (m ∷ ms, r) = refl

cut_joined : (bytes more : List ℕ) → cut (bytes ++ more) ≡ joined (cut bytes) (cut more)
cut_joined [] more = joined_none (cut more)
cut_joined (b ∷ bytes) more = rw (cut_joined bytes more) (joined_line (eqb b 10) b (cut bytes) (cut more))

-- What follows goes on with the line.
goes_on : (ls : List (List ℕ)) (p : List ℕ) (q : Lines) (x : ℕ) (xs : List ℕ) → p ≡ x ∷ xs →
    (front : List ℕ) × (rest : List (List ℕ)) × ((joined (ls, p) q).0 ++ last_line (joined (ls, p) q).1 ≡ ls ++ (p ++ front) ∷ rest)
goes_on ls p ([], r) x xs e = (r, [], rw e refl)
goes_on ls p (m ∷ ms, r) x xs e = (m, ms ++ last_line r, append_assoc ls ((p ++ m) ∷ ms) (last_line r))

-- A strange byte stays among the first.
any_more : (n : ℕ) (xs more : List ℕ) → list_any is_strange (take n xs) ≡ true → list_any is_strange (take n (xs ++ more)) ≡ true
any_more zero xs more h = absurd cc
any_more (suc n) [] more h = absurd cc
any_more (suc n) (x ∷ xs) more h = by (is_strange x) refl h (any_more n xs more)
  where
    by : (c : Bool) → is_strange x ≡ c → list_any is_strange (take (suc n) (x ∷ xs)) ≡ true → (list_any is_strange (take n xs) ≡ true → list_any is_strange (take n (xs ++ more)) ≡ true) → list_any is_strange (take (suc n) ((x ∷ xs) ++ more)) ≡ true
    by true e k rest = rw e refl
    by false e k rest = let strange : list_any is_strange (take n xs) ≡ true = rw e at k in rw e (rest strange)

-- The line is at fault by its strange byte.
strange_line : (s : Sheet) (line : List ℕ) (rest : List (List ℕ)) → any_strange (take 256 line) ≡ true → judged s (line ∷ rest) ≡ Err (s.count + 1, 1)
strange_line s line rest h = let e : first_true (sentences s line) ≡ Some 1 = rw h refl in rw e refl

strange_answer : (s : Sheet) (bytes more : List ℕ) → judged empty (cut bytes).0 ≡ Ok s → any_strange (take 256 (cut bytes).1) ≡ true → answer_of (bytes ++ more) ≡ Err (s.count + 1, 1)
strange_answer s bytes more h strange = by (cut bytes).1 refl
  where
    by : (p : List ℕ) → (cut bytes).1 ≡ p → answer_of (bytes ++ more) ≡ Err (s.count + 1, 1)
    by [] e = absurd (let none : any_strange (take 256 []) ≡ true = rw e at strange in cc)
    by (x ∷ xs) e =
        let goes = goes_on (cut bytes).0 (cut bytes).1 (cut more) x xs e in
        let lines : text_lines (bytes ++ more) ≡ (cut bytes).0 ++ ((cut bytes).1 ++ goes.0) ∷ goes.1 = ap (λ (q : Lines). q.0 ++ last_line q.1) (cut_joined bytes more) ∙ goes.2 in
        let fails : judged s (((cut bytes).1 ++ goes.0) ∷ goes.1) ≡ Err (s.count + 1, 1) = strange_line s ((cut bytes).1 ++ goes.0) goes.1 (any_more 256 (cut bytes).1 goes.0 strange) in
        ap (λ (ls : List (List ℕ)). ended (judged empty ls)) lines ∙ ap ended (judged-append_ok empty s (cut bytes).0 (((cut bytes).1 ++ goes.0) ∷ goes.1) h ∙ fails)

settled_by_strange : (s : Sheet) (bytes : List ℕ) → judged empty (cut bytes).0 ≡ Ok s → any_strange (take 256 (cut bytes).1) ≡ true → IsSettled bytes
settled_by_strange s bytes h strange more =
    strange_answer s bytes more h strange ∙ sym (subst (λ (t : List ℕ). answer_of t ≡ Err (s.count + 1, 1)) (append-[] bytes) (strange_answer s bytes [] h strange))

-- ---- a reader

-- A reader that was fed the model has met a fault.
pub settled : (r : Reading) (text : List ℕ) (fed : Result (Unit {0}) ReadFault) → HasRead r text → IsAnswerSoFar text fed → ((fault : ReadFault) → r.fault ≡ Some fault → fed ≡ Err fault) → IsFault fed r.pending → IsSettled text
settled r text (Err OutOfMemory) h so_far kept is = absurd is
settled r text (Err (Text line cause)) h so_far kept is = settled_by_line text line (number_of_cause cause) so_far
settled r text (Ok u) h so_far kept is = by r.fault refl
  where
    by : (o : Option ReadFault) → r.fault ≡ o → IsSettled text
    by (Some fault) e = absurd (let no : Ok u ≡ Err fault = kept fault e in cc)
    by None e = let read = rw e at h in settled_by_strange r.sheet text read.0 (rw read.1 at is)

pub if_true : {A B E : Type 0} → (r : Result Bool E) → IfOk r (λ b. b ≡ true → A) → (A → B) → IfOk r (λ b. b ≡ true → B)
if_true (Ok b) h f = λ is. f (h is)
if_true (Err e) h f = tt

-- ---- what is kept

-- The bytes that were kept, and those that weren't.
abbrev pub IsEnough : Bool → List ℕ → List ℕ → Type 0
IsEnough true kept rest = IsSettled kept
IsEnough false kept rest = rest ≡ []

pub keeps_enough : (b : Bool) (kept rest : List ℕ) → IsEnough b kept rest → KeepsEnough kept rest
keeps_enough true kept rest h = inr h
keeps_enough false kept rest h = inl h

pub piece_kept : (b c : Bool) (old rest piece new : List ℕ) → IsEnough b old rest → KeepsPiece b old piece new c → (left : List ℕ) × ((old ++ rest) ++ piece ≡ new ++ left) × IsEnough c new left
piece_kept true c old rest piece new h k = (rest ++ piece, append_assoc old rest piece ∙ ap (λ us. us ++ (rest ++ piece)) (sym k.0), rw (k.1, k.0) h)
piece_kept false true old rest piece new h k = ([], ap (λ us. (old ++ us) ++ piece) h ∙ ap (λ us. us ++ piece) (append-[] old) ∙ sym k.0 ∙ sym (append-[] new), k.1 refl)
piece_kept false false old rest piece new h k = ([], ap (λ us. (old ++ us) ++ piece) h ∙ ap (λ us. us ++ piece) (append-[] old) ∙ sym k.0 ∙ sym (append-[] new), refl)

pub consumes_both : (a b c : Option (List ℕ)) (s t u : List ℕ) → s ++ t ≡ u → Consumes a b s → Consumes b c t → Consumes a c u
consumes_both None b c s t u e p q = tt
consumes_both (Some xs) None c s t u e p q = absurd p
consumes_both (Some xs) (Some ys) None s t u e p q = q
consumes_both (Some xs) (Some ys) (Some zs) s t u e p q = p ∙ ap (λ us. s ++ us) q ∙ sym (append_assoc s t zs) ∙ ap (λ us. us ++ zs) e

pub bound_kept : (b c : Bool) (old piece new : List ℕ) (room turn : ℕ) → KeepsPiece b old piece new c → length piece ≤ room → (b ≡ false → length old + room ≤ max 2097664 (length old + 8)) →
    length old ≤ 2097664 + 8 * turn → length new ≤ 2097664 + 8 * (turn + 1)
bound_kept true c old piece new room turn k short few h = omega (arith, ap length k.0, h)
bound_kept false c old piece new room turn k short few h = omega (arith, ap length k.0, length-append old piece, short, few refl, h)

pub long_kept : (old rest piece new left : List ℕ) (turn : ℕ) → (old ++ rest) ++ piece ≡ new ++ left → 0 < length piece → turn ≤ length (old ++ rest) → turn + 1 ≤ length (new ++ left)
long_kept old rest piece new left turn e some h = omega (arith, ap length e, length-append (old ++ rest) piece, some, h)

-- The answer for what was kept is that for all bytes.
pub same_answer : (kept rest : List ℕ) → KeepsEnough kept rest → answer_of (kept ++ rest) ≡ answer_of kept
same_answer kept rest h = elim h [
  | inl e ↦ ap (λ us. answer_of (kept ++ us)) e ∙ ap answer_of (append-[] kept)
  | inr settled ↦ settled rest
]
