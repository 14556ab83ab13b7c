-- Lines that come one after another, and pieces.
use Rattle.std.proofs.Common.{◌≡◌, ℕ, suc, ◌+◌, ◌-◌, ◌<◌, List, [], ◌∷◌, ◌++◌, length, take, drop, get_or, Bool, true, false, cond, eqb, Option, Some, None, Result, Ok, Err, refl, sym, ap, subst, ◌∙◌, append_assoc, arith, length-drop}
use Rattle.std.proofs.lemmas.Bool.{false_from_ne_true, eqb-true}
use Rattle.std.proofs.lemmas.List.{append-nil, take-append-drop, take-take, drop-take, take_more, get_or-drop}
use Rattle.memchr.specs.Find.{Nowhere, Passes, is_byte}
use Rattle.rc_lang.specs.Program.{Program}
use Rattle.rc_read.specs.Answer.{above_fault, on_line, judged, ended, answer_of}
use Rattle.rc_read.specs.Causes.{number_of_cause}
use Rattle.rc_read.specs.Pieces.{fault_in, ReadsMore, IsSoundBy, without_parts}
use Rattle.rc_read.specs.Sentences.{sentences, first_true}
use Rattle.rc_read.specs.Sheets.{Sheet, empty}
use Rattle.rc_read.specs.Adds.{with_line}
use Rattle.rc_read.specs.Stream.{Reads, HasRead, Reading, IsAnswer, IsAnswerSoFar, IsReached, IsReachedOrFaulty, Judges, JudgesAll, JudgesEnd, Ends, StopsAt, IsReadAs}
use Rattle.rc_read.specs.Words.{cut, before_line, last_line, text_lines}
use Rattle.rc_read.specs.declared.fault.ReadFault.{ReadFault}
use Rattle.rc_read.specs.declared.fault.ReadFault.TheVariants.{Text, OutOfMemory}
use Rattle.rc_read.specs.declared.parts.Unread.{Unread}
use Rattle.rc_read.specs.View.{view_sheet}
use Rattle.std.specs.Prelude.{is_none}

abbrev pub ok : Result (Unit {0}) ReadFault
ok = Ok tt

-- ---- lines

ok_then : (o : Option ℕ) (n : ℕ) (t : Sheet) (rest more end : Result Sheet (ℕ × ℕ)) → (rest ≡ Ok t → more ≡ end) → on_line o n rest ≡ Ok t → on_line o n more ≡ end
ok_then None n t rest more end h e = h e
ok_then (Some m) n t rest more end h e = absurd cc

err_then : (o : Option ℕ) (n : ℕ) (f : ℕ × ℕ) (rest more : Result Sheet (ℕ × ℕ)) → (rest ≡ Err f → more ≡ Err f) → on_line o n rest ≡ Err f → on_line o n more ≡ Err f
err_then None n f rest more h e = h e
err_then (Some m) n f rest more h e = e

ok_is : (s t : Sheet) (r : Result Sheet (ℕ × ℕ)) → r ≡ Ok s → r ≡ Ok t → s ≡ t
ok_is s t r p q = cc

pub judged-append_ok : (s t : Sheet) (ls ms : List (List ℕ)) → judged s ls ≡ Ok t → judged s (ls ++ ms) ≡ judged t ms
judged-append_ok s t [] ms e = ap (λ (x : Sheet). judged x ms) (ok_is s t (Ok s) refl e)
judged-append_ok s t (l ∷ ls) ms e =
    ok_then (first_true (sentences s l)) (s.count + 1) t (judged (with_line s l) ls) (judged (with_line s l) (ls ++ ms)) (judged t ms) (judged-append_ok (with_line s l) t ls ms) e

pub judged-append_err : (s : Sheet) (f : ℕ × ℕ) (ls ms : List (List ℕ)) → judged s ls ≡ Err f → judged s (ls ++ ms) ≡ Err f
judged-append_err s f [] ms e = absurd cc
judged-append_err s f (l ∷ ls) ms e =
    err_then (first_true (sentences s l)) (s.count + 1) f (judged (with_line s l) ls) (judged (with_line s l) (ls ++ ms)) (judged-append_err (with_line s l) f ls ms) e

-- ---- what is above a fault

above_then : (o : Option ℕ) (n : ℕ) (s t : Sheet) (rest : Result Sheet (ℕ × ℕ)) (above more : Sheet) → (rest ≡ Ok t → more ≡ above) → on_line o n rest ≡ Ok t → cond (is_none o) more s ≡ above
above_then None n s t rest above more h e = h e
above_then (Some m) n s t rest above more h e = absurd cc

above_same : (o : Option ℕ) (n : ℕ) (s : Sheet) (f : ℕ × ℕ) (rest : Result Sheet (ℕ × ℕ)) (above more : Sheet) → (rest ≡ Err f → more ≡ above) → on_line o n rest ≡ Err f → cond (is_none o) more s ≡ cond (is_none o) above s
above_same None n s f rest above more h e = h e
above_same (Some m) n s f rest above more h e = refl

pub above-append_ok : (s t : Sheet) (ls ms : List (List ℕ)) → judged s ls ≡ Ok t → above_fault s (ls ++ ms) ≡ above_fault t ms
above-append_ok s t [] ms e = ap (λ (x : Sheet). above_fault x ms) (ok_is s t (Ok s) refl e)
above-append_ok s t (l ∷ ls) ms e =
    above_then (first_true (sentences s l)) (s.count + 1) s t (judged (with_line s l) ls) (above_fault t ms) (above_fault (with_line s l) (ls ++ ms)) (above-append_ok (with_line s l) t ls ms) e

pub above-append_err : (s : Sheet) (f : ℕ × ℕ) (ls ms : List (List ℕ)) → judged s ls ≡ Err f → above_fault s (ls ++ ms) ≡ above_fault s ls
above-append_err s f [] ms e = absurd cc
above-append_err s f (l ∷ ls) ms e =
    above_same (first_true (sentences s l)) (s.count + 1) s f (judged (with_line s l) ls) (above_fault (with_line s l) ls) (above_fault (with_line s l) (ls ++ ms)) (above-append_err (with_line s l) f ls ms) e

-- ---- bytes

push_line_by : (b : ℕ) (p : List (List ℕ) × List ℕ) → before_line b (p.0 ++ p.1 ∷ [], []) ≡ ((before_line b p).0 ++ (before_line b p).1 ∷ [], [])
push_line_by b ([], rest) = refl
push_line_by b (l ∷ ls, rest) = refl

cond_pair : {A : Type 0} (f : A → A) (c : Bool) (x y x' y' : A) → x' ≡ f x → y' ≡ f y → cond c x' y' ≡ f (cond c x y)
cond_pair f true x y x' y' p q = p
cond_pair f false x y x' y' p q = q

-- one more line feed
abbrev fed : List (List ℕ) × List ℕ → List (List ℕ) × List ℕ
fed p = (p.0 ++ p.1 ∷ [], [])

cut-push_line : (bytes : List ℕ) → cut (bytes ++ 10 ∷ []) ≡ fed (cut bytes)
cut-push_line [] = refl
cut-push_line (b ∷ bytes) =
    let e = cut-push_line bytes in
    cond_pair fed (eqb b 10) ([] ∷ (cut bytes).0, (cut bytes).1) (before_line b (cut bytes)) _ _
    (rw e refl) (rw e (push_line_by b (cut bytes)))

-- bytes of a line
abbrev pub NoFeedBefore : List ℕ → ℕ → Type 0
NoFeedBefore bytes i = Nowhere (Passes (is_byte 10) bytes) 0 i

abbrev pub NoFeed : List ℕ → Type 0
NoFeed front = NoFeedBefore front (length front)

grows : (c : Bool) (b : ℕ) (front : List ℕ) (p : List (List ℕ) × List ℕ) (q : List (List ℕ) × List ℕ) → c ≡ false → p ≡ ([], front) → cond c q (before_line b p) ≡ ([], b ∷ front)
grows true b front p q e f = absurd cc
grows false b front p q e f = rw f refl

cut_front : (front : List ℕ) → NoFeed front → cut front ≡ ([], front)
cut_front [] h = refl
cut_front (b ∷ front) h =
    grows (eqb b 10) b front (cut front) ([] ∷ (cut front).0, (cut front).1) (false_from_ne_true (eqb b 10) (h 0 (omega arith) (omega arith)))
    (cut_front front (λ k low high p. h (suc k) (omega arith) (omega (arith, high)) p))

-- more bytes of a line
abbrev grown : List ℕ → List (List ℕ) × List ℕ → List (List ℕ) × List ℕ
grown xs p = (p.0, p.1 ++ xs)

front_by : (b : ℕ) (xs : List ℕ) (p : List (List ℕ) × List ℕ) → before_line b (grown xs p) ≡ grown xs (before_line b p)
front_by b xs ([], rest) = refl
front_by b xs (l ∷ ls, rest) = refl

cut-append_front : (bytes front : List ℕ) → NoFeed front → cut (bytes ++ front) ≡ grown front (cut bytes)
cut-append_front [] front h = cut_front front h
cut-append_front (b ∷ bytes) front h =
    let e = cut-append_front bytes front h in
    cond_pair (grown front) (eqb b 10) ([] ∷ (cut bytes).0, (cut bytes).1) (before_line b (cut bytes)) _ _
    (rw e refl) (rw e (front_by b front (cut bytes)))

cut_more_by : (b : ℕ) (p q : List (List ℕ) × List ℕ) (ls : List (List ℕ)) → q.0 ≡ p.0 ++ ls → (ms : List (List ℕ)) × ((before_line b q).0 ≡ (before_line b p).0 ++ ms)
cut_more_by b ([], r) ([], t) ls e = ([], refl)
cut_more_by b ([], r) (m ∷ ms, t) ls e = ((b ∷ m) ∷ ms, refl)
cut_more_by b (l ∷ ls', r) ([], t) ls e = absurd cc
cut_more_by b (l ∷ ls', r) (m ∷ ms, t) ls e = let h : m ≡ l = cc in let k : ms ≡ ls' ++ ls = cc in (ls, rw (h, k) refl)

cut_line_by : (p q : List (List ℕ) × List ℕ) (c : Bool) (b : ℕ) (ls : List (List ℕ)) → q.0 ≡ p.0 ++ ls → (ms : List (List ℕ)) × ((cond c ([] ∷ q.0, q.1) (before_line b q)).0 ≡ (cond c ([] ∷ p.0, p.1) (before_line b p)).0 ++ ms)
cut_line_by p q true b ls e = (ls, ap (λ (x : List (List ℕ)). [] ∷ x) e)
cut_line_by p q false b ls e = cut_more_by b p q ls e

-- the lines of a beginning are the first lines of the whole
cut_more : (bytes piece : List ℕ) → (ms : List (List ℕ)) × ((cut (bytes ++ piece)).0 ≡ (cut bytes).0 ++ ms)
cut_more [] piece = ((cut piece).0, refl)
cut_more (b ∷ bytes) piece = let h = cut_more bytes piece in cut_line_by (cut bytes) (cut (bytes ++ piece)) (eqb b 10) b h.0 h.1

-- ---- what has been read

fault_stays : (f : ReadFault) (s : Sheet) (p p' bytes piece : List ℕ) → Reads (Some f) s p bytes → Reads (Some f) s p' (bytes ++ piece)
fault_stays OutOfMemory s p p' bytes piece h = tt
fault_stays (Text line cause) s p p' bytes piece h =
    let m = cut_more bytes piece in
    let f : ℕ × ℕ = (line, number_of_cause cause) in
    rw m.1 (judged-append_err empty f (cut bytes).0 m.0 h.0, h.1 ∙ sym (above-append_err empty f (cut bytes).0 m.0 h.0))

abbrev as_ok : Sheet → Result Sheet (ℕ × ℕ)
as_ok s = Ok s

abbrev as_err : ℕ → ℕ → Result Sheet (ℕ × ℕ)
as_err line number = Err (line, number)

none_goes : (s : Sheet) (line : List ℕ) → first_true (sentences s line) ≡ None → judged s (line ∷ []) ≡ Ok (with_line s line)
none_goes s line e = rw e refl

some_ends : (s : Sheet) (line : List ℕ) (n : ℕ) → first_true (sentences s line) ≡ Some n → (judged s (line ∷ []) ≡ Err (s.count + 1, n)) × (above_fault s (line ∷ []) ≡ s)
some_ends s line n e = rw e (refl, refl)

-- what is said of one line is said of the lines that are this one
one_line : (r : Result (Unit {0}) ReadFault) (s s' : Sheet) (line : List ℕ) → Judges s line s' r → JudgesAll s (line ∷ []) s' r
one_line (Ok u) s s' line j = none_goes s line j.0 ∙ ap as_ok (sym j.1)
one_line (Err (Text line cause)) s s' l j =
    let p = some_ends s l (number_of_cause cause) j.0 in
    (p.0 ∙ ap (λ (n : ℕ). as_err n (number_of_cause cause)) (sym j.1), j.2 ∙ sym p.1)
one_line (Err OutOfMemory) s s' line j = tt

reads_line : (r : Result (Unit {0}) ReadFault) (s s' : Sheet) (bytes : List ℕ) → judged empty (cut bytes).0 ≡ Ok s → JudgesAll s ((cut bytes).1 ∷ []) s' r → Reads (fault_in r) s' [] (bytes ++ 10 ∷ [])
reads_line (Ok u) s s' bytes h j = rw (cut-push_line bytes) (judged-append_ok empty s (cut bytes).0 ((cut bytes).1 ∷ []) h ∙ j, refl)
reads_line (Err (Text line cause)) s s' bytes h j =
    let last = (cut bytes).1 ∷ [] in
    rw (cut-push_line bytes) (judged-append_ok empty s (cut bytes).0 last h ∙ j.0, j.1 ∙ sym (above-append_ok empty s (cut bytes).0 last h))
reads_line (Err OutOfMemory) s s' bytes h j = tt

reads_front : (s : Sheet) (pending bytes front : List ℕ) → NoFeed front → Reads None s pending bytes → Reads None s (pending ++ front) (bytes ++ front)
reads_front s pending bytes front n h = rw (cut-append_front bytes front n) (h.0, ap (λ (x : List ℕ). x ++ front) h.1)

-- a line feed after the bytes of a line
pub ends : (r : Result (Unit {0}) ReadFault) (s s' : Sheet) (pending front line p : List ℕ) → NoFeed front → line ≡ pending ++ front → p ≡ [] → Judges s line s' r → ReadsMore s pending (front ++ 10 ∷ []) s' p r
ends r s s' pending front line p n el ep t = λ bytes h.
    let g = reads_front s pending bytes front n h in
    let e : line ≡ (cut (bytes ++ front)).1 = el ∙ g.1 in
    let j : JudgesAll s ((cut (bytes ++ front)).1 ∷ []) s' r = subst (λ (x : List ℕ). JudgesAll s (x ∷ []) s' r) e (one_line r s s' line t) in
    let k = subst (λ (x : List ℕ). Reads (fault_in r) s' x ((bytes ++ front) ++ 10 ∷ [])) (sym ep) (reads_line r s s' (bytes ++ front) g.0 j) in
    subst (λ (x : List ℕ). Reads (fault_in r) s' p x) (append_assoc bytes front (10 ∷ [])) k

-- ---- the end

pub answer_is : (s : Sheet) (pending bytes : List ℕ) → Reads None s pending bytes → answer_of bytes ≡ ended (judged s (last_line pending))
answer_is s pending bytes h = ap ended (judged-append_ok empty s (cut bytes).0 (last_line (cut bytes).1) h.0) ∙ ap (λ (p : List ℕ). ended (judged s (last_line p))) (sym h.1)

above_is : (s : Sheet) (pending bytes : List ℕ) → Reads None s pending bytes → above_fault empty (text_lines bytes) ≡ above_fault s (last_line pending)
above_is s pending bytes h = above-append_ok empty s (cut bytes).0 (last_line (cut bytes).1) h.0 ∙ ap (λ (p : List ℕ). above_fault s (last_line p)) (sym h.1)

pub fault_answer : (line number : ℕ) (bytes : List ℕ) → judged empty (cut bytes).0 ≡ Err (line, number) → answer_of bytes ≡ Err (line, number)
fault_answer line number bytes h = ap ended (judged-append_err empty (line, number) (cut bytes).0 (last_line (cut bytes).1) h)

-- ---- as the reader goes

fault_answers : (f : ReadFault) (s : Sheet) (p bytes : List ℕ) → Reads (Some f) s p bytes → StopsAt bytes f s
fault_answers OutOfMemory s p bytes h = tt
fault_answers (Text line cause) s p bytes h =
    let f : ℕ × ℕ = (line, number_of_cause cause) in
    (fault_answer line (number_of_cause cause) bytes h.0, h.1 ∙ sym (above-append_err empty f (cut bytes).0 (last_line (cut bytes).1) h.0))

rest_fails : (f : ReadFault) (s s' : Sheet) (pending bytes : List ℕ) → JudgesAll {X = Unit {0}} s (last_line pending) s' (Err f) → Reads None s pending bytes → StopsAt bytes f s'
rest_fails OutOfMemory s s' pending bytes j h = tt
rest_fails (Text line cause) s s' pending bytes j h = (answer_is s pending bytes h ∙ ap ended j.0, j.1 ∙ sym (above_is s pending bytes h))

all_read : (s s' : Sheet) (pending bytes : List ℕ) → judged s (last_line pending) ≡ Ok s' → Reads None s pending bytes → s' ≡ above_fault empty (text_lines bytes)
all_read s s' pending bytes j h = sym (above_is s pending bytes h ∙ ap (above_fault s) (sym (append-nil (last_line pending))) ∙ above-append_ok s s' (last_line pending) [] j)

end_fails : (f : ReadFault) (s s' : Sheet) (pending bytes : List ℕ) → judged s (last_line pending) ≡ Ok s' → JudgesEnd {X = Unit {0}} s' (Err f) → Reads None s pending bytes → StopsAt bytes f s'
end_fails OutOfMemory s s' pending bytes j k h = tt
end_fails (Text line cause) s s' pending bytes j k h = (answer_is s pending bytes h ∙ ap ended j ∙ k, all_read s s' pending bytes j h)

end_answers : (r : Result Program Unread) (s s' : Sheet) (pending bytes : List ℕ) → judged s (last_line pending) ≡ Ok s' → Ends s' r → Reads None s pending bytes → IsReadAs bytes r
end_answers (Ok p) s s' pending bytes j k h = answer_is s pending bytes h ∙ ap ended j ∙ k
end_answers (Err unread) s s' pending bytes j k h = subst (StopsAt bytes unread.fault) (sym k.1) (end_fails unread.fault s s' pending bytes j k.0 h)

reads_none : (o : Option ReadFault) (s : Sheet) (pending bytes : List ℕ) → o ≡ None → Reads o s pending bytes → Reads None s pending bytes
reads_none o s pending bytes e h = subst (λ f. Reads f s pending bytes) e h

pub keeps_fault : (o : Option ReadFault) (f : ReadFault) (s : Sheet) (p bytes piece : List ℕ) → o ≡ Some f → Reads o s p bytes → Reads o s p (bytes ++ piece)
keeps_fault o f s p bytes piece e h =
    subst (λ (x : Option ReadFault). Reads x s p (bytes ++ piece)) (sym e) (fault_stays f s p p bytes piece (subst (λ (x : Option ReadFault). Reads x s p bytes) e h))

pub fault_finishes : (o : Option ReadFault) (f : ReadFault) (s : Sheet) (p bytes : List ℕ) → o ≡ Some f → Reads o s p bytes → StopsAt bytes f s
fault_finishes o f s p bytes e h = fault_answers f s p bytes (subst (λ (x : Option ReadFault). Reads x s p bytes) e h)

pub rest_finishes : (o : Option ReadFault) (f : ReadFault) (s s' : Sheet) (pending rest bytes : List ℕ) → o ≡ None → rest ≡ pending → JudgesAll {X = Unit {0}} s (last_line rest) s' (Err f) → Reads o s pending bytes → StopsAt bytes f s'
rest_finishes o f s s' pending rest bytes eo ep j h =
    rest_fails f s s' pending bytes (subst (λ (x : List ℕ). JudgesAll {X = Unit {0}} s (last_line x) s' (Err f)) ep j) (reads_none o s pending bytes eo h)

pub end_finishes : (o : Option ReadFault) (s s' : Sheet) (pending rest bytes : List ℕ) (r : Result Program Unread) → o ≡ None → rest ≡ pending → judged s (last_line rest) ≡ Ok s' → Ends s' r → Reads o s pending bytes → IsReadAs bytes r
end_finishes o s s' pending rest bytes r eo ep j k h =
    let j' = subst (λ (x : List ℕ). judged s (last_line x) ≡ Ok s') ep j in
    end_answers r s s' pending bytes j' k (reads_none o s pending bytes eo h)

stopped : (f : ReadFault) (s : Sheet) (bytes : List ℕ) → StopsAt bytes f s → IsAnswer bytes (Err f)
stopped (Text line cause) s bytes h = h.0
stopped OutOfMemory s bytes h = tt

-- the answer alone
pub answers_alone : (r : Result Program Unread) (bytes : List ℕ) → IsReadAs bytes r → IsAnswer bytes (without_parts r)
answers_alone (Ok p) bytes h = h
answers_alone (Err unread) bytes h = stopped unread.fault (view_sheet unread.parts) bytes h

-- ---- a reader whose fields are seen

pub sound_by : (s s' : Sheet) (line : List ℕ) (r : Result (Unit {0}) ReadFault) → Judges s line s' r → IsReached s → IsSoundBy r s'
sound_by s s' line (Ok u) j h =
    (h.0 ++ line ∷ [], judged-append_ok empty s h.0 (line ∷ []) h.1 ∙ none_goes s line j.0 ∙ ap as_ok (sym j.1))
sound_by s s' line (Err f) j h = tt

pub sound_ok : (r : Result (Unit {0}) ReadFault) (s : Sheet) → r ≡ Ok tt → IsSoundBy r s → IsReached s
sound_ok r s e h = subst (λ (x : Result (Unit {0}) ReadFault). IsSoundBy x s) e h

pub reached_end : (o : Option ReadFault) (s s' : Sheet) (pending rest : List ℕ) → o ≡ None → rest ≡ pending → judged s (last_line rest) ≡ Ok s' → IsReachedOrFaulty o s → IsReached s'
reached_end o s s' pending rest eo ep j h =
    let lines = subst (λ (x : Option ReadFault). IsReachedOrFaulty x s) eo h in
    (lines.0 ++ last_line rest, judged-append_ok empty s lines.0 (last_line rest) lines.1 ∙ j)

pub fault_seen : (r v : Reading) (o : Option ReadFault) → r ≡ v → v.fault ≡ o → r.fault ≡ o
fault_seen r v o e k = ap (λ (x : Reading). x.fault) e ∙ k

pub has_read : (r v : Reading) (bytes : List ℕ) → r ≡ v → HasRead v bytes → HasRead r bytes
has_read r v bytes e h = subst (λ (x : Reading). HasRead x bytes) (sym e) h

-- ---- the answer of a piece

so_far_by : (f : ReadFault) (s : Sheet) (p bytes : List ℕ) → Reads (Some f) s p bytes → IsAnswerSoFar {X = Unit {0}} bytes (Err f)
so_far_by OutOfMemory s p bytes h = tt
so_far_by (Text line cause) s p bytes h = h.0

pub so_far_err : (o : Option ReadFault) (f : ReadFault) (s : Sheet) (p bytes : List ℕ) → o ≡ Some f → Reads o s p bytes → IsAnswerSoFar {X = Unit {0}} bytes (Err f)
so_far_err o f s p bytes e h = so_far_by f s p bytes (subst (λ (x : Option ReadFault). Reads x s p bytes) e h)

-- ---- a piece

pub fed_ok : (r : Result (Unit {0}) ReadFault) (s s' : Sheet) (p p' : List ℕ) (bytes more whole : List ℕ) → r ≡ Ok tt → bytes ++ more ≡ whole → ReadsMore s p more s' p' r → Reads None s p bytes → Reads None s' p' whole
fed_ok r s s' p p' bytes more whole er e k h =
    subst (λ (x : List ℕ). Reads None s' p' x) e (subst (λ (x : Result (Unit {0}) ReadFault). Reads (fault_in x) s' p' (bytes ++ more)) er (k bytes h))

pub split_at : (piece : List ℕ) (at i : ℕ) → take (at + i) piece ≡ take at piece ++ take i (drop at piece)
split_at piece at i =
    sym (take-append-drop at (take (at + i) piece)) ∙ ap (λ (x : List ℕ). x ++ drop at (take (at + i) piece)) (take-take at (at + i) piece (omega arith)) ∙ ap (λ (x : List ℕ). take at piece ++ x) (drop-take at i piece)

pub below_end : (piece hay : List ℕ) (at i : ℕ) → hay ≡ drop at piece → i < length hay → at + i < length piece
below_end piece hay at i e lt = omega (arith, lt, ap length e, length-drop at piece)

-- the line that ends at place at + i of the piece
line_at : (bytes piece hay : List ℕ) (at i : ℕ) → hay ≡ drop at piece → i < length hay → eqb (get_or hay i 0) 10 ≡ true → (bytes ++ take at piece) ++ (take (at + i - at) (drop at piece) ++ 10 ∷ []) ≡ bytes ++ take (at + i + 1) piece
line_at bytes piece hay at i e lt p =
    let b : get_or piece (at + i) 0 ≡ 10 = sym (get_or-drop at piece i 0) ∙ ap (λ (x : List ℕ). get_or x i 0) (sym e) ∙ eqb-true (get_or hay i 0) 10 p in
    let n : at + i - at ≡ i = omega arith in
    let t : take (at + i + 1) piece ≡ (take at piece ++ take i (drop at piece)) ++ 10 ∷ [] =
    take_more piece (at + i) 0 (below_end piece hay at i e lt) ∙ ap (λ (x : ℕ). take (at + i) piece ++ x ∷ []) b ∙ ap (λ (x : List ℕ). x ++ 10 ∷ []) (split_at piece at i) in
    rw (n, t) (simp append_assoc)

pub err_reads : (r e : Result (Unit {0}) ReadFault) (f : ReadFault) (s : Sheet) (p p' bytes line piece : List ℕ) (n : ℕ) → r ≡ Err f → e ≡ Err f → line ≡ bytes ++ take n piece → Reads (fault_in e) s p line → Reads (fault_in r) s p' (bytes ++ piece)
err_reads r e f s p p' bytes line piece n er ee el h =
    let g : Reads (Some f) s p line = subst (λ (x : Result (Unit {0}) ReadFault). Reads (fault_in x) s p line) ee h in
    let m : Reads (Some f) s p' ((bytes ++ take n piece) ++ drop n piece) = fault_stays f s p p' (bytes ++ take n piece) (drop n piece) (subst (λ (x : List ℕ). Reads (Some f) s p x) el g) in
    let w : (bytes ++ take n piece) ++ drop n piece ≡ bytes ++ piece = append_assoc bytes (take n piece) (drop n piece) ∙ ap (λ (x : List ℕ). bytes ++ x) (take-append-drop n piece) in
    subst (λ (x : Result (Unit {0}) ReadFault). Reads (fault_in x) s p' (bytes ++ piece)) (sym er) (subst (λ (x : List ℕ). Reads (Some f) s p' x) w m)

-- the lines before this one, and this one
pub line_more : (r : Result (Unit {0}) ReadFault) (s0 s s' : Sheet) (p0 p p' piece hay : List ℕ) (at i : ℕ) → hay ≡ drop at piece → i < length hay → eqb (get_or hay i 0) 10 ≡ true → r ≡ Ok tt → ReadsMore s p (take (at + i - at) (drop at piece) ++ 10 ∷ []) s' p' r → ReadsMore s0 p0 (take at piece) s p ok → ReadsMore s0 p0 (take (at + i + 1) piece) s' p' ok
line_more r s0 s s' p0 p p' piece hay at i e lt b er k g = λ bytes h.
    fed_ok r s s' p p' (bytes ++ take at piece) (take (at + i - at) (drop at piece) ++ 10 ∷ []) (bytes ++ take (at + i + 1) piece) er (line_at bytes piece hay at i e lt b) k (g bytes h)

pub line_fails : (r e : Result (Unit {0}) ReadFault) (f : ReadFault) (s0 s s' : Sheet) (p0 p p' q piece hay : List ℕ) (at i : ℕ) → hay ≡ drop at piece → i < length hay → eqb (get_or hay i 0) 10 ≡ true → r ≡ Err f → e ≡ Err f → ReadsMore s p (take (at + i - at) (drop at piece) ++ 10 ∷ []) s' p' e → ReadsMore s0 p0 (take at piece) s p ok → ReadsMore s0 p0 piece s' q r
line_fails r e f s0 s s' p0 p p' q piece hay at i eh lt b er ee k g = λ bytes h.
    err_reads r e f s' p' q bytes ((bytes ++ take at piece) ++ (take (at + i - at) (drop at piece) ++ 10 ∷ [])) piece (at + i + 1) er ee (line_at bytes piece hay at i eh lt b) (k (bytes ++ take at piece) (g bytes h))

pub rest_more : (s0 s : Sheet) (p0 p q piece hay : List ℕ) (at : ℕ) → hay ≡ drop at piece → NoFeed hay → q ≡ p ++ hay → ReadsMore s0 p0 (take at piece) s p ok → ReadsMore s0 p0 piece s q ok
rest_more s0 s p0 p q piece hay at e n eq g = λ bytes h.
    let k = reads_front s p (bytes ++ take at piece) hay n (g bytes h) in
    let w : (bytes ++ take at piece) ++ hay ≡ bytes ++ piece =
    ap (λ (x : List ℕ). (bytes ++ take at piece) ++ x) e ∙ append_assoc bytes (take at piece) (drop at piece) ∙ ap (λ (x : List ℕ). bytes ++ x) (take-append-drop at piece) in
    subst (λ (x : List ℕ). Reads None s q x) w (subst (λ (x : List ℕ). Reads None s x ((bytes ++ take at piece) ++ hay)) (sym eq) k)

-- ---- what follows a fault

-- the fault of a beginning is the model's
pub fault_of_all : (bytes more : List ℕ) (fault : ℕ × ℕ) → judged empty (cut bytes).0 ≡ Err fault → answer_of (bytes ++ more) ≡ Err fault
fault_of_all bytes more fault h =
    let m = cut_more bytes more in
    let e : judged empty (cut (bytes ++ more)).0 ≡ Err fault = rw m.1 (judged-append_err empty fault (cut bytes).0 m.0 h) in
    fault_answer fault.0 fault.1 (bytes ++ more) e
