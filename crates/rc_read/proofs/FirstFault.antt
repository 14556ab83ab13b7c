-- The first line of which a sentence is true, and the least number there.
use Rattle.std.proofs.Common.{◌≡◌, ℕ, zero, suc, ◌+◌, ◌<◌, ◌≤◌, List, [], ◌∷◌, length, take, Bool, true, false, Option, Some, None, Result, Ok, Err, refl, sym, ap, subst, ◌∙◌, arith, inl, inr}
use Rattle.std.proofs.lemmas.Bool.{cases_lt, false≢true}
use Rattle.std.specs.Prelude.{slice_get, ◌⊎◌, Contains}
use Rattle.rc_lang.specs.Nesting.{innermost}
use Rattle.rc_lang.specs.Program.{Program}
use Rattle.rc_lang.specs.declared.lines.Block.{Block}
use Rattle.rc_read.specs.Adds.{added, closed, with_words, with_line, items, places_in, says}
use Rattle.rc_read.specs.Answer.{on_line, judged, ended, at_end, answer_of}
use Rattle.rc_read.specs.OneAnswer.{sheet_behind, IsTrueOf, IsFirstFault, IsEnd, HasAnswer}
use Rattle.rc_read.specs.Sentences.{sentences, word_sentences, first_true}
use Rattle.rc_read.specs.Sheets.{Sheet, empty, with_names}
use Rattle.rc_read.specs.Words.{text_lines, words_of}
use Rattle.rc_read.specs.declared.says.Says.{Says}
use Rattle.rc_read.specs.declared.says.Says.TheVariants.{Close}
use Rattle.rc_read.specs.declared.values.Item.{Item}

-- ---- one line

head_or_rest : (p x : ℕ × Bool) (ps : List (ℕ × Bool)) → Contains (p ∷ ps) x → (p ≡ x) ⊎ Contains ps x
head_or_rest p x ps (zero, lt, e) = inl e
head_or_rest p x ps (suc k, lt, e) = inr (k, omega arith, e)

in_rest : (p x : ℕ × Bool) (ps : List (ℕ × Bool)) → Contains ps x → Contains (p ∷ ps) x
in_rest p x ps (k, lt, e) = (suc k, omega arith, e)

none_true : (ps : List (ℕ × Bool)) (n : ℕ) → first_true ps ≡ None → ¬ Contains ps (n, true)
none_true [] n e (k, lt, h) = absurd (omega (arith, lt))
none_true ((m, true) ∷ ps) n e h = absurd cc
none_true ((m, false) ∷ ps) n e h = elim (head_or_rest (m, false) (n, true) ps h) [ inl q ↦ absurd (false≢true (ap (λ (x : ℕ × Bool). x.1) q)) | inr r ↦ none_true ps n e r ]

some_true : (ps : List (ℕ × Bool)) (n : ℕ) → first_true ps ≡ Some n → Contains ps (n, true)
some_true [] n e = absurd cc
some_true ((m, true) ∷ ps) n e = let f : m ≡ n = cc in (zero, omega arith, ap (λ (x : ℕ). (x, true)) f)
some_true ((m, false) ∷ ps) n e = in_rest (m, false) (n, true) ps (some_true ps n e)

-- the numbers rise from n on
abbrev Rise : ℕ → List (ℕ × Bool) → Type 0
Rise n [] = Unit {0}
Rise n (p ∷ ps) = (n ≤ p.0) × Rise p.0 ps

rise_over : (n m : ℕ) (ps : List (ℕ × Bool)) → Rise n ps → Contains ps (m, true) → n ≤ m
rise_over n m [] r (k, lt, h) = absurd (omega (arith, lt))
rise_over n m (p ∷ ps) r h =
    elim (head_or_rest p (m, true) ps h) [ inl q ↦ omega (arith, r.0, ap (λ (x : ℕ × Bool). x.0) q) | inr t ↦ omega (arith, r.0, rise_over p.0 m ps r.1 t) ]

least_by : (l n m : ℕ) (ps : List (ℕ × Bool)) → Rise l ps → first_true ps ≡ Some n → Contains ps (m, true) → n ≤ m
least_by l n m [] r e h = absurd cc
least_by l n m ((k, true) ∷ ps) r e h =
    let f : k ≡ n = cc in
    elim (head_or_rest (k, true) (m, true) ps h) [ inl q ↦ omega (arith, f, ap (λ (x : ℕ × Bool). x.0) q) | inr t ↦ omega (arith, f, rise_over k m ps r.1 t) ]
least_by l n m ((k, false) ∷ ps) r e h =
    elim (head_or_rest (k, false) (m, true) ps h) [ inl q ↦ absurd (false≢true (ap (λ (x : ℕ × Bool). x.1) q)) | inr t ↦ least_by k n m ps r.1 e t ]

words_rise : (s : Sheet) (line : List ℕ) (ws : List (List ℕ)) → Rise 1 (word_sentences s line ws)
words_rise s line [] = (omega arith, tt)
words_rise s line (w ∷ ws) = (omega arith, (omega arith, (omega arith, (omega arith, (omega arith, (omega arith, (omega arith, (omega arith, (omega arith, (omega arith, tt))))))))))

sentences_rise : (s : Sheet) (line : List ℕ) → Rise 0 (sentences s line)
sentences_rise s line = (omega arith, words_rise s line (words_of line))

-- ---- the number of a line

closed_count : (s : Sheet) (block : Option Block) → (closed s block).count ≡ s.count
closed_count s None = refl
closed_count s (Some b) = refl

added_count : (s : Sheet) (ws : List (List ℕ)) (items : List Item) (what : Says) → (added s ws items what).count ≡ s.count
added_count s ws items Close = closed_count s (innermost s.draft.blocks)
added_count s ws items _ = refl

words_count : (s : Sheet) (ws : List (List ℕ)) → (with_words s ws).count ≡ s.count
words_count s [] = refl
words_count s (w ∷ ws) = added_count (with_names s (places_in s (w ∷ ws))) (w ∷ ws) (items s (w ∷ ws)) (says s (w ∷ ws))

line_count : (s : Sheet) (line : List ℕ) → (with_line s line).count ≡ s.count + 1
line_count s line = ap (λ (n : ℕ). n + 1) (words_count s (words_of line))

-- ---- the lines after a sheet

abbrev TrueAt : Sheet → List (List ℕ) → ℕ → List ℕ → ℕ → Type 0
TrueAt s lines k line n = Contains (sentences (sheet_behind s (take k lines)) line) (n, true)

abbrev NoneBelow : Sheet → List (List ℕ) → ℕ → Type 0
NoneBelow s lines k = (j : ℕ) (line : List ℕ) (n : ℕ) → j < k → slice_get lines j ≡ Some line → ¬ TrueAt s lines j line n

record FirstAt (s : Sheet) (lines : List (List ℕ)) (l n : ℕ) : Type 0 where
  index : ℕ
  number : l ≡ s.count + index + 1
  line : List ℕ
  stands : slice_get lines index ≡ Some line
  none_above : NoneBelow s lines index
  holds : TrueAt s lines index line n
  least : (m : ℕ) → TrueAt s lines index line m → n ≤ m

none_more : (s : Sheet) (l : List ℕ) (lines : List (List ℕ)) (k : ℕ) → first_true (sentences s l) ≡ None → NoneBelow (with_line s l) lines k → NoneBelow s (l ∷ lines) (suc k)
none_more s l lines k e h zero line n lt g t =
    let f : l ≡ line = cc in
    none_true (sentences s l) n e (subst (λ (x : List ℕ). Contains (sentences s x) (n, true)) (sym f) t)
none_more s l lines k e h (suc j) line n lt g t = h j line n (omega arith) g t

abbrev Said : Sheet → List (List ℕ) → Result Sheet (ℕ × ℕ) → Type 0
Said s lines (Ok t) = (t ≡ sheet_behind s lines) × NoneBelow s lines (length lines)
Said s lines (Err f) = FirstAt s lines f.0 f.1

said_more : (s : Sheet) (l : List ℕ) (lines : List (List ℕ)) (r : Result Sheet (ℕ × ℕ)) → first_true (sentences s l) ≡ None → Said (with_line s l) lines r → Said s (l ∷ lines) r
said_more s l lines (Ok t) e h = (h.0, none_more s l lines (length lines) e h.1)
said_more s l lines (Err f) e h = record {
  index = suc h.index;
  number = omega (arith, h.number, line_count s l);
  line = h.line;
  stands = h.stands;
  none_above = none_more s l lines h.index e h.none_above;
  holds = h.holds;
  least = h.least;
}

said_first : (s : Sheet) (l : List ℕ) (lines : List (List ℕ)) (n : ℕ) → first_true (sentences s l) ≡ Some n → FirstAt s (l ∷ lines) (s.count + 1) n
said_first s l lines n e = record {
  index = 0;
  number = omega arith;
  line = l;
  stands = refl;
  none_above = λ j line m lt g t. absurd (omega (arith, lt));
  holds = some_true (sentences s l) n e;
  least = λ m t. least_by 0 n m (sentences s l) (sentences_rise s l) e t;
}

said_by : (o : Option ℕ) (s : Sheet) (l : List ℕ) (lines : List (List ℕ)) (r : Result Sheet (ℕ × ℕ)) → first_true (sentences s l) ≡ o → Said (with_line s l) lines r → Said s (l ∷ lines) (on_line o (s.count + 1) r)
said_by None s l lines r e h = said_more s l lines r e h
said_by (Some n) s l lines r e h = said_first s l lines n e

said : (s : Sheet) (lines : List (List ℕ)) → Said s lines (judged s lines)
said s [] = (refl, λ j line n lt g t. absurd (omega (arith, lt)))
said s (l ∷ lines) = said_by (first_true (sentences s l)) s l lines (judged (with_line s l) lines) refl (said (with_line s l) lines)

-- ---- the answer

answer_by : (bytes : List ℕ) (r : Result Program (ℕ × ℕ)) → IsEnd (text_lines bytes) r → HasAnswer bytes r
answer_by bytes (Ok p) h = h
answer_by bytes (Err f) h = inr h

has_by : (bytes : List ℕ) (r : Result Sheet (ℕ × ℕ)) → Said empty (text_lines bytes) r → HasAnswer bytes (ended r)
has_by bytes (Ok t) h =
    answer_by bytes (at_end t) (record { none = h.1; end = ap at_end (sym h.0) })
has_by bytes (Err f) h = inl (record {
  index = h.index;
  number = omega (arith, h.number);
  line = h.line;
  stands = h.stands;
  none_above = h.none_above;
  holds = h.holds;
  least = h.least;
})

pub has_answer : (bytes : List ℕ) → HasAnswer bytes (answer_of bytes)
has_answer bytes = has_by bytes (judged empty (text_lines bytes)) (said empty (text_lines bytes))

-- ---- exactly one

get_below : (lines : List (List ℕ)) (k : ℕ) (line : List ℕ) → slice_get lines k ≡ Some line → k < length lines
get_below [] k line e = absurd cc
get_below (l ∷ lines) zero line e = omega arith
get_below (l ∷ lines) (suc k) line e = omega (arith, get_below lines k line e)

not_both : (lines : List (List ℕ)) (l n : ℕ) (a : Result Program (ℕ × ℕ)) → IsFirstFault lines l n → IsEnd lines a → ⊥
not_both lines l n a f e = e.none f.index f.line n (get_below lines f.index f.line f.stands) f.stands f.holds

same_line : (lines : List (List ℕ)) (l n k m : ℕ) (f : IsFirstFault lines l n) (g : IsFirstFault lines k m) → f.index ≡ g.index
same_line lines l n k m f g =
    elim (cases_lt f.index g.index) [
      | inl lt ↦ absurd (g.none_above f.index f.line n lt f.stands f.holds)
      | inr ge ↦ elim (cases_lt g.index f.index) [
        | inl lt ↦ absurd (f.none_above g.index g.line m lt g.stands g.holds)
        | inr le ↦ omega (arith, ge, le)
      ]
    ]

same_fault : (lines : List (List ℕ)) (l n k m : ℕ) → IsFirstFault lines l n → IsFirstFault lines k m → (l ≡ k) × (n ≡ m)
same_fault lines l n k m f g =
    let i = same_line lines l n k m f g in
    let e : Some f.line ≡ Some g.line = sym f.stands ∙ ap (slice_get lines) i ∙ g.stands in
    let w : f.line ≡ g.line = cc in
    let move = subst (λ (x : ℕ). IsTrueOf lines x g.line m) (sym i) g.holds in
    let there : IsTrueOf lines f.index f.line m = subst (λ (x : List ℕ). IsTrueOf lines f.index x m) (sym w) move in
    let back = subst (λ (x : ℕ). IsTrueOf lines x f.line n) i f.holds in
    let here : IsTrueOf lines g.index g.line n = subst (λ (x : List ℕ). IsTrueOf lines g.index x n) w back in
    (omega (arith, f.number, g.number, i), omega (arith, f.least m there, g.least n here))

one_fault : (lines : List (List ℕ)) (f g : ℕ × ℕ) → IsFirstFault lines f.0 f.1 → IsFirstFault lines g.0 g.1 → f ≡ g
one_fault lines (l, n) (k, m) a b = let e = same_fault lines l n k m a b in rw (e.0, e.1) refl

abbrev as_err : ℕ × ℕ → Result Program (ℕ × ℕ)
as_err f = Err f

one_end : (lines : List (List ℕ)) (a b : Result Program (ℕ × ℕ)) → IsEnd lines a → IsEnd lines b → a ≡ b
one_end lines a b h k = sym h.end ∙ k.end

pub one_answer : (bytes : List ℕ) (a b : Result Program (ℕ × ℕ)) → HasAnswer bytes a → HasAnswer bytes b → a ≡ b
one_answer bytes (Ok p) (Ok q) h k = one_end (text_lines bytes) (Ok p) (Ok q) h k
one_answer bytes (Ok p) (Err g) h (inl k) = absurd (not_both (text_lines bytes) g.0 g.1 (Ok p) k h)
one_answer bytes (Ok p) (Err g) h (inr k) = one_end (text_lines bytes) (Ok p) (Err g) h k
one_answer bytes (Err f) (Ok q) (inl h) k = absurd (not_both (text_lines bytes) f.0 f.1 (Ok q) h k)
one_answer bytes (Err f) (Ok q) (inr h) k = one_end (text_lines bytes) (Err f) (Ok q) h k
one_answer bytes (Err f) (Err g) (inl h) (inl k) = ap as_err (one_fault (text_lines bytes) f g h k)
one_answer bytes (Err f) (Err g) (inl h) (inr k) = absurd (not_both (text_lines bytes) f.0 f.1 (Err g) h k)
one_answer bytes (Err f) (Err g) (inr h) (inl k) = absurd (not_both (text_lines bytes) g.0 g.1 (Err f) k h)
one_answer bytes (Err f) (Err g) (inr h) (inr k) = one_end (text_lines bytes) (Err f) (Err g) h k
