-- The variables of a line are of no matter to its sentences.
use Rattle.std.proofs.Common.{◌≡◌, ℕ, List, [], ◌∷◌, ◌++◌, length, take, Bool, true, false, cond, not, ◌||◌, eqb, Option, Some, None, Result, Ok, Err, refl, sym, ap, ◌∙◌, append_assoc}
use Rattle.std.proofs.Math.Seq.{take-append_seam}
use Rattle.std.proofs.lemmas.List.{append-nil}
use Rattle.std.specs.Borrow.{Bor}
use Rattle.rc_read.specs.Adds.{added, counted, form_in, items, places_in, says, values}
use Rattle.rc_read.specs.declared.fault.ReadCause.{ReadCause}
use Rattle.rc_read.specs.declared.says.Says.{Says}
use Rattle.rc_read.specs.declared.says.Says.TheVariants.{Case, Close, UnnamedStock}
use Rattle.rc_read.specs.declared.table.Row.{Row}
use Rattle.rc_read.specs.Judging.{AddsNames, named_sentences, JudgesRow, JudgesWords}
use Rattle.rc_read.specs.Says.{says_of, says_by}
use Rattle.rc_read.specs.Sentences.{bad_head, bad_line, may_stand, is_unknown, any_unknown, is_double, any_double, any_named_twice, repeats, bad_brace, is_too_long, is_too_deep, is_full, any_full, has_too_many_names, bad_nesting, bad_case, other_flag, form_sentences, word_sentences, first_true}
use Rattle.rc_read.specs.Sheets.{Sheet, Draft, is_among, is_variable, with_names, naming}
use Rattle.rc_read.specs.Spots.{Spot, row_of, spots_of, spots_by}
use Rattle.rc_read.specs.Table.{parts_of, stand_of}
use Rattle.rc_read.specs.Texts.{texts_of}
use Rattle.rc_read.specs.Values.{any_lacks, flag_in, items_in, start}
use Rattle.rc_read.proofs.Numbered.{double_kept, full_kept, unknown_kept}

-- ---- sentence by sentence

or_same : (a b c d : Bool) → a ≡ b → c ≡ d → (a || c) ≡ (b || d)
or_same a b c d e f = rw (e, f) refl

any_unknown_same : (s : Sheet) (vs ps : List Spot) → any_unknown (with_names s vs) ps ≡ any_unknown s ps
any_unknown_same s vs [] = refl
any_unknown_same s vs (p ∷ ps) = or_same (is_unknown (with_names s vs) p.part p.word) (is_unknown s p.part p.word) (any_unknown (with_names s vs) ps) (any_unknown s ps) (unknown_kept p.part p.word s vs) (any_unknown_same s vs ps)

any_double_same : (s : Sheet) (vs ps : List Spot) → any_double (with_names s vs) ps ≡ any_double s ps
any_double_same s vs [] = refl
any_double_same s vs (p ∷ ps) = or_same (is_double (with_names s vs) p.part p.word) (is_double s p.part p.word) (any_double (with_names s vs) ps) (any_double s ps) (double_kept p.part p.word s vs) (any_double_same s vs ps)

any_full_same : (s : Sheet) (vs ps : List Spot) → any_full (with_names s vs) ps ≡ any_full s ps
any_full_same s vs [] = refl
any_full_same s vs (p ∷ ps) = or_same (is_full (with_names s vs) p.part p.word) (is_full s p.part p.word) (any_full (with_names s vs) ps) (any_full s ps) (full_kept p.part p.word s vs) (any_full_same s vs ps)

brace_same : (what : Says) (s : Sheet) (vs : List Spot) → bad_brace (with_names s vs) what ≡ bad_brace s what
brace_same Close s vs = refl
brace_same _ s vs = refl

repeats_same : (what : Says) (s : Sheet) (vs : List Spot) → repeats (with_names s vs) what ≡ repeats s what
repeats_same UnnamedStock s vs = refl
repeats_same _ s vs = refl

case_same : (what : Says) (d : Draft) (vs : List Spot) → bad_case (naming d vs) what ≡ bad_case d what
case_same (Case u) d vs = refl
case_same _ d vs = refl

-- ---- all of them

-- the sentences from the fourth on, by the form of the line
abbrev later_by : Sheet → List ℕ → List (List ℕ) → Option Row → List (ℕ × Bool)
later_by s line ws o =
    (4, any_lacks (with_names s (spots_by o ws)) start (spots_by o ws))
    ∷ (5, any_unknown s (spots_by o ws))
    ∷ (6, any_double s (spots_by o ws) || any_named_twice (items_in (values s (spots_by o ws))) || repeats s (says_by o (values s (spots_by o ws))))
    ∷ (7, bad_brace s (says_by o (values s (spots_by o ws))))
    ∷ (8, is_too_long s line || is_too_deep s (says_by o (values s (spots_by o ws))) || any_full s (spots_by o ws) || has_too_many_names s (spots_by o ws))
    ∷ (9, bad_nesting s.draft.blocks (items_in (values s (spots_by o ws))) (says_by o (values s (spots_by o ws))))
    ∷ (10, bad_case s.draft (says_by o (values s (spots_by o ws))))
    ∷ (11, other_flag s.draft.flag (flag_in (items_in (values s (spots_by o ws)))))
    ∷ []

abbrev eight : (a b c d e f g h : Bool) → Option ℕ
eight a b c d e f g h = first_true ((4, a) ∷ (5, b) ∷ (6, c) ∷ (7, d) ∷ (8, e) ∷ (9, f) ∷ (10, g) ∷ (11, h) ∷ [])

eight_same : (a b c d e f g h b' c' d' e' g' : Bool) → b' ≡ b → c' ≡ c → d' ≡ d → e' ≡ e → g' ≡ g → eight a b c d e f g h ≡ eight a b' c' d' e' f g' h
eight_same a b c d e f g h b' c' d' e' g' eb ec ed ee eg =
    ap (λ (x : Bool). eight a x c d e f g h) (sym eb) ∙ ap (λ (x : Bool). eight a b' x d e f g h) (sym ec) ∙ ap (λ (x : Bool). eight a b' c' x e f g h) (sym ed) ∙ ap (λ (x : Bool). eight a b' c' d' x f g h) (sym ee)
    ∙ ap (λ (x : Bool). eight a b' c' d' e' f x h) (sym eg)

row_same : (s : Sheet) (line : List ℕ) (ws : List (List ℕ)) (row : Row) → first_true (later_by s line ws (Some row)) ≡ first_true (named_sentences (with_names s (spots_of (parts_of row) ws)) line row (spots_of (parts_of row) ws))
row_same s line ws row =
    let sp = spots_of (parts_of row) ws in
    let what = says_of row (values s sp) in
    eight_same (any_lacks (with_names s sp) start sp) (any_unknown s sp) (any_double s sp || any_named_twice (items_in (values s sp)) || repeats s what) (bad_brace s what)
    (is_too_long s line || is_too_deep s what || any_full s sp || has_too_many_names s sp) (bad_nesting s.draft.blocks (items_in (values s sp)) what) (bad_case s.draft what) (other_flag s.draft.flag (flag_in (items_in (values s sp))))
    (any_unknown (with_names s sp) sp) (any_double (with_names s sp) sp || any_named_twice (items_in (values s sp)) || repeats (with_names s sp) what) (bad_brace (with_names s sp) what)
    (is_too_long s line || is_too_deep s what || any_full (with_names s sp) sp || has_too_many_names s sp) (bad_case (naming s.draft sp) what)
    (any_unknown_same s sp sp) (ap (λ (x : Bool). x || any_named_twice (items_in (values s sp)) || repeats (with_names s sp) what) (any_double_same s sp sp) ∙ ap (λ (x : Bool). any_double s sp || any_named_twice (items_in (values s sp)) || x) (repeats_same what s sp)) (brace_same what s sp)
    (ap (λ (x : Bool). is_too_long s line || is_too_deep s what || x || has_too_many_names s sp) (any_full_same s sp sp)) (case_same what s.draft sp)

skip_two : (a b : Bool) (rest : List (ℕ × Bool)) → a ≡ false → b ≡ false → first_true ((2, a) ∷ (3, b) ∷ rest) ≡ first_true rest
skip_two a b rest ea eb = rw (ea, eb) refl

form_same : (s : Sheet) (line : List ℕ) (ws : List (List ℕ)) (row : Row) → row_of s.head.version ws ≡ Some row → bad_head s.region (row_of s.head.version ws) ws ≡ false → may_stand (stand_of row) s.region ≡ true → first_true (form_sentences s line ws) ≡ first_true (named_sentences (with_names s (spots_of (parts_of row) ws)) line row (spots_of (parts_of row) ws))
form_same s line ws row er eh em =
    skip_two (bad_head s.region (form_in s ws) ws) (bad_line s.region (form_in s ws)) (later_by s line ws (form_in s ws)) eh (ap (bad_line s.region) er ∙ ap not em) ∙ ap (λ (o : Option Row). first_true (later_by s line ws o)) er ∙ row_same s line ws row

added_same : (s : Sheet) (ws : List (List ℕ)) (row : Row) → row_of s.head.version ws ≡ Some row → added (with_names s (places_in s ws)) ws (items s ws) (says s ws) ≡ added (with_names s (spots_of (parts_of row) ws)) ws (items_in (values s (spots_of (parts_of row) ws))) (says_of row (values s (spots_of (parts_of row) ws)))
added_same s ws row er = ap (λ (o : Option Row). added (with_names s (spots_by o ws)) ws (items_in (values s (spots_by o ws))) (says_by o (values s (spots_by o ws)))) er

judges_by : {E : Type 0} (r : Result (Option ReadCause) E) (s new : Sheet) (line w : List ℕ) (ws : List (List ℕ)) (row : Row) → row_of s.head.version (w ∷ ws) ≡ Some row → bad_head s.region (row_of s.head.version (w ∷ ws)) (w ∷ ws) ≡ false → may_stand (stand_of row) s.region ≡ true → JudgesRow s line (w ∷ ws) row new r → JudgesWords s line (w ∷ ws) new r
judges_by (Ok None) s new line w ws row er eh em j =
    (form_same s line (w ∷ ws) row er eh em ∙ j.0, j.1 ∙ ap counted (sym (added_same s (w ∷ ws) row er)))
judges_by (Ok (Some cause)) s new line w ws row er eh em j = form_same s line (w ∷ ws) row er eh em ∙ j
judges_by (Err e) s new line w ws row er eh em j = tt

pub judges_words : {E : Type 0} (r : Result (Option ReadCause) E) (s new : Sheet) (line : List ℕ) (ws : List (Bor (List ℕ))) (row : Row) → eqb (length ws) 0 ≡ false → row_of s.head.version (texts_of ws) ≡ Some row → bad_head s.region (row_of s.head.version (texts_of ws)) (texts_of ws) ≡ false → may_stand (stand_of row) s.region ≡ true → JudgesRow s line (texts_of ws) row new r → JudgesWords s line (texts_of ws) new r
judges_words r s new line [] row n er eh em j = absurd cc
judges_words r s new line (w ∷ ws) row n er eh em j = judges_by r s new line w.now (texts_of ws) row er eh em j

-- ---- the second sentence and the third

first_is : (n : ℕ) (b : Bool) (ps : List (ℕ × Bool)) → b ≡ true → first_true ((n, b) ∷ ps) ≡ Some n
first_is n true ps e = refl
first_is n false ps e = absurd cc

next_is : (n m : ℕ) (a b : Bool) (ps : List (ℕ × Bool)) → a ≡ false → b ≡ true → first_true ((n, a) ∷ (m, b) ∷ ps) ≡ Some m
next_is n m true b ps e f = absurd cc
next_is n m false b ps e f = first_is m b ps f

pub head_first : (s : Sheet) (line : List ℕ) (ws : List (Bor (List ℕ))) → eqb (length ws) 0 ≡ false → bad_head s.region (form_in s (texts_of ws)) (texts_of ws) ≡ true → first_true (word_sentences s line (texts_of ws)) ≡ Some 2
head_first s line [] n e = absurd cc
head_first s line (w ∷ ws) n e =
    let vs = texts_of (w ∷ ws) in
    first_is 2 (bad_head s.region (form_in s vs) vs) ((3, bad_line s.region (form_in s vs)) ∷ later_by s line vs (form_in s vs)) e

pub form_next : (s : Sheet) (line : List ℕ) (ws : List (Bor (List ℕ))) → eqb (length ws) 0 ≡ false → bad_head s.region (form_in s (texts_of ws)) (texts_of ws) ≡ false → bad_line s.region (form_in s (texts_of ws)) ≡ true → first_true (word_sentences s line (texts_of ws)) ≡ Some 3
form_next s line [] n e f = absurd cc
form_next s line (w ∷ ws) n e f =
    let vs = texts_of (w ∷ ws) in
    next_is 2 3 (bad_head s.region (form_in s vs) vs) (bad_line s.region (form_in s vs)) (later_by s line vs (form_in s vs)) e f

-- ---- the variables of a line at fault

abbrev pub put_names : Sheet → List (List ℕ) → Sheet
put_names s names = record s { draft = record s.draft { names = names } }

pub adds_none : (s : Sheet) → AddsNames s s
adds_none s = ([], ap (put_names s) (sym (append-nil s.draft.names)))

grown : (b c : Bool) (names more : List (List ℕ)) (w : List ℕ) → (xs : List (List ℕ)) × (cond b (cond c (names ++ more) ((names ++ more) ++ w ∷ [])) (names ++ more) ≡ names ++ xs)
grown true true names more w = (more, refl)
grown true false names more w = (more ++ w ∷ [], append_assoc names more (w ∷ []))
grown false c names more w = (more, refl)

pub adds_one : (s t new : Sheet) (p : Spot) → AddsNames s t → new ≡ with_names t (p ∷ []) → AddsNames s new
adds_one s t new p h e =
    let g = grown (is_variable p.part p.word) (is_among (s.draft.names ++ h.0) p.word) s.draft.names h.0 p.word in
    (g.0, e ∙ ap (λ (x : Sheet). with_names x (p ∷ [])) h.1 ∙ ap (put_names s) g.1)

pub dropped : (s t new : Sheet) (n : ℕ) → AddsNames s t → n ≡ length s.draft.names → new ≡ put_names t (take n t.draft.names) → new ≡ s
dropped s t new n h e k =
    k ∙ ap (λ (x : Sheet). put_names x (take n x.draft.names)) h.1
    ∙ ap (put_names s) (ap (λ (m : ℕ). take m (s.draft.names ++ h.0)) e ∙ take-append_seam s.draft.names h.0)
