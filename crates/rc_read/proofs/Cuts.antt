-- Lines that are cut into words at the places of bytes.
use Rattle.std.proofs.Common.{◌≡◌, ℕ, ◌+◌, ◌-◌, ◌<◌, ◌≤◌, List, [], ◌∷◌, ◌++◌, length, take, drop, get_or, Bool, true, false, cond, eqb, refl, sym, ap, ◌∙◌, arith, append_assoc, length-drop}
use Rattle.std.proofs.lemmas.List.{append-nil, drop_more, take_more, get_or-drop, take-append-drop, take_all, take_rest}
use Rattle.rc_read.specs.Words.{without_comment, words_after, words_of, word_if_any, is_blank}

-- ---- the comment

goes_on : (c : Bool) (b : ℕ) (xs : List ℕ) → c ≡ false → cond c [] (b ∷ xs) ≡ b ∷ xs
goes_on true b xs e = absurd cc
goes_on false b xs e = refl

-- ---- words

blank_goes : (c : Bool) (b : ℕ) (word rest : List ℕ) → c ≡ true → cond c (word_if_any word ++ words_after [] rest) (words_after (word ++ b ∷ []) rest) ≡ word_if_any word ++ words_after [] rest
blank_goes true b word rest e = refl
blank_goes false b word rest e = absurd cc

letter_goes : (c : Bool) (b : ℕ) (word rest : List ℕ) → c ≡ false → cond c (word_if_any word ++ words_after [] rest) (words_after (word ++ b ∷ []) rest) ≡ words_after (word ++ b ∷ []) rest
letter_goes true b word rest e = absurd cc
letter_goes false b word rest e = refl

-- the words and the letters after them are those of the bytes before place i, whatever is after these
abbrev pub CutAt : List ℕ → ℕ → ℕ → List (List ℕ) → Type 0
CutAt bytes start i texts = (more : List ℕ) → texts ++ words_after (take (i - start) (drop start bytes)) (without_comment more) ≡ words_of (take i bytes ++ more)

one_behind : (bytes more : List ℕ) (i : ℕ) → i < length bytes → take i bytes ++ get_or bytes i 0 ∷ more ≡ take (i + 1) bytes ++ more
one_behind bytes more i lt = sym (ap (λ (x : List ℕ). x ++ more) (take_more bytes i 0 lt) ∙ append_assoc (take i bytes) (get_or bytes i 0 ∷ []) more)

-- at a blank the word ends
pub at_blank : (bytes : List ℕ) (start i : ℕ) (texts new : List (List ℕ)) → i < length bytes → eqb (get_or bytes i 0) 35 ≡ false → is_blank (get_or bytes i 0) ≡ true → new ≡ texts ++ word_if_any (take (i - start) (drop start bytes)) → CutAt bytes start i texts → CutAt bytes (i + 1) (i + 1) new
at_blank bytes start i texts new lt plain is en h = λ more.
    let b = get_or bytes i 0 in
    let word = take (i - start) (drop start bytes) in
    let e : i + 1 - (i + 1) ≡ 0 = omega arith in
    let rest = without_comment more in
    let g : words_after word (without_comment (b ∷ more)) ≡ word_if_any word ++ words_after [] rest =
    ap (words_after word) (goes_on (eqb b 35) b rest plain) ∙ blank_goes (is_blank b) b word rest is in
    rw (en, e) (append_assoc texts (word_if_any word) (words_after [] rest) ∙ sym (ap (λ (x : List (List ℕ)). texts ++ x) g) ∙ h (b ∷ more) ∙ ap words_of (one_behind bytes more i lt))

-- at another byte it grows
pub at_letter : (bytes : List ℕ) (start i : ℕ) (texts : List (List ℕ)) → start ≤ i → i < length bytes → eqb (get_or bytes i 0) 35 ≡ false → is_blank (get_or bytes i 0) ≡ false → CutAt bytes start i texts → CutAt bytes start (i + 1) texts
at_letter bytes start i texts le lt plain is h = λ more.
    let b = get_or bytes i 0 in
    let word = take (i - start) (drop start bytes) in
    let n : i + 1 - start ≡ i - start + 1 = omega (arith, le) in
    let m : start + (i - start) ≡ i = omega (arith, le) in
    let k : i - start < length (drop start bytes) = omega (arith, le, lt, length-drop start bytes) in
    let w : take (i + 1 - start) (drop start bytes) ≡ word ++ b ∷ [] =
    ap (λ (x : ℕ). take x (drop start bytes)) n ∙ take_more (drop start bytes) (i - start) 0 k ∙ ap (λ (x : ℕ). word ++ x ∷ []) (get_or-drop start bytes (i - start) 0 ∙ ap (λ (x : ℕ). get_or bytes x 0) m) in
    let rest = without_comment more in
    let g : words_after word (without_comment (b ∷ more)) ≡ words_after (word ++ b ∷ []) rest =
    ap (words_after word) (goes_on (eqb b 35) b rest plain) ∙ letter_goes (is_blank b) b word rest is in
    ap (λ (x : List ℕ). texts ++ words_after x rest) w ∙ sym (ap (λ (x : List (List ℕ)). texts ++ x) g) ∙ h (b ∷ more) ∙ ap words_of (one_behind bytes more i lt)

-- at the end of the line
pub at_rest : (bytes : List ℕ) (start i : ℕ) (texts new : List (List ℕ)) → length bytes ≤ i → new ≡ texts ++ word_if_any (take (length bytes - start) (drop start bytes)) → CutAt bytes start i texts → new ≡ words_of bytes
at_rest bytes start i texts new le en h =
    let e : take (length bytes - start) (drop start bytes) ≡ take (i - start) (drop start bytes) =
    take_rest bytes start ∙ sym (take_all (i - start) (drop start bytes) (omega (arith, le, length-drop start bytes))) in
    en ∙ ap (λ (x : List ℕ). texts ++ word_if_any x) e ∙ h [] ∙ ap words_of (append-nil (take i bytes) ∙ take_all i bytes le)

-- at the beginning of a comment
behind_place : (bytes : List ℕ) (i : ℕ) → i < length bytes → get_or bytes i 0 ≡ 35 → take i bytes ++ 35 ∷ drop (i + 1) bytes ≡ bytes
behind_place bytes i lt e = ap (λ (x : List ℕ). take i bytes ++ x) (sym (drop_more bytes i 0 lt ∙ ap (λ (b : ℕ). b ∷ drop (i + 1) bytes) e)) ∙ take-append-drop i bytes

pub at_comment : (bytes : List ℕ) (start i : ℕ) (texts new : List (List ℕ)) → i < length bytes → get_or bytes i 0 ≡ 35 → new ≡ texts ++ word_if_any (take (i - start) (drop start bytes)) → CutAt bytes start i texts → new ≡ words_of bytes
at_comment bytes start i texts new lt e en h = en ∙ h (35 ∷ drop (i + 1) bytes) ∙ ap words_of (behind_place bytes i lt e)
