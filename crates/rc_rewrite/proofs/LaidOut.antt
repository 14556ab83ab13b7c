-- Lines of a model, and those that are laid out of them.
use Rattle.std.proofs.Common.{◌≡◌, ℕ, ◌<◌, List, [], ◌∷◌, ◌++◌, Bool, true, false, eqb, ◌||◌, ◌&&◌, length, get_or, take, drop, suc, refl, sym, subst, append_assoc, drop-cons}
use Rattle.std.specs.List.{list_all}
use Rattle.std.proofs.lemmas.Bool.{and_parts, eqb-true, false_from_ne_true}
use Rattle.std.proofs.lemmas.List.{append-nil, take-append-drop}
use Rattle.std.proofs.lemmas.List.Folds.{list_all-append}
use Rattle.rc_read.specs.Words.{cut, is_blank}
use Rattle.rc_rewrite.proofs.Lines.{cut_last, cut_line, has_byte-append, has_byte-front, has_byte-rest}
use Rattle.rc_rewrite.specs.Inside.{IsCutAt}
use Rattle.rc_rewrite.specs.Keeps.{has_byte}
use Rattle.rc_rewrite.specs.LaidOut.{are_blanks, IsAround, IsIndented, IsLaidOut, IsLineLaidOut}

-- ---- blanks

neither : (a b : Bool) → a ≡ false → b ≡ false → (a || b) ≡ false
neither true b e f = absurd cc
neither false b e f = f

both : (a b : Bool) → a ≡ true → b ≡ true → (a && b) ≡ true
both true b e f = f
both false b e f = absurd cc

-- blanks have no line feed
blank_byte : (b : ℕ) → is_blank b ≡ true → eqb b 10 ≡ false
blank_byte b e = false_from_ne_true (eqb b 10) (λ same. let k : b ≡ 10 = eqb-true b 10 same in let no = rw k at e in absurd cc)

blanks_feed : (list : List ℕ) → are_blanks list ≡ true → has_byte 10 list ≡ false
blanks_feed [] h = refl
blanks_feed (b ∷ list) h =
    let p = and_parts (is_blank b) (list_all is_blank list) h in
    neither (eqb b 10) (has_byte 10 list) (blank_byte b p.0) (blanks_feed list p.1)

blanks_more : (list : List ℕ) → are_blanks list ≡ true → are_blanks (list ++ 32 ∷ []) ≡ true
blanks_more list h = rw (list_all-append is_blank list (32 ∷ [])) (both (are_blanks list) true h refl)

-- There are blanks after the first bytes.
abbrev pub HasBlanks : List ℕ → List ℕ → Type 0
HasBlanks first text = (added : List ℕ) × (text ≡ first ++ added) × (are_blanks added ≡ true)

pub no_blanks : (first : List ℕ) → HasBlanks first first
no_blanks first = ([], sym (append-nil first), refl)

pub one_blank_more : (first old new : List ℕ) → new ≡ old ++ 32 ∷ [] → HasBlanks first old → HasBlanks first new
one_blank_more first old new e (added, whole, blank) = (added ++ 32 ∷ [], rw (e, whole) (simp append_assoc), blanks_more added blank)

pub all_indented : (first mid made inner : List ℕ) → HasBlanks first mid → made ≡ mid ++ inner → (text : List ℕ) × IsIndented inner text × (made ≡ first ++ text)
all_indented first mid made inner (added, whole, blank) e =
    (added ++ inner, record { indent = added; whole = refl; blank = blank }, rw (e, whole) (simp append_assoc))

blanks_before : (bytes : List ℕ) (n : ℕ) → n < length bytes → is_blank (get_or bytes n 0) ≡ true → are_blanks (drop (suc n) bytes) ≡ true → are_blanks (drop n bytes) ≡ true
blanks_before bytes n h b rest = rw (drop-cons bytes n 0 h) (both (is_blank (get_or bytes n 0)) (are_blanks (drop (suc n) bytes)) b rest)

pub blanks_back : (bytes : List ℕ) (n end : ℕ) → end ≡ suc n → n < length bytes → is_blank (get_or bytes n 0) ≡ true → are_blanks (drop end bytes) ≡ true → are_blanks (drop n bytes) ≡ true
blanks_back bytes n end e h b rest = blanks_before bytes n h b (subst (λ (x : ℕ). are_blanks (drop x bytes) ≡ true) e rest)

-- what is between the blanks
pub between : (bytes : List ℕ) (m n : ℕ) → are_blanks (take m bytes) ≡ true → are_blanks (drop n (drop m bytes)) ≡ true → IsAround bytes (take n (drop m bytes))
between bytes m n front back = record {
  before = take m bytes;
  after = drop n (drop m bytes);
  whole = sym (rw (take-append-drop n (drop m bytes)) (take-append-drop m bytes));
  blank = front;
  blank_after = back;
}

pub laid_of : (old inner new : List ℕ) → IsAround old inner → IsIndented inner new → IsLineLaidOut old new
laid_of old inner new around indented = record { inner = inner; around = around; indented = indented }

-- ---- lines

laid_feed : (old new : List ℕ) → IsLineLaidOut old new → has_byte 10 old ≡ false → has_byte 10 new ≡ false
laid_feed old new laid h =
    let a = laid.around in
    let i = laid.indented in
    let whole : has_byte 10 (a.before ++ (laid.inner ++ a.after)) ≡ false = rw a.whole at h in
    let inner = has_byte-front 10 laid.inner a.after (has_byte-rest 10 a.before (laid.inner ++ a.after) whole) in
    rw i.whole (has_byte-append 10 i.indent laid.inner (blanks_feed i.indent i.blank) inner)

last_laid : (old new : List ℕ) → IsLineLaidOut old new → has_byte 10 old ≡ false → IsLaidOut old new
last_laid old new laid h = rw (cut_last old h, cut_last new (laid_feed old new laid h)) (tt, laid)

line_laid : (old new after behind : List ℕ) → IsLineLaidOut old new → has_byte 10 old ≡ false → IsLaidOut after behind → IsLaidOut (old ++ 10 ∷ after) (new ++ 10 ∷ behind)
line_laid old new after behind laid h s = rw (cut_line old after h, cut_line new behind (laid_feed old new laid h)) ((laid, s.0), s.1)

-- What is laid out so far goes with each model that the rest may become.
abbrev pub GoesOn : List ℕ → List ℕ → List ℕ → Type 0
GoesOn source rest done = (t : List ℕ) → IsLaidOut rest t → IsLaidOut source (done ++ t)

pub one_line_more : (source rest line after old new made text : List ℕ) → IsCutAt 10 rest line after → IsLineLaidOut line text → new ≡ old ++ text → made ≡ new ++ 10 ∷ [] → GoesOn source rest old → GoesOn source after made
one_line_more source rest line after old new made text at is e f goes = λ t r.
    let same : made ++ t ≡ old ++ (text ++ 10 ∷ t) = rw (f, e) (simp append_assoc) in
    subst (IsLaidOut source) (sym same) (goes (text ++ 10 ∷ t) (subst (λ (x : List ℕ). IsLaidOut x (text ++ 10 ∷ t)) (sym at.whole) (line_laid line text after t is at.first r)))

pub last_line : (source rest old made text : List ℕ) → has_byte 10 rest ≡ false → IsLineLaidOut rest text → made ≡ old ++ text → GoesOn source rest old → IsLaidOut source made
last_line source rest old made text none is e goes = subst (IsLaidOut source) (sym e) (goes text (last_laid rest text is none))
