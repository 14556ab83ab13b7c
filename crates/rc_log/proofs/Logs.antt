-- What a log begins with, where its first bytes are neither a line feed nor 0.
use Rattle.std.proofs.Common.{◌≡◌, ℕ, ◌+◌, ◌<◌, ◌≤◌, ◌⊎◌, inl, inr, List, [], ◌∷◌, ◌++◌, length, take, drop, get_or, Bool, true, false, ◌||◌, cond, eqb, refl, sym, ap, subst, ◌∙◌, append_assoc, arith}
use Rattle.std.specs.List.{All}
use Rattle.memchr.specs.Find.{Nowhere, Passes, is_byte2}
use Rattle.std.proofs.lemmas.List.{drop_more, get_or-take, get_or_default, length-take, take-append-drop, take_all}
use Rattle.std.proofs.lemmas.Bool.{eqb-true, false_from_ne_true, or_cases}
use Rattle.std.proofs.lemmas.List.Elements.{All-head, All-tail}
use Rattle.rc_read.specs.Words.{before_line, cut}
use Rattle.rc_log.specs.Lines.{EndsIn, GoesOn, before_nul, begun, log_lines, log_rest}

-- Neither a line feed nor 0.
abbrev pub goes_on : ℕ → Bool
goes_on b = eqb b 10 || eqb b 0

abbrev pub IsClean : List ℕ → Type 0
IsClean bytes = All (λ b. goes_on b ≡ false) bytes

before_line_first : (b : ℕ) (c : List (List ℕ) × List ℕ) (line : List ℕ) (lines : List (List ℕ)) → c.0 ≡ line ∷ lines → (before_line b c).0 ≡ (b ∷ line) ∷ lines
before_line_first b ([], rest) line lines e = absurd cc
before_line_first b (first ∷ others, rest) line lines e = cc

before_line_none : (b : ℕ) (c : List (List ℕ) × List ℕ) → c.0 ≡ [] → (before_line b c).0 ≡ []
before_line_none b ([], rest) e = refl
before_line_none b (first ∷ others, rest) e = absurd cc

before_line_rest : (b : ℕ) (c : List (List ℕ) × List ℕ) (line : List ℕ) (lines : List (List ℕ)) → c.0 ≡ line ∷ lines → (before_line b c).1 ≡ c.1
before_line_rest b ([], rest) line lines e = absurd cc
before_line_rest b (first ∷ others, rest) line lines e = refl

before_line_last : (b : ℕ) (c : List (List ℕ) × List ℕ) → c.0 ≡ [] → (before_line b c).1 ≡ b ∷ c.1
before_line_last b ([], rest) e = refl
before_line_last b (first ∷ others, rest) e = absurd cc

both_false : (x y : Bool) → (x || y) ≡ false → (x ≡ false) × (y ≡ false)
both_false true y e = absurd cc
both_false false y e = (refl, e)

nul_on : (b : ℕ) (bytes : List ℕ) → eqb b 0 ≡ false → before_nul (b ∷ bytes) ≡ b ∷ before_nul bytes
nul_on b bytes e = ap (λ v. cond v [] (b ∷ before_nul bytes)) e

cut_on : (b : ℕ) (bytes : List ℕ) → eqb b 10 ≡ false → cut (b ∷ bytes) ≡ before_line b (cut bytes)
cut_on b bytes e = ap (λ v. cond v ([] ∷ (cut bytes).0, (cut bytes).1) (before_line b (cut bytes))) e

one_more : (b : ℕ) (bytes : List ℕ) → goes_on b ≡ false → cut (before_nul (b ∷ bytes)) ≡ before_line b (cut (before_nul bytes))
one_more b bytes e =
    let both = both_false (eqb b 10) (eqb b 0) e in
    ap cut (nul_on b bytes both.1) ∙ cut_on b (before_nul bytes) both.0

-- a byte before what goes on, and before what ends
line_more : (b : ℕ) (line bytes left : List ℕ) → goes_on b ≡ false → GoesOn bytes line left → GoesOn (b ∷ bytes) (b ∷ line) left
line_more b line bytes left e g =
    let one = one_more b bytes e in
    let c = cut (before_nul bytes) in
    (ap (λ v. v.0) one ∙ before_line_first b c line (log_lines left) g.0, ap (λ v. v.1) one ∙ before_line_rest b c line (log_lines left) g.0 ∙ g.1)

end_more : (b : ℕ) (bytes rest : List ℕ) → goes_on b ≡ false → EndsIn bytes rest → EndsIn (b ∷ bytes) (b ∷ rest)
end_more b bytes rest e g =
    let one = one_more b bytes e in
    let c = cut (before_nul bytes) in
    (ap (λ v. v.0) one ∙ before_line_none b c g.0, ap (λ v. v.1) one ∙ before_line_last b c g.0 ∙ ap (λ v. b ∷ v) g.1)

pub line_first : (line bytes : List ℕ) → IsClean line → GoesOn (line ++ 10 ∷ bytes) line bytes
line_first [] bytes h = (refl, refl)
line_first (b ∷ line) bytes h =
    let e = All-head (λ b. goes_on b ≡ false) b line h in
    line_more b line (line ++ 10 ∷ bytes) bytes e (line_first line bytes (All-tail (λ b. goes_on b ≡ false) b line h))

pub ends_first : (line bytes : List ℕ) → IsClean line → EndsIn (line ++ 0 ∷ bytes) line
ends_first [] bytes h = (refl, refl)
ends_first (b ∷ line) bytes h =
    let e = All-head (λ b. goes_on b ≡ false) b line h in
    end_more b (line ++ 0 ∷ bytes) line e (ends_first line bytes (All-tail (λ b. goes_on b ≡ false) b line h))

pub no_line : (line : List ℕ) → IsClean line → EndsIn line line
no_line [] h = (refl, refl)
no_line (b ∷ line) h =
    let e = All-head (λ b. goes_on b ≡ false) b line h in
    end_more b line line e (no_line line (All-tail (λ b. goes_on b ≡ false) b line h))

begun_on : (b : ℕ) (bytes : List ℕ) → goes_on b ≡ false → begun (b ∷ bytes) ≡ b ∷ begun bytes
begun_on b bytes e = ap (λ v. cond v [] (b ∷ begun bytes)) e

pub long_line : (line bytes : List ℕ) → IsClean line → length line ≤ length (begun (line ++ bytes))
long_line [] bytes h = omega arith
long_line (b ∷ line) bytes h =
    let e = ap length (begun_on b (line ++ bytes) (All-head (λ b. goes_on b ≡ false) b line h)) in
    let more = long_line line bytes (All-tail (λ b. goes_on b ≡ false) b line h) in
    omega (arith, e, more)

-- ---- what a search for the first of the two bytes finds

-- No byte before place i of the first so many bytes is one of the two.
abbrev pub IsCleanTo : List ℕ → ℕ → ℕ → Type 0
IsCleanTo bytes count i = Nowhere (Passes (is_byte2 10 0) (take count bytes)) 0 i

clean_front : (bytes : List ℕ) (count i : ℕ) → i ≤ count → IsCleanTo bytes count i → IsClean (take i bytes)
clean_front bytes count i le clean k d lt =
    let n = length-take i bytes in
    let below : k < i = omega (arith, n, lt) in
    let within : k < length bytes = omega (arith, n, lt) in
    let e : get_or (take i bytes) k d ≡ get_or (take count bytes) k 0 =
    get_or-take i bytes k d below ∙ get_or_default bytes k d 0 within ∙ sym (get_or-take count bytes k 0 (omega (arith, below, le))) in
    ap goes_on e ∙ false_from_ne_true (goes_on (get_or (take count bytes) k 0)) (clean k (omega arith) below)

parted : (bytes : List ℕ) (i b : ℕ) → i < length bytes → get_or bytes i 0 ≡ b → bytes ≡ take i bytes ++ b ∷ drop (i + 1) bytes
parted bytes i b lt e = sym (take-append-drop i bytes) ∙ ap (λ v. take i bytes ++ v) (drop_more bytes i 0 lt ∙ ap (λ x. x ∷ drop (i + 1) bytes) e)

appended : (bytes : List ℕ) (i b : ℕ) (more : List ℕ) → i < length bytes → get_or bytes i 0 ≡ b → bytes ++ more ≡ take i bytes ++ b ∷ (drop (i + 1) bytes ++ more)
appended bytes i b more lt e = ap (λ v. v ++ more) (parted bytes i b lt e) ∙ append_assoc (take i bytes) (b ∷ drop (i + 1) bytes) more

pub sees_end : (bytes : List ℕ) (count i : ℕ) (more : List ℕ) → i ≤ count → i < length bytes → IsCleanTo bytes count i → get_or bytes i 0 ≡ 0 → EndsIn (bytes ++ more) (take i bytes)
sees_end bytes count i more le lt clean e =
    subst (λ v. EndsIn v (take i bytes)) (sym (appended bytes i 0 more lt e)) (ends_first (take i bytes) (drop (i + 1) bytes ++ more) (clean_front bytes count i le clean))

pub sees_line : (bytes : List ℕ) (count i : ℕ) (more : List ℕ) → i ≤ count → i < length bytes → IsCleanTo bytes count i → get_or bytes i 0 ≡ 10 → GoesOn (bytes ++ more) (take i bytes) (drop (i + 1) bytes ++ more)
sees_line bytes count i more le lt clean e =
    subst (λ v. GoesOn v (take i bytes) (drop (i + 1) bytes ++ more)) (sym (appended bytes i 10 more lt e)) (line_first (take i bytes) (drop (i + 1) bytes ++ more) (clean_front bytes count i le clean))

pub sees_nothing : (bytes : List ℕ) (count : ℕ) → length bytes ≤ count → IsCleanTo bytes count (length (take count bytes)) → EndsIn bytes bytes
sees_nothing bytes count le clean =
    let n = length-take count bytes in
    let all = take_all (length bytes) bytes (omega arith) in
    no_line bytes (subst IsClean all (clean_front bytes count (length bytes) le (λ k low high. clean k low (omega (arith, n, high, le)))))

pub sees_long : (bytes : List ℕ) (count : ℕ) (more : List ℕ) → count ≤ length bytes → 4096 < count → IsCleanTo bytes count (length (take count bytes)) → 4096 < length (begun (bytes ++ more))
sees_long bytes count more le lt clean =
    let n = length-take count bytes in
    let front = clean_front bytes count count (omega arith) (λ k low high. clean k low (omega (arith, n, high, le))) in
    let long = long_line (take count bytes) (drop count bytes ++ more) front in
    let same = ap (λ v. length (begun v)) (sym (append_assoc (take count bytes) (drop count bytes) more) ∙ ap (λ v. v ++ more) (take-append-drop count bytes)) in
    omega (arith, n, long, same, le, lt)

which : (x : ℕ) → goes_on x ≡ true → ¬ (x ≡ 0) → x ≡ 10
which x e other = elim (or_cases (eqb x 10) (eqb x 0) e) [
  | inl a ↦ eqb-true x 10 a
  | inr b ↦ absurd (other (eqb-true x 0 b))
]

pub is_line_feed : (bytes : List ℕ) (count i : ℕ) → i < count → goes_on (get_or (take count bytes) i 0) ≡ true → ¬ (get_or bytes i 0 ≡ 0) → get_or bytes i 0 ≡ 10
is_line_feed bytes count i lt e other = which (get_or bytes i 0) (ap goes_on (sym (get_or-take count bytes i 0 lt)) ∙ e) other
