-- The words of a line of a model, as they are printed.
use Rattle.std.specs.Prelude.{ℕ, zero, suc, ◌≡◌, ◌-◌, ◌<◌, Bool, List, [], ◌∷◌, ◌++◌, codes, length, slice_index_or, take}
use Rattle.rc_read.specs.Words.{is_blank, text_lines, words_of}

-- The line with this number, from 1. Where there is no such line, it is empty.
abbrev pub line_numbered : List (List ℕ) → ℕ → List ℕ
line_numbered lines zero = []
line_numbered lines (suc n) = slice_index_or lines n []

-- whether a line begins with a blank
abbrev pub begins_blank : List ℕ → Bool
begins_blank line = is_blank (slice_index_or line 0 35)

-- The first word of a line, and a shorter part that has its other words.
abbrev pub Begins : List ℕ → List ℕ → List ℕ → Type 0
Begins line word after = (words_of line ≡ word ∷ words_of after) × (length after < length line)

-- each word after a blank
abbrev pub behind_blanks : List (List ℕ) → List ℕ
behind_blanks [] = []
behind_blanks (word ∷ words) = codes " " ++ word ++ behind_blanks words

-- the words with one blank between two
abbrev pub spaced : List (List ℕ) → List ℕ
spaced [] = []
spaced (word ∷ words) = word ++ behind_blanks words

-- The words of the model's line with this number, without its comment, with one blank between two.
abbrev pub line_words : List ℕ → ℕ → List ℕ
line_words text number = spaced (words_of (line_numbered (text_lines text) number))

-- Those of a line that opens a block, without the brace at their end and the blank before it.
abbrev pub opening_words : List ℕ → ℕ → List ℕ
opening_words text number = take (length (line_words text number) - 2) (line_words text number)
