-- How a model is cut into lines and a line into words.
use Rattle.std.specs.Prelude.{ℕ, List, [], ◌∷◌, ◌++◌, Bool, ◌||◌, ◌==◌, if◌then◌else◌}

-- ---- lines

-- a byte before the lines that a line feed ended and the bytes after the last of them
abbrev pub before_line : ℕ → List (List ℕ) × List ℕ → List (List ℕ) × List ℕ
before_line b ([], rest) = ([], b ∷ rest)
before_line b (line ∷ lines, rest) = ((b ∷ line) ∷ lines, rest)

-- The lines that a line feed ended, and the bytes after the last line feed.
abbrev pub cut : List ℕ → List (List ℕ) × List ℕ
cut [] = ([], [])
cut (b ∷ bytes) = if b == 10 then ([] ∷ (cut bytes).0, (cut bytes).1) else before_line b (cut bytes)

-- The bytes after the last line feed are a line too, unless there are none.
abbrev pub last_line : List ℕ → List (List ℕ)
last_line [] = []
last_line (b ∷ bytes) = (b ∷ bytes) ∷ []

-- The lines of a model.
abbrev pub text_lines : List ℕ → List (List ℕ)
text_lines bytes = (cut bytes).0 ++ last_line (cut bytes).1

-- ---- words

-- Tab, carriage return and space cut words.
abbrev pub is_blank : ℕ → Bool
is_blank b = b == 9 || b == 13 || b == 32

-- From # on a line is a comment.
abbrev pub without_comment : List ℕ → List ℕ
without_comment [] = []
without_comment (b ∷ bytes) = if b == 35 then [] else b ∷ without_comment bytes

abbrev pub word_if_any : List ℕ → List (List ℕ)
word_if_any [] = []
word_if_any (b ∷ bytes) = (b ∷ bytes) ∷ []

-- the words of what is left of a line, after the letters of a word so far
abbrev pub words_after : List ℕ → List ℕ → List (List ℕ)
words_after word [] = word_if_any word
words_after word (b ∷ bytes) = if is_blank b then word_if_any word ++ words_after [] bytes else words_after (word ++ b ∷ []) bytes

-- The words of a line.
abbrev pub words_of : List ℕ → List (List ℕ)
words_of line = words_after [] (without_comment line)
