-- What a model's answer is, said of its lines one by one.
use Rattle.std.specs.Prelude.{◌≡◌, ℕ, ◌+◌, ◌<◌, ◌≤◌, ◌⊎◌, List, [], ◌∷◌, length, take, slice_get, Some, Result, Ok, Err, true, Contains}
use Rattle.rc_lang.specs.Program.{Program}
use Rattle.rc_read.specs.Answer.{at_end}
use Rattle.rc_read.specs.Sentences.{sentences}
use Rattle.rc_read.specs.Sheets.{Sheet, empty}
use Rattle.rc_read.specs.Adds.{with_line}
use Rattle.rc_read.specs.Words.{text_lines}

-- The sheet after these lines.
abbrev pub sheet_behind : Sheet → List (List ℕ) → Sheet
sheet_behind s [] = s
sheet_behind s (line ∷ lines) = sheet_behind (with_line s line) lines

-- Of this line, the one at index k, the sentence with number n is true.
abbrev pub IsTrueOf : List (List ℕ) → ℕ → List ℕ → ℕ → Type 0
IsTrueOf lines k line n = Contains (sentences (sheet_behind empty (take k lines)) line) (n, true)

-- Of no line below index k is a sentence true.
abbrev pub NoneIsTrueBelow : List (List ℕ) → ℕ → Type 0
NoneIsTrueBelow lines k = (j : ℕ) (line : List ℕ) (n : ℕ) → j < k → slice_get lines j ≡ Some line → ¬ IsTrueOf lines j line n

-- Line number l is the first of which a sentence is true, and n is the least number of such a sentence.
pub record IsFirstFault (lines : List (List ℕ)) (l n : ℕ) : Type 0 where
  pub index : ℕ
  pub number : l ≡ index + 1
  pub line : List ℕ
  pub stands : slice_get lines index ≡ Some line
  pub none_above : NoneIsTrueBelow lines index
  pub holds : IsTrueOf lines index line n
  pub least : (m : ℕ) → IsTrueOf lines index line m → n ≤ m

-- Of no line is a sentence true, and this is what the model's end says.
pub record IsEnd (lines : List (List ℕ)) (answer : Result Program (ℕ × ℕ)) : Type 0 where
  pub none : NoneIsTrueBelow lines (length lines)
  pub end : at_end (sheet_behind empty lines) ≡ answer

-- The answer of a model: the first line with a true sentence and the least number there; where there is none, what the
-- text's end says, a fault or a program.
abbrev pub HasAnswer : List ℕ → Result Program (ℕ × ℕ) → Type 0
HasAnswer bytes (Ok p) = IsEnd (text_lines bytes) (Ok p)
HasAnswer bytes (Err f) = IsFirstFault (text_lines bytes) f.0 f.1 ⊎ IsEnd (text_lines bytes) (Err f)
