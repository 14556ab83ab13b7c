-- How a model is laid out: the blanks at the ends of its lines are others, and nothing else.
use Rattle.std.specs.Prelude.{ℕ, ◌≡◌, Bool, true, List, [], ◌∷◌, ◌++◌}
use Rattle.std.specs.List.{list_all}
use Rattle.rc_read.specs.Words.{cut, is_blank}

-- Tabs, carriage returns and spaces.
abbrev pub are_blanks : List ℕ → Bool
are_blanks bytes = list_all is_blank bytes

-- The bytes are these between blanks.
pub record IsAround (bytes inner : List ℕ) : Type 0 where
  pub before : List ℕ
  pub after : List ℕ
  pub whole : bytes ≡ before ++ (inner ++ after)
  pub blank : are_blanks before ≡ true
  pub blank_after : are_blanks after ≡ true

-- There are other blanks before these bytes.
pub record IsIndented (inner bytes : List ℕ) : Type 0 where
  pub indent : List ℕ
  pub whole : bytes ≡ indent ++ inner
  pub blank : are_blanks indent ≡ true

-- A line is laid out: what is between the blanks at its ends stays, with other blanks before it and none after it.
pub record IsLineLaidOut (old new : List ℕ) : Type 0 where
  pub inner : List ℕ
  pub around : IsAround old inner
  pub indented : IsIndented inner new

abbrev pub AreLinesLaidOut : List (List ℕ) → List (List ℕ) → Type 0
AreLinesLaidOut [] [] = Unit {0}
AreLinesLaidOut [] (new ∷ news) = ⊥
AreLinesLaidOut (old ∷ olds) [] = ⊥
AreLinesLaidOut (old ∷ olds) (new ∷ news) = IsLineLaidOut old new × AreLinesLaidOut olds news

-- So is each line that a line feed ends, and so are the bytes after the last line feed.
abbrev pub IsLaidOut : List ℕ → List ℕ → Type 0
IsLaidOut old new = AreLinesLaidOut (cut old).0 (cut new).0 × IsLineLaidOut (cut old).1 (cut new).1
