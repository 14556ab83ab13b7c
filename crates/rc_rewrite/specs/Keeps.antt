-- What `keeps` may change in a model: the items of its loops, and nothing else.
use Rattle.std.specs.Global.{Vec}
use Rattle.std.specs.Prelude.{ℕ, ◌≡◌, ◌==◌, Bool, ◌||◌, not, true, false, List, [], ◌∷◌, ◌++◌, codes, ◌⊎◌, Result, Ok, Err}
use Rattle.std.specs.List.{filter, list_all, list_any}
use Rattle.rc_lang.specs.Names.{is_name_byte}
use Rattle.rc_lang.specs.Program.{Program}
use Rattle.rc_read.specs.Answer.{answer_of}
use Rattle.rc_read.specs.Causes.{number_of_cause}
use Rattle.rc_read.specs.Words.{cut, words_of}
use Rattle.rc_rewrite.specs.declared.keeps.UnreadLine.{UnreadLine}

-- ---- a line

abbrev pub has_byte : ℕ → List ℕ → Bool
has_byte byte bytes = list_any (λ b. b == byte) bytes

-- These words are before the items of a line that opens a loop,
abbrev pub OpensLoop : List ℕ → Type 0
OpensLoop before = words_of before ≡ codes "loop" ∷ codes "keeps" ∷ []

-- and the line's first brace, the byte 123, is behind them.
pub record IsLoopLine (line before items behind : List ℕ) : Type 0 where
  pub whole : line ≡ before ++ (items ++ 123 ∷ behind)
  pub opens : OpensLoop before
  pub bare : has_byte 123 items ≡ false

-- New items have the bytes of names, colons and spaces.
abbrev pub is_item_byte : ℕ → Bool
is_item_byte b = is_name_byte b || b == 58 || b == 32

abbrev pub are_items : List ℕ → Bool
are_items list = list_all is_item_byte list

-- Each item has a colon, the byte 58. Two words between items may have none: `when` and the flag's name.
abbrev pub flag_words : List ℕ → List (List ℕ)
flag_words items = filter (λ word. not (has_byte 58 word)) (words_of items)

-- These can be in the place of those: the flag that they name stays.
pub record CanReplace (items list : List ℕ) : Type 0 where
  pub bytes : are_items list ≡ true
  pub flag : flag_words list ≡ flag_words items

-- A line stays, byte for byte; or it opens a loop, and all of it stays but the items.
abbrev pub IsLineRefilled : List ℕ → List ℕ → Type 0
IsLineRefilled old new =
    (new ≡ old)
    ⊎ ((before items behind list : List ℕ) × IsLoopLine old before items behind
    × CanReplace items list × (new ≡ before ++ (list ++ 123 ∷ behind)))

-- ---- a model

abbrev pub AreLinesRefilled : List (List ℕ) → List (List ℕ) → Type 0
AreLinesRefilled [] [] = Unit {0}
AreLinesRefilled [] (new ∷ news) = ⊥
AreLinesRefilled (old ∷ olds) [] = ⊥
AreLinesRefilled (old ∷ olds) (new ∷ news) = IsLineRefilled old new × AreLinesRefilled olds news

-- So it is with each line that a line feed ends, and with the bytes after the last line feed.
abbrev pub IsRefilled : List ℕ → List ℕ → Type 0
IsRefilled old new =
    AreLinesRefilled (cut old).0 (cut new).0 × IsLineRefilled (cut old).1 (cut new).1

-- ---- the answer

abbrev pub CanBeRead : List ℕ → Type 0
CanBeRead bytes = (P : Program) × (answer_of bytes ≡ Ok P)

-- The model can be read, and what is printed too, which is the model but for the items of its loops.
abbrev pub IsKept : List ℕ → List ℕ → Type 0
IsKept bytes text = CanBeRead bytes × CanBeRead text × IsRefilled bytes text

-- That, or this is the first line that can't be read.
abbrev pub GivesKept : List ℕ → Result (Vec ℕ) UnreadLine → Type 0
GivesKept bytes (Ok text) = IsKept bytes text.items
GivesKept bytes (Err unread) = answer_of bytes ≡ Err (unread.line, number_of_cause unread.cause)
