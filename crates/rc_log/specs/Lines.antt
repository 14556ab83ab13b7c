-- The lines of a log, and what is given of them where its bytes come in pieces.
use Rattle.std.specs.Prelude.{ℕ, ◌≡◌, ◌+◌, ◌<◌, ◌≤◌, ◌||◌, ◌==◌, if◌then◌else◌, List, [], ◌∷◌, ◌++◌, length, take, drop, Bool, true, false, Option, Some, None, Result, Ok, Err, codes, ⊤}
use Rattle.std.specs.Str.{bytes_eq}
use Rattle.rc_read.specs.Words.{cut}
use Rattle.rc_log.specs.declared.pending.Seen.{Seen}
use Rattle.rc_log.specs.declared.pending.Seen.TheVariants.{Line, More, End, TooLong}
use Rattle.rc_log.specs.declared.reader.LogFault.{LogFault}
use Rattle.rc_log.specs.declared.reader.LogFault.TheVariants as fault
use Rattle.rc_log.specs.declared.reader.Next.{Next}
use Rattle.rc_log.specs.declared.reader.Next.TheVariants as next

-- A log ends at its first byte 0,
abbrev pub before_nul : List ℕ → List ℕ
before_nul [] = []
before_nul (b ∷ bytes) = if b == 0 then [] else b ∷ before_nul bytes

-- and the bytes after its last line feed are no line.
abbrev pub log_lines : List ℕ → List (List ℕ)
log_lines bytes = (cut (before_nul bytes)).0

abbrev pub log_rest : List ℕ → List ℕ
log_rest bytes = (cut (before_nul bytes)).1

-- A log that was full has this word there.
abbrev pub is_full : List ℕ → Bool
is_full bytes = bytes_eq (log_rest bytes) (codes "full")

-- The line with which the bytes begin, as far as it is there.
abbrev pub begun : List ℕ → List ℕ
begun [] = []
begun (b ∷ bytes) = if b == 10 || b == 0 then [] else b ∷ begun bytes

-- ---- bytes that wait

-- The next line is this, after which these bytes are left; no line is left, and these bytes are the rest.
abbrev pub GoesOn : List ℕ → List ℕ → List ℕ → Type 0
GoesOn bytes line left = (log_lines bytes ≡ line ∷ log_lines left) × (log_rest bytes ≡ log_rest left)

abbrev pub EndsIn : List ℕ → List ℕ → Type 0
EndsIn bytes rest = (log_lines bytes ≡ []) × (log_rest bytes ≡ rest)

-- What bytes begin with, whatever comes after them: a line of so many bytes, nothing that has ended, the log's end after
-- so many bytes, or a line of more than 4,096 bytes.
abbrev pub BeginsWith : List ℕ → Seen → Type 0
BeginsWith bytes (Line n) = (n < length bytes) × (n ≤ 4096) × ((more : List ℕ) → GoesOn (bytes ++ more) (take n bytes) (drop (n + 1) bytes ++ more))
BeginsWith bytes More = (length bytes ≤ 4096) × EndsIn bytes bytes
BeginsWith bytes (End n) = (n < length bytes) × ((more : List ℕ) → EndsIn (bytes ++ more) (take n bytes))
BeginsWith bytes TooLong = (more : List ℕ) → 4096 < length (begun (bytes ++ more))

-- ---- what a reader gives

-- This is the log's next line, after which these bytes are left.
abbrev pub IsNext : List ℕ → Option (List ℕ) → List ℕ → Type 0
IsNext old None line = ⊥
IsNext old (Some new) line = GoesOn old line new × (length line ≤ 4096)

-- the end of a log with these bytes after its last line
abbrev pub end_of : List ℕ → Next
end_of rest = if bytes_eq rest (codes "full") then next.Full else next.End

-- A reader with these bytes left gives the next line, says that there is none, and whether the log was full, or that it
-- is too long.
abbrev pub GivesOf : List ℕ → Option (List ℕ) → List ℕ → Result Next LogFault → Type 0
GivesOf old new line (Ok next.Line) = IsNext old new line
GivesOf old new line (Ok next.End) = (log_lines old ≡ []) × (is_full old ≡ false)
GivesOf old new line (Ok next.Full) = (log_lines old ≡ []) × (is_full old ≡ true)
GivesOf old new line (Err fault.TooLong) = 4096 < length (begun old)
GivesOf old new line (Err _) = ⊤

-- The same where the bytes that are left may be unknown, and then nothing is said.
abbrev pub Gives : Option (List ℕ) → Option (List ℕ) → List ℕ → Result Next LogFault → Type 0
Gives None new line given = ⊤
Gives (Some old) new line given = GivesOf old new line given
