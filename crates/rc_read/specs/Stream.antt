-- What a reader stands for that has been fed bytes, in whatever pieces.
use Rattle.std.specs.Prelude.{◌≡◌, ℕ, ◌+◌, List, Option, Some, None, Result, Ok, Err, IsOk}
use Rattle.rc_lang.specs.Program.{Program}
use Rattle.rc_read.specs.Answer.{judged, above_fault, at_end, answer_of, program_in}
use Rattle.rc_read.specs.Causes.{number_of_cause}
use Rattle.rc_read.specs.Sentences.{sentences, first_true}
use Rattle.rc_read.specs.Sheets.{Sheet, empty}
use Rattle.rc_read.specs.Adds.{with_line}
use Rattle.rc_read.specs.View.{view_sheet}
use Rattle.rc_read.specs.Words.{cut, text_lines}
use Rattle.rc_read.specs.declared.fault.ReadFault.{ReadFault}
use Rattle.rc_read.specs.declared.fault.ReadFault.TheVariants.{Text, OutOfMemory}
use Rattle.rc_read.specs.declared.parts.Unread.{Unread}

-- A reader: the fault that it answers from now on, what was read so far, and the bytes of the line that hasn't ended.
pub record Reading : Type 0 where
  pub fault : Option ReadFault
  pub sheet : Sheet
  pub pending : List ℕ

-- What becomes of the sheet at a line, unless memory ran out: a line at fault leaves it as it was.
abbrev pub Judges : {X : Type 0} → Sheet → List ℕ → Sheet → Result X ReadFault → Type 0
Judges old line new (Ok u) = (first_true (sentences old line) ≡ None) × (new ≡ with_line old line)
Judges old line new (Err (Text number cause)) = (first_true (sentences old line) ≡ Some (number_of_cause cause)) × (number ≡ old.count + 1) × (new ≡ old)
Judges old line new (Err OutOfMemory) = Unit {0}

-- The same for several lines.
abbrev pub JudgesAll : {X : Type 0} → Sheet → List (List ℕ) → Sheet → Result X ReadFault → Type 0
JudgesAll old lines new (Ok u) = judged old lines ≡ Ok new
JudgesAll old lines new (Err (Text line cause)) = (judged old lines ≡ Err (line, number_of_cause cause)) × (new ≡ above_fault old lines)
JudgesAll old lines new (Err OutOfMemory) = Unit {0}

-- Without a fault the lines that have ended are judged, and the rest is pending. After one, what was read above it is
-- kept. Where memory ran out nothing is claimed.
abbrev pub Reads : Option ReadFault → Sheet → List ℕ → List ℕ → Type 0
Reads None s pending bytes = (judged empty (cut bytes).0 ≡ Ok s) × (pending ≡ (cut bytes).1)
Reads (Some (Text line cause)) s pending bytes = JudgesAll {X = Unit {0}} empty (cut bytes).0 s (Err (Text line cause))
Reads (Some OutOfMemory) s pending bytes = Unit {0}

-- The reader has been fed these bytes.
abbrev pub HasRead : Reading → List ℕ → Type 0
HasRead r bytes = Reads r.fault r.sheet r.pending bytes

-- What the lines say that a line feed has ended: of none is a sentence true, or this is the first fault.
abbrev pub IsAnswerSoFar : {X : Type 0} → List ℕ → Result X ReadFault → Type 0
IsAnswerSoFar bytes (Ok u) = IsOk (judged empty (cut bytes).0)
IsAnswerSoFar bytes (Err (Text line cause)) = judged empty (cut bytes).0 ≡ Err (line, number_of_cause cause)
IsAnswerSoFar bytes (Err OutOfMemory) = Unit {0}

-- There are lines that make this sheet, unless a fault was met.
abbrev pub IsReached : Sheet → Type 0
IsReached s = (lines : List (List ℕ)) × (judged empty lines ≡ Ok s)

abbrev pub IsReachedOrFaulty : Option ReadFault → Sheet → Type 0
IsReachedOrFaulty None s = IsReached s
IsReachedOrFaulty (Some f) s = Unit {0}

-- The answer for these bytes, unless memory ran out.
abbrev pub IsAnswer : List ℕ → Result Program ReadFault → Type 0
IsAnswer bytes (Ok p) = answer_of bytes ≡ Ok p
IsAnswer bytes (Err (Text line cause)) = answer_of bytes ≡ Err (line, number_of_cause cause)
IsAnswer bytes (Err OutOfMemory) = Unit {0}

-- The same beside what was read: what is above the line in question, and at the model's end all lines.
abbrev pub StopsAt : List ℕ → ReadFault → Sheet → Type 0
StopsAt bytes (Text line cause) s = (answer_of bytes ≡ Err (line, number_of_cause cause)) × (s ≡ above_fault empty (text_lines bytes))
StopsAt bytes OutOfMemory s = Unit {0}

abbrev pub IsReadAs : List ℕ → Result Program Unread → Type 0
IsReadAs bytes (Ok p) = answer_of bytes ≡ Ok p
IsReadAs bytes (Err unread) = StopsAt bytes unread.fault (view_sheet unread.parts)

-- The answer of the model's end, which takes no memory.
abbrev pub JudgesEnd : {X : Type 0} → Sheet → Result X ReadFault → Type 0
JudgesEnd s (Ok u) = at_end s ≡ Ok (program_in s)
JudgesEnd s (Err (Text line cause)) = at_end s ≡ Err (line, number_of_cause cause)
JudgesEnd s (Err OutOfMemory) = ⊥

abbrev pub Ends : Sheet → Result Program Unread → Type 0
Ends s (Ok p) = at_end s ≡ Ok p
Ends s (Err unread) = JudgesEnd {X = Unit {0}} s (Err unread.fault) × (view_sheet unread.parts ≡ s)
