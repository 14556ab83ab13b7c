-- Verdicts as text and as JSON.
use Rattle.std.specs.Prelude.{ℕ, List, [], ◌∷◌, ◌++◌, codes, decimal, Option, Some, None}
use Rattle.serde_json.specs.Data.{Data, Members, member, no_members, number as json_number, object, string, unsigned}
use Rattle.serde_json.specs.Written.{compact_text}
use Rattle.rc_read.specs.Causes as reading
use Rattle.rc_rules.specs.Causes as rules_of
use Rattle.rc_report.specs.declared.verdict.Finding.{Finding as CodeFinding}
use Rattle.rc_report.specs.declared.verdict.Verdict.{Verdict}
use Rattle.rc_report.specs.declared.verdict.Verdict.TheVariants.{Accepted, Refused, Unreadable}
use Rattle.rc_report.specs.Printed.{joined}

-- What a verdict says of a line: its word, the line, and the cause by the letter of its kind, its number and its name.
pub record Finding : Type 0 where
  pub word : List ℕ
  pub line : ℕ
  pub letter : List ℕ
  pub number : ℕ
  pub name : List ℕ

abbrev pub finding_of : CodeFinding → Finding
finding_of f = record { word = f.word.now; line = f.line; letter = f.letter.now; number = f.number; name = f.name.now }

-- a model whose line can't be read, for the cause with this number
abbrev pub unreadable : ℕ → ℕ → Finding
unreadable line number = record { word = codes "unreadable"; line = line; letter = codes "P"; number = number; name = reading.name_numbered number }

abbrev pub finding : Verdict → Option Finding
finding Accepted = None
finding (Refused r) = Some (record { word = codes "refused"; line = r.line; letter = codes "V"; number = rules_of.premise_number r.cause; name = rules_of.name_of r.cause })
finding (Unreadable line cause) = Some (unreadable line (reading.number_of_cause cause))

-- ---- as text

-- why a line isn't good, to the end of the line: the letter, the number and the name
abbrev pub cause_line : List ℕ → List ℕ → List ℕ → List ℕ
cause_line letter number name = joined (letter ∷ number ∷ codes " " ∷ name ∷ codes "\n" ∷ [])

abbrev pub cause_text : Finding → List ℕ
cause_text f = cause_line f.letter (decimal f.number) f.name

abbrev pub finding_line : List ℕ → List ℕ → List ℕ → List ℕ
finding_line word line cause = joined (word ∷ codes " line " ∷ line ∷ codes " " ∷ cause ∷ [])

abbrev pub finding_text : Option Finding → List ℕ
finding_text None = codes "accepted\n"
finding_text (Some f) = finding_line f.word (decimal f.line) (cause_text f)

abbrev pub verdict_text : Verdict → List ℕ
verdict_text verdict = finding_text (finding verdict)

abbrev pub unreadable_text : ℕ → ℕ → List ℕ
unreadable_text line number = finding_text (Some (unreadable line number))

-- ---- as JSON: one object, its keys in order; of a file its name too

abbrev pub file_member : Option (List ℕ) → Members → Members
file_member None rest = rest
file_member (Some file) rest = member (codes "file") (string file) rest

abbrev pub finding_object : Option (List ℕ) → Option Finding → Data
finding_object file None = object (file_member file (member (codes "verdict") (string (codes "accepted")) no_members))
finding_object file (Some f) =
    object (member (codes "cause") (string f.name) (member (codes "code") (json_number (unsigned f.number)) (file_member file
    (member (codes "line") (json_number (unsigned f.line)) (member (codes "verdict") (string f.word) no_members)))))

-- without spaces, and with a line feed
abbrev pub verdict_json : Verdict → List ℕ
verdict_json verdict = compact_text (finding_object None (finding verdict)) ++ codes "\n"
