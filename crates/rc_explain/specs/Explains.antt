-- What is answered and written where a verdict is explained.
use Rattle.std.specs.Prelude.{ℕ, ◌≡◌, false, List, ◌++◌, codes, Option, Some, None}
use Rattle.json.specs.Lex.{tokens}
use Rattle.json.specs.Print.{print}
use Rattle.serde_json.specs.Data.{Data, number, string, unsigned}
use Rattle.serde_json.specs.Find.{get}
use Rattle.serde_json.specs.Written.{IsInOrder}
use Rattle.rc_read.specs.Answer.{answer_of}
use Rattle.rc_read.specs.Causes as reading
use Rattle.rc_rules.specs.Causes as rules_of
use Rattle.rc_report.specs.declared.verdict.Verdict.{Verdict}
use Rattle.rc_report.specs.declared.verdict.Verdict.TheVariants.{Accepted, Refused, Unreadable}
use Rattle.rc_report.specs.Checks.{IsVerdict}
use Rattle.rc_report.specs.Files.{printed}
use Rattle.rc_report.specs.Shown.{shown}
use Rattle.rc_console.specs.declared.command.Form.{Form}
use Rattle.rc_console.specs.declared.command.Form.TheVariants.{Words, Listing, Json}

-- ---- as JSON

abbrev pub HasMember : List ℕ → Data → Data → Type 0
HasMember key value whole = get key whole ≡ Some value

abbrev pub LacksMember : List ℕ → Data → Type 0
LacksMember key whole = get key whole ≡ None

-- a line that isn't good, with its cause by name and number; the other members are what explains it
abbrev pub TellsLine : List ℕ → List ℕ → ℕ → ℕ → Data → Type 0
TellsLine word name code line whole =
    HasMember (codes "verdict") (string word) whole × HasMember (codes "cause") (string name) whole
    × HasMember (codes "code") (number (unsigned code)) whole × HasMember (codes "line") (number (unsigned line)) whole

abbrev pub TellsVerdict : Verdict → Data → Type 0
TellsVerdict Accepted whole =
    HasMember (codes "verdict") (string (codes "accepted")) whole × LacksMember (codes "cause") whole
    × LacksMember (codes "code") whole × LacksMember (codes "line") whole
TellsVerdict (Refused r) whole = TellsLine (codes "refused") (rules_of.name_of r.cause) (rules_of.premise_number r.cause) r.line whole
TellsVerdict (Unreadable line cause) whole = TellsLine (codes "unreadable") (reading.name_of_cause cause) (reading.number_of_cause cause) line whole

-- the file's name, if the model is that of a file
abbrev pub TellsFile : Option (List ℕ) → Data → Type 0
TellsFile None whole = Unit {0}
TellsFile (Some file) whole = HasMember (codes "file") (string file) whole

-- The text of such an object: without spaces, each member once and in the order of the keys.
abbrev pub IsObjectOf : Option (List ℕ) → Verdict → List ℕ → Type 0
IsObjectOf file verdict json =
    (whole : Data) × TellsVerdict verdict whole × TellsFile file whole × IsInOrder json whole × (json ≡ print (tokens json))

-- The same as it is shown, and a line feed: `\u` and four hex digits stand for the same character in JSON.
abbrev pub IsObjectText : Option (List ℕ) → Verdict → List ℕ → Type 0
IsObjectText file verdict text = (json : List ℕ) × IsObjectOf file verdict json × (text ≡ shown json ++ codes "\n")

-- ---- in words: the line of the verdict comes first, as it is without an explanation

abbrev pub BeginsWith : List ℕ → List ℕ → Type 0
BeginsWith line text = (rest : List ℕ) × (text ≡ line ++ rest)

-- ---- in each form

abbrev pub Tells : Option (List ℕ) → Form → Verdict → List ℕ → Type 0
Tells file Words verdict text = BeginsWith (printed file false verdict) text
Tells file Listing verdict text = BeginsWith (printed file false verdict) text
Tells file Json verdict text = IsObjectText file verdict text

-- The verdict on the bytes, which are those of a file if one is named, and a text that explains it.
abbrev pub Explains : List ℕ → Option (List ℕ) → Form → Verdict → List ℕ → Type 0
Explains bytes file form verdict text = IsVerdict (answer_of bytes) verdict × Tells file form verdict text
