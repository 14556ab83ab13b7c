-- What is published of a model.
use Rattle.std.specs.Prelude.{ℕ, ◌≡◌, ◌-◌, List, [], ◌∷◌, ◌++◌, codes, decimal, Option, Some, None, option_and_then}
use Rattle.serde_json.specs.Data.{Data, Items, array, item, no_items, number, string, unsigned}
use Rattle.serde_json.specs.Find.{get}
use Rattle.rc_read.specs.Answer.{answer_of}
use Rattle.rc_report.specs.declared.verdict.Verdict.{Verdict}
use Rattle.rc_report.specs.Checks.{IsVerdict}
use Rattle.rc_report.specs.Verdicts.{Finding, finding}
use Rattle.rc_lsp.specs.Frames.{Carries}

abbrev pub HasMember : List ℕ → Data → Data → Type 0
HasMember key value whole = get key whole ≡ Some value

abbrev pub HasNumber : List ℕ → ℕ → Data → Type 0
HasNumber key n whole = HasMember key (number (unsigned n)) whole

-- what is at the end of a path of keys
abbrev pub along : List (List ℕ) → Data → Option Data
along [] whole = Some whole
along (key ∷ keys) whole = option_and_then (along keys) (get key whole)

-- ---- diagnostics

-- A range that begins on this line, from 0.
abbrev pub BeginsAt : ℕ → Data → Type 0
BeginsAt line range = along (codes "start" ∷ codes "line" ∷ []) range ≡ Some (number (unsigned line))

-- The diagnostic of a finding is an error with its code, as `V8`, and it begins on its line.
abbrev pub IsError : Finding → Data → Type 0
IsError f d =
    HasNumber (codes "severity") 1 d × HasMember (codes "code") (string (f.letter ++ decimal f.number)) d
    × (range : Data) × HasMember (codes "range") range d × BeginsAt (f.line - 1) range

-- A note is a hint.
abbrev pub IsHint : Data → Type 0
IsHint d = HasNumber (codes "severity") 4 d

abbrev pub AreHints : Items → Type 0
AreHints no_items = Unit {0}
AreHints (item d ds) = IsHint d × AreHints ds

-- The diagnostics of a model with this finding: the error, if there is one, and hints.
abbrev pub Tells : Option Finding → Items → Type 0
Tells None ds = AreHints ds
Tells (Some f) no_items = ⊥
Tells (Some f) (item d ds) = IsError f d × AreHints ds

-- The diagnostics of the model with this name.
abbrev pub Names : List ℕ → Items → Data → Type 0
Names uri ds params = HasMember (codes "uri") (string uri) params × HasMember (codes "diagnostics") (array ds) params

-- A message that publishes them.
abbrev pub Publishes : List ℕ → Items → Data → Type 0
Publishes uri ds whole =
    HasMember (codes "method") (string (codes "textDocument/publishDiagnostics")) whole
    × (params : Data) × HasMember (codes "params") params whole × Names uri ds params

-- A frame that publishes the verdict on these bytes.
abbrev pub Published : List ℕ → List ℕ → Verdict → List ℕ → Type 0
Published uri bytes verdict text =
    IsVerdict (answer_of bytes) verdict
    × (ds : Items) × Tells (finding verdict) ds × (whole : Data) × Publishes uri ds whole × Carries whole text

-- A frame that publishes the verdict on these bytes, whichever that is.
abbrev pub IsPublished : List ℕ → List ℕ → List ℕ → Type 0
IsPublished uri bytes text = (verdict : Verdict) × Published uri bytes verdict text

-- A frame that takes back what was published.
abbrev pub IsTakenBack : List ℕ → List ℕ → Type 0
IsTakenBack uri text = (whole : Data) × Publishes uri no_items whole × Carries whole text
