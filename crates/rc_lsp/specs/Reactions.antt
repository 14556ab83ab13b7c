-- What a message changes, and what is published after it.
use Rattle.std.specs.Prelude.{ℕ, ◌≡◌, ◌⊎◌, Bool, true, false, List, [], codes, if◌then◌else◌, Option, Some, None, is_some, option_and_then}
use Rattle.serde_json.specs.Data.{Data, string}
use Rattle.serde_json.specs.Find.{get}
use Rattle.rc_lsp.specs.Bodies.{Says}
use Rattle.rc_lsp.specs.Documents.{IsGiven, IsKept, has_room, text_of}
use Rattle.rc_lsp.specs.Frames.{Carries}
use Rattle.rc_lsp.specs.Messages.{notification_of}
use Rattle.rc_lsp.specs.Published.{HasMember, IsPublished, IsTakenBack}
use Rattle.rc_lsp.specs.Reports.{Change, opens, edits, saves, closes, reported}
use Rattle.rc_lsp.specs.declared.documents.Documents.{Documents}
use Rattle.rc_lsp.specs.declared.server.Server.{Server}
use Rattle.rc_lsp.specs.declared.server.Stage.{Stage}
use Rattle.rc_lsp.specs.declared.server.Stage.TheVariants.{Fresh, Running, ShutDown}

abbrev pub Shows : Data → Type 0
Shows whole = HasMember (codes "method") (string (codes "window/showMessage")) whole

-- a message that the editor shows to its user
abbrev pub IsShown : List ℕ → Type 0
IsShown text = (whole : Data) × Shows whole × Carries whole text

abbrev pub HasId : Data → Type 0
HasId whole = is_some (get (codes "id") whole) ≡ true

-- an answer to a request, by its id
abbrev pub IsAnswer : List ℕ → Type 0
IsAnswer text = (whole : Data) × HasId whole × Carries whole text

-- ---- reports

-- A document is opened, if there is room for one: it has these bytes, and the verdict on them is published.
abbrev pub Opens : Bool → List ℕ → List ℕ → Documents → Documents → List ℕ → Type 0
Opens true uri bytes old new text = IsGiven uri (Some bytes) old new × IsPublished uri bytes text
Opens false uri bytes old new text = IsKept old new × IsShown text

-- A document that is open has these bytes, and the verdict on them is published.
abbrev pub Edits : Bool → List ℕ → List ℕ → Documents → Documents → List ℕ → Type 0
Edits true uri bytes old new text = IsGiven uri (Some bytes) old new × IsPublished uri bytes text
Edits false uri bytes old new text = IsKept old new × (text ≡ [])

-- The verdict on a document that is open is published again.
abbrev pub Saves : List ℕ → Option (List ℕ) → List ℕ → Type 0
Saves uri None text = text ≡ []
Saves uri (Some bytes) text = IsPublished uri bytes text

-- What was published of a document that was open is taken back.
abbrev pub Closes : List ℕ → Bool → List ℕ → Type 0
Closes uri true text = IsTakenBack uri text
Closes uri false text = text ≡ []

-- What is done at a report.
abbrev pub Heeds : Change → Documents → Documents → List ℕ → Type 0
Heeds (opens uri bytes) old new text = Opens (has_room uri old) uri bytes old new text
Heeds (edits uri bytes) old new text = Edits (is_some (text_of uri old)) uri bytes old new text
Heeds (saves uri) old new text = IsKept old new × Saves uri (text_of uri old) text
Heeds (closes uri) old new text = IsGiven uri None old new × Closes uri (is_some (text_of uri old)) text

-- ---- messages

abbrev pub is_running : Stage → Bool
is_running Fresh = false
is_running Running = true
is_running ShutDown = false

-- what a notification reports to a server that runs
abbrev pub report_in : Bool → Option (List ℕ × Data) → Option Change
report_in running notification = if running then option_and_then (λ n. reported n.0 n.1) notification else None

-- At a message without a report the documents stay as they are, and nothing is published.
abbrev pub Reacts : Option Change → Documents → Documents → List ℕ → Type 0
Reacts None old new text = IsKept old new × ((text ≡ []) ⊎ IsAnswer text)
Reacts (Some change) old new text = Heeds change old new text

-- What is done at a message with this body.
abbrev pub Answers : List ℕ → Server → Server → List ℕ → Type 0
Answers body old new text =
    (value : Option Data) × Says body value
    × Reacts (report_in (is_running old.stage) (option_and_then notification_of value)) old.documents new.documents text
