-- What a body says, as JSON.
use Rattle.std.specs.Prelude.{ℕ, ◌≡◌, ◌⊎◌, List, IsUtf8, Option, Some, None}
use Rattle.serde_json.specs.Data.{Data}
use Rattle.serde_json.specs.Read.{read}
use Rattle.rc_lsp.specs.Escapes.{repaired}

-- Bytes are the text of this value, or of none.
abbrev pub IsRead : List ℕ → Option Data → Type 0
IsRead bytes (Some value) = read bytes ≡ Some value
IsRead bytes None = IsUtf8 bytes → read bytes ≡ None

-- A body that is no JSON says what it says with U+FFFD for each half of a surrogate pair that is alone.
abbrev pub Says : List ℕ → Option Data → Type 0
Says body (Some value) = IsRead body (Some value) ⊎ (IsRead body None × IsRead (repaired body) (Some value))
Says body None = IsRead body None × IsRead (repaired body) None
