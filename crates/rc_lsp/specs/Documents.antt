-- The documents that an editor has open.
use Rattle.std.specs.Prelude.{ℕ, ◌≡◌, ◌||◌, Bool, true, false, if◌then◌else◌, List, [], Option, Some, None, is_some, nat_lt, option_map}
use Rattle.std.specs.BTreeMap.{btree_map_len, get_by_text}
use Rattle.std.specs.Str.{bytes_eq}
use Rattle.rc_report.specs.declared.verdict.Verdict.{Verdict}
use Rattle.rc_lsp.specs.declared.documents.Documents.{Documents}
use Rattle.rc_lsp.specs.Published.{Published}

-- the last text of the document with this URI, if it is open
abbrev pub text_of : List ℕ → Documents → Option (List ℕ)
text_of uri documents = option_map (λ text. text.items) (get_by_text documents.texts uri)

-- it is open, or one more may be opened
abbrev pub has_room : List ℕ → Documents → Bool
has_room uri documents = is_some (text_of uri documents) || nat_lt (btree_map_len documents.texts) 64

-- Each document has the text that it had.
abbrev pub IsKept : Documents → Documents → Type 0
IsKept old new = (uri : List ℕ) → text_of uri new ≡ text_of uri old

-- This document has this text, or is closed, and each other one has the text that it had.
abbrev pub IsGiven : List ℕ → Option (List ℕ) → Documents → Documents → Type 0
IsGiven uri text old new = (other : List ℕ) → text_of other new ≡ (if bytes_eq uri other then text else text_of other old)

-- This document has these bytes, if there is room for it.
abbrev pub IsChanged : Bool → List ℕ → List ℕ → Documents → Documents → Type 0
IsChanged true uri bytes old new = IsGiven uri (Some bytes) old new
IsChanged false uri bytes old new = IsKept old new

-- What is published of a document: the verdict on its text, if it is open, and else nothing.
abbrev pub Shows : List ℕ → Option (List ℕ) → Option Verdict → List ℕ → Type 0
Shows uri None verdict text = (verdict ≡ None) × (text ≡ [])
Shows uri (Some bytes) None text = ⊥
Shows uri (Some bytes) (Some verdict) text = Published uri bytes verdict text
