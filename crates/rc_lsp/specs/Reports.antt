-- What an editor reports of its documents.
use Rattle.std.specs.Prelude.{ℕ, List, codes, if◌then◌else◌, Option, Some, None, is_some, option_and_then, option_map}
use Rattle.std.specs.Str.{bytes_eq}
use Rattle.serde_json.specs.Data.{Data, Items, item, no_items}
use Rattle.serde_json.specs.Find.{as_array, get}
use Rattle.rc_lsp.specs.Messages.{string_in}
use Rattle.rc_lsp.specs.declared.reports.Report.{Report}
use Rattle.rc_lsp.specs.declared.reports.Report.TheVariants as report

-- A document is opened with a text, has a new text, is saved, is closed.
pub data Change : Type 0 where
  opens : List ℕ → List ℕ → Change
  edits : List ℕ → List ℕ → Change
  saves : List ℕ → Change
  closes : List ℕ → Change

abbrev pub change : Report → Change
change (report.Opened uri text) = opens uri.now text.now
change (report.Edited uri text) = edits uri.now text.now
change (report.Saved uri) = saves uri.now
change (report.Closed uri) = closes uri.now

abbrev pub last_item : Items → Option Data
last_item no_items = None
last_item (item d no_items) = Some d
last_item (item d (item e ds)) = last_item (item e ds)

-- what parameters say of a document, as its name
abbrev pub of_document : List ℕ → Data → Option (List ℕ)
of_document key params = option_and_then (string_in key) (get (codes "textDocument") params)

-- the text of a change, unless that is one of a part, which isn't offered
abbrev pub whole_text : Data → Option (List ℕ)
whole_text change = if is_some (get (codes "range") change) then None else string_in (codes "text") change

abbrev pub last_change : Data → Option Data
last_change params = option_and_then last_item (option_and_then as_array (get (codes "contentChanges") params))

-- the text after the last of the changes
abbrev pub last_text : Data → Option (List ℕ)
last_text params = option_and_then whole_text (last_change params)

-- what a method says of the document of this name
abbrev pub change_of : List ℕ → Data → List ℕ → Option Change
change_of method params uri =
    if bytes_eq method (codes "textDocument/didOpen") then option_map (opens uri) (of_document (codes "text") params)
    else (if bytes_eq method (codes "textDocument/didChange") then option_map (edits uri) (last_text params)
    else (if bytes_eq method (codes "textDocument/didSave") then Some (saves uri)
    else (if bytes_eq method (codes "textDocument/didClose") then Some (closes uri)
    else None)))

-- What a notification reports. One that lacks a part of it reports nothing.
abbrev pub reported : List ℕ → Data → Option Change
reported method params = option_and_then (change_of method params) (of_document (codes "uri") params)
