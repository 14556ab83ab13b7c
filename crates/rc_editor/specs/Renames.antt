-- Which names may be given.
use Rattle.std.specs.Prelude.{ℕ, ◌≡◌, true, List}
use Rattle.rc_lang.specs.Names.{is_name}
use Rattle.rc_editor.specs.declared.rename.Renamed.{Renamed}
use Rattle.rc_editor.specs.declared.rename.Renamed.TheVariants.{Edits, Refused}

-- Where there are edits, the new word is a name.
abbrev pub GivesNames : List ℕ → Renamed → Type 0
GivesNames name (Edits edits) = is_name name ≡ true
GivesNames name (Refused why) = Unit {0}
