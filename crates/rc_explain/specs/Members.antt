-- Objects that are made member by member.
use Rattle.std.specs.Prelude.{ℕ, ◌≡◌, List, Option, Some, None, String, codes}
use Rattle.std.specs.declared.alloc.Global.{Global}
use Rattle.std.proofs.Common.{BTreeMap}
use Rattle.serde_json.specs.Data.{Data, object, put, string}
use Rattle.serde_json.specs.View.{members_view}
use Rattle.serde_json.specs.declared.value.Value.{Value}

abbrev pub whole : BTreeMap (String Global) Value → Data
whole members = object (members_view members.entries)

-- A member is added, or has this value now.
abbrev pub IsPut : List ℕ → Data → BTreeMap (String Global) Value → BTreeMap (String Global) Value → Type 0
IsPut key value old new = members_view new.entries ≡ put key value (members_view old.entries)

-- The name of a file is added, if there is one.
abbrev pub IsNamed : Option (List ℕ) → BTreeMap (String Global) Value → BTreeMap (String Global) Value → Type 0
IsNamed None old new = new ≡ old
IsNamed (Some file) old new = IsPut (codes "file") (string file) old new
