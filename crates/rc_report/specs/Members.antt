-- Objects that are made member by member.
use Rattle.std.specs.Prelude.{ℕ, ◌≡◌, List, Option, Some, None, String, codes}
use Rattle.std.specs.declared.alloc.Global.{Global}
use Rattle.std.proofs.Common.{BTreeMap}
use Rattle.serde_json.specs.Data.{Data, Members, no_members, number as json_number, put, string, unsigned}
use Rattle.serde_json.specs.View.{members_view}
use Rattle.serde_json.specs.declared.value.Value.{Value}
use Rattle.rc_report.specs.Verdicts.{Finding}

-- A member is added, or has this value now.
abbrev pub IsPut : List ℕ → Data → BTreeMap (String Global) Value → BTreeMap (String Global) Value → Type 0
IsPut key value old new = members_view new.entries ≡ put key value (members_view old.entries)

-- the members, with what a verdict says
abbrev pub with_finding : Option Finding → Members → Members
with_finding None members = put (codes "verdict") (string (codes "accepted")) members
with_finding (Some f) members =
    put (codes "verdict") (string f.word) (put (codes "line") (json_number (unsigned f.line))
    (put (codes "code") (json_number (unsigned f.number)) (put (codes "cause") (string f.name) members)))

-- the member with the name of a file, if there is one
abbrev pub named_members : Option (List ℕ) → Members
named_members None = no_members
named_members (Some file) = put (codes "file") (string file) no_members
