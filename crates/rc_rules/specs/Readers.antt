-- What a caller reads of a state, and of what a line needs.
use Rattle.std.specs.Prelude.{Bool, true, false, ◌||◌, cond, nat_eq, List, [], ◌∷◌, Option, Some, None}
use Rattle.rc_split.specs.declared.part.Part.{Part as Given}
use Rattle.rc_split.specs.Holdings.{covers_part}
use Rattle.rc_rules.specs.declared.cause.Cause.{Cause}
use Rattle.rc_rules.specs.declared.needs.Asks.{Asks}
use Rattle.rc_rules.specs.Causes.{premise_number}
use Rattle.rc_rules.specs.Labels.{Label, Dead, Live}

-- whether the part is held, which nothing is where nothing reaches
abbrev pub has_part : Label → Given → Bool
has_part Dead part = false
has_part (Live bag m) part = covers_part bag part

-- whether it is held on some side
abbrev pub some_has : (Bool → Label) → Given → Bool
some_has known part = has_part (known true) part || has_part (known false) part

-- what the premise with the cause is about, where one of the needs has it
abbrev pub about : List (Cause × Asks) → Cause → Option Asks
about [] cause = None
about (need ∷ rest) cause = cond (nat_eq (premise_number need.0) (premise_number cause)) (Some need.1) (about rest cause)
