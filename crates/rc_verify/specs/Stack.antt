-- Stacks of states, each kept until its block ends.
use Rattle.std.specs.Prelude.{◌≡◌, ◌-◌, List, length, take, Option, Some, None, slice_get}
use Rattle.rc_rules.specs.States.{State}

-- the state on top, and what is below it
abbrev pub kept_in : Option (Option State) → Option State
kept_in None = None
kept_in (Some x) = x

abbrev pub last_of : List (Option State) → Option State
last_of xs = kept_in (slice_get xs (length xs - 1))

-- The state on top, if there is one, is such a state.
abbrev pub OnLast : List (Option State) → (State → Type 0) → Type 0
OnLast xs F = (s : State) → last_of xs ≡ Some s → F s

abbrev pub rest_of : List (Option State) → List (Option State)
rest_of xs = take (length xs - 1) xs
