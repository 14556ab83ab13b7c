-- What is read of a world.
use Rattle.std.specs.Prelude.{ℕ, Bool, true, false, Option, Some, None, ℤ, pos}
use Rattle.rc_lang.specs.declared.lines.Locks.{Locks}
use Rattle.rc_world.specs.declared.controls.Holders.{Holders}
use Rattle.rc_world.specs.Controls.{Standing, variable}

-- the value of a variable, and 0 where there is no such thread
abbrev pub variable_in : Option Standing → ℕ → ℤ
variable_in None x = pos 0
variable_in (Some t) x = variable t x

-- who holds one of the wanted locks, that of the submission side first
abbrev pub if_wanted : Bool → Option ℕ → Option ℕ
if_wanted false holder = None
if_wanted true holder = holder

abbrev pub first_of : Option ℕ → Option ℕ → Option ℕ
first_of None second = second
first_of (Some i) second = Some i

abbrev pub taken_by : Locks → Holders → Option ℕ
taken_by wanted h = first_of (if_wanted wanted.sq h.sq) (if_wanted wanted.cq h.cq)
