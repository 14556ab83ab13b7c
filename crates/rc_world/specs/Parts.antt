-- What the parts of controls and the bytes of a buffer in the code stand for.
use Rattle.std.specs.Prelude.{ℕ, ◌-◌, List, ◌++◌, drop, length, pos, replicate}
use Rattle.rc_world.specs.declared.controls.Control.{Control}
use Rattle.rc_world.specs.Controls.{Standing}

abbrev pub view_control : Control → Standing
view_control t = record { place = t.place; variables = t.variables }

-- a thread at its first line, its variables 0
abbrev pub at_first_line : Control
at_first_line = record { place = 0; variables = replicate 64 (pos 0) }

-- so many bytes, which begin with these; each after them is the same
abbrev pub bytes_in : (len rest : ℕ) → List ℕ → List ℕ
bytes_in len rest first = first ++ replicate (len - length first) rest

-- the bytes, where the first ones are the fill byte
abbrev pub refilled : (count fill : ℕ) → List ℕ → List ℕ
refilled count fill bytes = replicate count fill ++ drop count bytes
