-- Ways through a program that make the lines of a log, and which lines of the text they went over.
use Rattle.std.specs.Prelude.{ℕ, ◌≡◌, ◌⊎◌, ◌+◌, ◌-◌, Bool, true, false, List, [], ◌∷◌, ◌++◌, length, Option, Some, None, replicate, slice_set}
use Rattle.rc_lang.specs.declared.lines.Line.{Line}
use Rattle.rc_lang.specs.Program.{Program}
use Rattle.rc_log.specs.declared.call.Call.{Call}
use Rattle.rc_log.specs.declared.call.Said.{Said}
use Rattle.rc_world.specs.Controls.{next_line}
use Rattle.rc_world.specs.declared.event.Event.{Event}
use Rattle.rc_world.specs.Machine.{World, start_world}
use Rattle.rc_follow.specs.Followed.{Asks, Calls, Hides, IsBy, Noted, noted_line}

-- Where a way is, and of each number of a line of the text whether a line of the log was its call on the way. Numbers
-- behind the last weren't.
pub record Way : Type 0 where
  pub world : World
  pub made : List Bool

abbrev pub start_way : Program → Way
start_way P = record { world = start_world P; made = [] }

-- the line of this number is among those whose calls were made
abbrev pub with_made : ℕ → List Bool → List Bool
with_made number made = slice_set (made ++ replicate (number + 1 - length made) false) number true

abbrev pub made_by : Option Line → List Bool → List Bool
made_by None made = made
made_by (Some line) made = with_made line.number made

-- Hidden steps lead on. They make no call.
abbrev pub Leads : Noted → Way → Way → Type 0
Leads n w v = (es : List Event) × Hides n w.world es v.world × (v.made ≡ w.made)

-- The line of the log is the call of the line of the text that its thread has next, or it asks.
abbrev pub Makes : Program → Noted → Way → ℕ → Call → Way → Type 0
Makes P n w i call u =
    (Calls n w.world i call u.world × (u.made ≡ made_by (next_line w.world.program w.world.controls i) w.made))
    ⊎ (Asks P n w.world i call × (w ≡ u))

-- The lines of a log, one after another, with hidden steps before and after each.
abbrev pub GoesOver : Program → Noted → Way → List Said → Way → Type 0
GoesOver P n w [] after = Leads n w after
GoesOver P n w (l ∷ ls) after =
    (before : Way) × Leads n w before × (i : ℕ) × IsBy l i × (next : Way) × Makes P n before i l.call next
    × GoesOver P (noted_line P n l) next ls after
