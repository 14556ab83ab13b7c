-- What a follower has after some lines of a log, and what one more line makes of it.
use Rattle.std.specs.Prelude.{ℕ, zero, suc, ◌≡◌, ◌<◌, ◌++◌, length, Bool, true, false, if◌then◌else◌, All, Contains, List, [], ◌∷◌, slice_index_or, slice_set}
use Rattle.std.specs.List.{list_any}
use Rattle.rc_lang.specs.Program.{Program}
use Rattle.rc_log.specs.declared.call.Said.{Said}
use Rattle.rc_log.specs.declared.call.Call.{Call}
use Rattle.rc_world.specs.declared.event.Event.{Event}
use Rattle.rc_world.specs.WeakRuns.{IsWeakStep}
use Rattle.rc_follow.specs.Followed.{IsBy, Noted, is_hidden, noted_line, start_noted}
use Rattle.rc_follow.specs.Ways.{GoesOver, Leads, Makes, Way, start_way}

-- The program, what the lines say beside the world, ways on which they can have been made, and of each number of a line
-- of the text whether it was reached by a log that came to its end or departed.
pub record Follower : Type 0 where
  pub program : Program
  pub noted : Noted
  pub ways : List Way
  pub reached : List Bool

-- a hidden step leads from one way to the other
abbrev pub IsHiddenStep : Noted → Way → Way → Type 0
IsHiddenStep n w v = (e : Event) × IsWeakStep w.world e v.world × (is_hidden n w.world e ≡ true) × (v.made ≡ w.made)

-- Ways are added, and F holds of each.
abbrev pub Adds : (Way → Type 0) → List Way → List Way → Type 0
Adds F old new = (more : List Way) × (new ≡ old ++ more) × All F more

-- Hidden steps lead from one way to another, and the line from there.
abbrev pub LeadsBy : Program → Noted → Way → ℕ → Call → Way → Type 0
LeadsBy P n w i call u = (v : Way) × Leads n w v × Makes P n v i call u

-- Hidden steps lead there from one of these.
abbrev pub ComesFrom : Noted → List Way → Way → Type 0
ComesFrom n ws v = (w : Way) × Contains ws w × Leads n w v

-- and then the line
abbrev pub ComesBy : Program → Noted → List Way → ℕ → Call → Way → Type 0
ComesBy P n ws i call u = (w : Way) × Contains ws w × LeadsBy P n w i call u

-- The line was followed: each way that is left comes from one of before by hidden steps and the line.
abbrev pub GoesOn : Follower → Said → Follower → Type 0
GoesOn old l new =
    (i : ℕ) × IsBy l i × (new.program ≡ old.program) × (new.noted ≡ noted_line old.program old.noted l)
    × All (ComesBy old.program old.noted old.ways i l.call) new.ways × (0 < length new.ways) × (new.reached ≡ old.reached)

-- ---- after all lines so far

abbrev pub noted_lines : Program → Noted → List Said → Noted
noted_lines P n [] = n
noted_lines P n (l ∷ ls) = noted_lines P (noted_line P n l) ls

-- It has at least one way, and the lines are made on each.
pub record Follows (ls : List Said) (f : Follower) : Type 0 where
  pub some : 0 < length f.ways
  pub noted : f.noted ≡ noted_lines f.program (start_noted f.program) ls
  pub ways : All (GoesOver f.program (start_noted f.program) (start_way f.program) ls) f.ways

-- ---- what was reached

-- whether the call of the line of this number was made on one of the ways
abbrev pub is_made : List Way → ℕ → Bool
is_made ways number = list_any (λ (w : Way). slice_index_or w.made number false) ways

-- These and the lines with a number below n that were made on one of the ways.
abbrev pub reached_below : (n : ℕ) → List Bool → List Way → List Bool
reached_below zero reached ways = reached
reached_below (suc n) reached ways =
    if is_made ways n then slice_set (reached_below n reached ways) n true else reached_below n reached ways

-- What the ways that are left have made is reached.
abbrev pub with_ways : Follower → Follower
with_ways f = record f { reached = reached_below (length f.reached) f.reached f.ways }
