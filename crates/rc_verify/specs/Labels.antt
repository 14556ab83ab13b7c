-- The labels of a thread, line by line: which the strongest are at a place, and how one goes on from it.
use Rattle.std.specs.Prelude.{ℕ, ◌≡◌, ◌+◌, ◌<◌, true, false, Bool, List, Option, Some, None, Result, Ok, Err, length, take}
use Rattle.rc_lang.specs.declared.lines.Line.{Line}
use Rattle.rc_lang.specs.Program.{Program, Thread}
use Rattle.rc_lang.specs.Views.{view_of}
use Rattle.rc_rules.specs.declared.cause.Cause.{Cause}
use Rattle.rc_rules.specs.Causes.{premise_number}
use Rattle.rc_rules.specs.Labels.{Weaker}
use Rattle.rc_rules.specs.Labellings.{label_at, HasLabels, IsGood, IsRefusedAt}
use Rattle.rc_rules.specs.Sides.{Sides, on}
use Rattle.rc_rules.specs.States.{State, sides_of}
use Rattle.rc_verify.specs.declared.walk.Walk.{Walk}
use Rattle.rc_verify.specs.Walk.{IsOf, Reaches}

-- Of all labellings that are good at the lines before place j, one has these labels at j, and none says more there on a
-- side.
pub record IsStrongestAt (P : Program) (t : Thread) (j : ℕ) (s : Sides) : Type 0 where
  pub one : (labels : List Sides) × IsGood P t (take j t.lines) labels × ((z : Bool) → label_at labels j z ≡ on z s)
  pub strongest : (labels : List Sides) → IsGood P t (take j t.lines) labels → (z : Bool) → Weaker (label_at labels j z) (on z s)

-- A place of a thread of a program, by its number, and the state there.
pub record Labels : Type 0 where
  pub program : Program
  pub number : ℕ
  pub thread : Thread
  pub place : ℕ
  pub state : State

-- the program as the thread names its parts
abbrev pub named_in : Labels → Program
named_in l = view_of l.program l.number

-- The state has the strongest labels at the place.
abbrev pub HasStrongest : Labels → Type 0
HasStrongest l = IsStrongestAt (named_in l) l.thread l.place (sides_of l.state)

-- The line at j is refused for this cause.
abbrev pub IsRefusedFor : Program → Thread → ℕ → Cause → Type 0
IsRefusedFor P t j cause = (l : Line) × IsRefusedAt P t j l (premise_number cause)

-- The state is of the thread, and its labels are the strongest at j.
abbrev pub IsHere : Program → Thread → ℕ → State → Type 0
IsHere P t j s = IsOf P t s × IsStrongestAt P t j (sides_of s)

-- It goes on to the next line; or it stays, where there is none and all lines have labels, or the line is refused.
abbrev pub Goes : Labels → Labels → Result Bool Cause → Type 0
Goes old new (Ok true) = (old.place < length old.thread.lines) × (new.place ≡ old.place + 1)
Goes old new (Ok false) = (new ≡ old) × (old.place ≡ length old.thread.lines) × HasLabels (named_in old) old.thread old.thread.lines
Goes old new (Err cause) = (new ≡ old) × IsRefusedFor (named_in old) old.thread old.place cause

-- Inside, a walk has come to the line, or the line is refused, and the state is that before it.
abbrev pub IsAtLine : Program → Thread → ℕ → Walk → Option Cause → Type 0
IsAtLine P t j w None = Reaches P t j w
IsAtLine P t j w (Some cause) = IsRefusedFor P t j cause × IsHere P t j w.state
