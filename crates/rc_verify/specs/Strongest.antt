-- The strongest labels up to a line.
use Rattle.std.specs.Prelude.{ℕ, ◌≤◌, Bool, List, length}
use Rattle.rc_lang.specs.declared.lines.Line.{Line}
use Rattle.rc_lang.specs.Program.{Program, Thread}
use Rattle.rc_rules.specs.Labels.{Weaker}
use Rattle.rc_rules.specs.Labellings.{label_at, IsGood}
use Rattle.rc_rules.specs.Sides.{Sides}

-- Labels of the places so far that are good at these lines, and no good ones say more on a side of any of them.
pub record AreStrongest (P : Program) (thread : Thread) (lines : List Line) (labels : List Sides) : Type 0 where
  pub good : IsGood P thread lines labels
  pub strongest : (others : List Sides) → IsGood P thread lines others → (k : ℕ) (z : Bool) → k ≤ length lines → Weaker (label_at others k z) (label_at labels k z)
