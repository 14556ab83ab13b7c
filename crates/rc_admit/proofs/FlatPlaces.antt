-- How each thread of an accepted program may stand, by a labelling that obeys the rules.
use Rattle.std.proofs.Common.{◌≡◌, ℕ, List, Option}
use Rattle.std.specs.Prelude.{ℤ}
use Rattle.rc_lang.specs.declared.lines.Block.{Block}
use Rattle.rc_lang.specs.declared.lines.Block.TheVariants.{InPeek, InLoop}
use Rattle.rc_lang.specs.declared.lines.Line.{Line}
use Rattle.rc_lang.specs.Nesting.{blocks_at, locks_in}
use Rattle.rc_lang.specs.Program.{Program, Thread, lines_of, lists_of}
use Rattle.rc_rules.specs.declared.mode.Mode.{Mode}
use Rattle.rc_rules.specs.Labels.{Live}
use Rattle.rc_rules.specs.Labellings.{IsGood, label_at}
use Rattle.rc_rules.specs.Sides.{Sides}
use Rattle.rc_rules.specs.Rules.{locks_of}
use Rattle.rc_split.specs.Bags.{Part}
use Rattle.rc_admit.proofs.Lists.{Each}
use Rattle.rc_admit.proofs.Owned.{Stand}
use Rattle.rc_admit.proofs.Sides.{IsStored, side_of}

-- ---- how a thread stands

-- With some variables, a label on their side that is live, with the locks in which its place is.
pub record Entered (flag : Option ℕ) (lines : List Line) (labels : List Sides) (o : ℕ) : Type 0 where
  pub variables : List ℤ
  pub bag : Part → ℕ
  pub mode : Mode
  pub label : label_at labels o (side_of flag variables) ≡ Live bag mode
  pub locked : locks_of mode ≡ locks_in (blocks_at lines o)

-- A loop and a peek were entered with a live label.
abbrev pub Enters : Option ℕ → List Line → List Sides → Block → Type 0
Enters flag lines labels (InPeek o) = Entered flag lines labels o
Enters flag lines labels (InLoop o k) = Entered flag lines labels o
Enters flag lines labels _ = Unit {0}

-- A thread is at a place with the label on the side of its flag, which is live, in blocks that were entered so.
pub record At (flag : Option ℕ) (lines : List Line) (labels : List Sides) (b : Part → ℕ) (m : Mode) (vars : List ℤ) (k : ℕ) : Type 0 where
  pub label : label_at labels k (side_of flag vars) ≡ Live b m
  pub stored : IsStored flag vars
  pub locked : locks_of m ≡ locks_in (blocks_at lines k)
  pub openers : Each (Enters flag lines labels) (blocks_at lines k)

-- with the labels of some labelling that obeys the rules
abbrev pub Labelled : Program → Stand
Labelled P i b m vars k = (thread : Thread) × (labels : List Sides) × (lists_of P i ≡ thread.lists) × IsGood P thread (lines_of P i) labels × At thread.flag (lines_of P i) labels b m vars k
