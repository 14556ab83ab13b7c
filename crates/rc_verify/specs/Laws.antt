-- What holds of labellings, and of what is accepted and refused.
use Rattle.std.specs.Prelude.{ℕ, ◌≡◌, ◌+◌, ◌↔◌, List, Some, take, slice_get}
use Rattle.rc_lang.specs.declared.lines.Line.{Line}
use Rattle.rc_lang.specs.Program.{Program, Thread}
use Rattle.rc_rules.specs.Labellings.{HasLabels, Accepts, IsRefused, IsRefusedAt, premises}
use Rattle.rc_rules.specs.Premises.{FailsFirst}
use Rattle.rc_rules.specs.Sides.{Sides}
use Rattle.rc_verify.specs.Strongest.{AreStrongest}

-- Where some labels are good, there are strongest ones.
abbrev pub OneIsStrongest : Type 0
OneIsStrongest = (P : Program) (thread : Thread) (lines : List Line) → HasLabels P thread lines → (labels : List Sides) × AreStrongest P thread lines labels

-- The premise for which a line is refused is the least that fails at the strongest labels before it.
abbrev pub RefusalsAreReadOff : Type 0
RefusalsAreReadOff = (P : Program) (thread : Thread) (j : ℕ) (line : Line) (labels : List Sides) (v : ℕ) → slice_get thread.lines j ≡ Some line → AreStrongest P thread (take j thread.lines) labels → IsRefusedAt P thread j line v ↔ FailsFirst v (premises P thread (take j thread.lines) (take (j + 1) labels) line.stmt)

-- No program is accepted and refused.
abbrev pub NeverBoth : Type 0
NeverBoth = (P : Program) (number v : ℕ) → Accepts P → IsRefused P number v → ⊥

-- A program is refused at one line and for one premise at most.
abbrev pub OneRefusal : Type 0
OneRefusal = (P : Program) (m n v w : ℕ) → IsRefused P m v → IsRefused P n w → (m ≡ n) × (v ≡ w)
