-- What holds of the rules alone.
use Rattle.std.specs.Prelude.{ℕ, Bool, List, [], ◌∷◌}
use Rattle.rc_lang.specs.declared.lines.Line.{Line}
use Rattle.rc_lang.specs.declared.lines.Stmt.{Stmt}
use Rattle.rc_lang.specs.Program.{Program, Thread}
use Rattle.rc_rules.specs.Labels.{Label, Weaker}
use Rattle.rc_rules.specs.Sides.{Sides}
use Rattle.rc_rules.specs.Premises.{Meets, MeetsBelow}
use Rattle.rc_rules.specs.Labellings.{label_at, befores, premises}

abbrev pub IsReflexive : Type 0
IsReflexive = (s : Label) → Weaker s s

abbrev pub IsTransitive : Type 0
IsTransitive = (s t u : Label) → Weaker s t → Weaker t u → Weaker s u

-- Each label is weaker than the one that is there in the second list.
abbrev pub EachWeaker : List Label → List Label → Type 0
EachWeaker [] [] = Unit {0}
EachWeaker [] (t ∷ ts) = ⊥
EachWeaker (s ∷ ss) [] = ⊥
EachWeaker (s ∷ ss) (t ∷ ts) = Weaker s t × EachWeaker ss ts

-- The second labelling says at least as much at each side of each place.
abbrev pub IsStronger : List Sides → List Sides → Type 0
IsStronger known more = (k : ℕ) (z : Bool) → Weaker (label_at known k z) (label_at more k z)

-- Where the labels so far say more, a line asks for less, up to each number, and gives labels that say more.
pub record GrowsAt (P : Program) (thread : Thread) (lines : List Line) (known more : List Sides) (stmt : Stmt) : Type 0 where
  pub asks_less : (v : ℕ) → MeetsBelow v (premises P thread lines known stmt) → MeetsBelow v (premises P thread lines more stmt)
  pub meets_too : Meets (premises P thread lines known stmt) → Meets (premises P thread lines more stmt)
  pub gives_more : Meets (premises P thread lines known stmt) → (z : Bool) → EachWeaker (befores P thread lines known stmt z) (befores P thread lines more stmt z)

abbrev pub RulesGrow : Type 0
RulesGrow = (P : Program) (thread : Thread) (lines : List Line) (known more : List Sides) (stmt : Stmt) → IsStronger known more → GrowsAt P thread lines known more stmt
