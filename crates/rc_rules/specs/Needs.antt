-- Needs: when one is met, and how the code keeps them.
use Rattle.std.specs.Prelude.{ℕ, ◌≤◌, Bool, true, List, [], ◌∷◌, Option, Some, None, Result}
use Rattle.rc_lang.specs.declared.lines.Stmt.{Stmt}
use Rattle.rc_lang.specs.Program.{Program, Items}
use Rattle.rc_split.specs.Bags.{Part}
use Rattle.rc_split.specs.Holdings.{Holding, bag}
use Rattle.rc_rules.specs.declared.cause.Cause.{Cause}
use Rattle.rc_rules.specs.declared.mode.Mode.{Mode}
use Rattle.rc_rules.specs.declared.needs.Asks.{Asks}
use Rattle.rc_rules.specs.Causes.{premise_number}
use Rattle.rc_rules.specs.Labels.{Label, Dead, Live}
use Rattle.rc_rules.specs.Premises.{Premise, IsMet, Tests}
use Rattle.rc_rules.specs.Rules.{meant, meant_besides, premises_of, stmt_needs}

-- A need is met: each premise that it stands for is.
abbrev pub IsMetNeed : Program → List Items → Bool → (Part → ℕ) → Mode → Asks → Type 0
IsMetNeed P lists z bag m a = IsMet (meant_besides P lists m a) × IsMet (meant P lists z bag m a)

-- A holding has what a need asks for.
abbrev pub IsMetBy : Holding → List Items → Bool → Mode → Asks → Type 0
IsMetBy h lists z m a = IsMetNeed h.program lists z (bag h) m a

-- On a side that nothing reaches each need is met.
abbrev pub IsMetOn : Program → List Items → Bool → Label → Asks → Type 0
IsMetOn P lists z Dead a = Unit {0}
IsMetOn P lists z (Live bag m) a = IsMetNeed P lists z bag m a

-- needs up to the first place without one
abbrev pub listed : List (Option (Cause × Asks)) → List (Cause × Asks)
listed [] = []
listed (None ∷ rest) = []
listed (Some need ∷ rest) = need ∷ listed rest

-- The numbers of the causes are this one at least, and none is below the one before it.
abbrev pub AreOrdered : ℕ → List (Cause × Asks) → Type 0
AreOrdered v [] = Unit {0}
AreOrdered v (need ∷ rest) = (v ≤ premise_number need.0) × AreOrdered (premise_number need.0) rest

-- Ok: the needs are met. A cause: the first whose need isn't.
abbrev pub Checks : {X : Type 0} → Holding → List Items → Bool → Mode → List (Cause × Asks) → Result X Cause → Type 0
Checks h lists z m needs result = Tests result (premises_of h.program lists z (bag h) m needs)

-- The premises of a line that needs the same on both sides.
abbrev pub line_premises : Program → List Items → (Part → ℕ) → Mode → Stmt → List (ℕ × Premise)
line_premises P lists bag m stmt = premises_of P lists true bag m (stmt_needs stmt)
