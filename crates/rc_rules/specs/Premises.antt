-- Premises with their numbers.
use Rattle.std.specs.Prelude.{ℕ, ◌≡◌, ◌+◌, ◌<◌, ◌≤◌, Bool, true, List, [], ◌∷◌, Result, Ok, Err}
use Rattle.rc_rules.specs.declared.cause.Cause.{Cause}
use Rattle.rc_rules.specs.Causes.{premise_number}
use Rattle.rc_split.specs.Bags.{Part, IsWithin}

pub data Premise : Type 0 where
  Is : Bool → Premise
  Covers : (large small : Part → ℕ) → Premise

abbrev pub IsMet : Premise → Type 0
IsMet (Is b) = b ≡ true
IsMet (Covers large small) = IsWithin small large

abbrev pub Meets : List (ℕ × Premise) → Type 0
Meets [] = Unit {0}
Meets (p ∷ ps) = IsMet p.1 × Meets ps

-- the premises with numbers below n
abbrev pub MeetsBelow : ℕ → List (ℕ × Premise) → Type 0
MeetsBelow n [] = Unit {0}
MeetsBelow n (p ∷ ps) = (p.0 < n → IsMet p.1) × MeetsBelow n ps

-- The least number of a premise that fails is n.
pub record FailsFirst (n : ℕ) (ps : List (ℕ × Premise)) : Type 0 where
  pub below : MeetsBelow n ps
  pub fails : MeetsBelow (n + 1) ps → ⊥

-- No number is below n.
abbrev pub IsFrom : ℕ → List (ℕ × Premise) → Type 0
IsFrom n [] = Unit {0}
IsFrom n (p ∷ ps) = (n ≤ p.0) × IsFrom n ps

-- Ok: the premises hold. A cause: the least that fails.
abbrev pub Tests : {X : Type 0} → Result X Cause → List (ℕ × Premise) → Type 0
Tests (Ok x) ps = Meets ps
Tests (Err cause) ps = FailsFirst (premise_number cause) ps
