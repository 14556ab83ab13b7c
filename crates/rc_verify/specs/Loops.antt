-- What is kept of loops.
use Rattle.std.specs.Prelude.{ℕ, ◌≡◌, Bool, false, List, [], ◌∷◌, ◌++◌, Option, Some, Result, Ok, Err}
use Rattle.rc_lang.specs.declared.lines.Locks.{Locks}
use Rattle.rc_lang.specs.declared.lines.Stmt.{Stmt}
use Rattle.rc_lang.specs.declared.lines.Stmt.TheVariants.{Loop, EndLoop, Break}
use Rattle.rc_lang.specs.Program.{Items}
use Rattle.rc_rules.specs.declared.cause.Cause.{Cause}
use Rattle.rc_rules.specs.Causes.{premise_number}
use Rattle.rc_rules.specs.Labels.{Label, Dead, IsStrongest}
use Rattle.rc_rules.specs.Premises.{Premise, Meets, FailsFirst}
use Rattle.rc_rules.specs.Rules.{asked, broken, joins_both, top}
use Rattle.rc_rules.specs.Sides.{brings, forgets, turns}
use Rattle.rc_rules.specs.States.{State, Becomes, Gives, asked_alike, IsOfSame, OnBoth, label_of, program_of}
use Rattle.rc_verify.specs.Arms.{AreAlike, two}
use Rattle.rc_verify.specs.Stack.{OnLast, last_of, rest_of}

-- A dead state more is kept.
pub record KeepsDead (s : State) (old new : List (Option State)) : Type 0 where
  pub state : State
  pub kept : new ≡ old ++ Some state ∷ []
  pub dead : (z : Bool) → label_of state z ≡ Dead
  pub of : IsOfSame state s

-- There is a dead state, of the same program and thread as this one.
abbrev pub HoldsDead : State → Option State → Type 0
HoldsDead s room = (dead : State) × (room ≡ Some dead) × OnBoth (λ l. l ≡ Dead) dead × IsOfSame dead s

-- the premises of a loop's top or end, and those of a break
abbrev pub loop_asks : Stmt → Items → State → List (ℕ × Premise)
loop_asks stmt items s = asked (program_of s) (items ∷ []) (label_of s) stmt

abbrev pub break_asks : Locks → State → List (ℕ × Premise)
break_asks releases s = asked_alike s [] (Break 0 releases false)

-- The premises of the top hold, and what the loop keeps is known, of a flag that the loop may write on no side.
abbrev pub OpensLoop : {X : Type 0} → Items → State → State → Result X Cause → Type 0
OpensLoop items old new result =
    Gives old new result (loop_asks (Loop 0) items old)
    (λ z. brings (λ y. turns (forgets old.flag) y z) (λ s. top (program_of old) items z s) (label_of old))

-- The premises of the end hold, and the state that is kept last is the one after the loop.
abbrev pub ClosesLoop : {X : Type 0} → List (ℕ × Premise) → List (Option State) → List (Option State) → State → Result X Cause → Type 0
ClosesLoop premises old new s (Ok x) = Meets premises × (last_of old ≡ Some s) × (new ≡ rest_of old)
ClosesLoop premises old new s (Err cause) = FailsFirst (premise_number cause) premises

abbrev pub Closes : {X : Type 0} → Items → State → List (Option State) → List (Option State) → State → Result X Cause → Type 0
Closes items here old new s result = ClosesLoop (loop_asks (EndLoop 0 0) items here) old new s result

-- The slot is at one stage on each side of both, and all have the same locks.
pub record FitsWith (s end : State) : Type 0 where
  pub of : IsOfSame end s
  pub alike : AreAlike s (label_of end)
  pub agree : Meets (joins_both (two (label_of s) (label_of end)))

-- Instead of the state that was kept last the meet of it and of this end is kept.
pub record KeepsMeet (s : State) (end : Bool → Label) (old new : List (Option State)) : Type 0 where
  pub state : State
  pub kept : new ≡ rest_of old ++ Some state ∷ []
  pub meet : Becomes s state (two (label_of s) end)

-- what a break here takes to the end of its loop, on each side
abbrev pub taken : Locks → State → Bool → Label
taken releases here z = broken releases (label_of here z)

-- It agrees with the breaks before.
pub record MayBreak (s here : State) (releases : Locks) : Type 0 where
  pub of : IsOfSame here s
  pub alike : AreAlike s (taken releases here)
  pub agree : Meets (break_asks releases here) → Meets (joins_both (two (label_of s) (taken releases here)))

-- A break's end has joined.
pub record Breaks (s : State) (end : Bool → Label) (old new : List (Option State)) : Type 0 where
  pub carried : Bool → Label
  pub carries : (z : Bool) → IsStrongest (carried z) (end z ∷ [])
  pub keeps : KeepsMeet s carried old new

-- The premises of a break hold, and nothing goes on to the line after it.
abbrev pub LeavesLoop : {X : Type 0} → Locks → State → State → Result X Cause → Type 0
LeavesLoop releases old new result = Gives old new result (break_asks releases old) (λ z. [])

-- A break has joined the breaks before it, of the loop whose state is kept last.
abbrev pub JoinsLoop : Locks → State → List (Option State) → List (Option State) → Type 0
JoinsLoop releases here old new = OnLast old (λ s. Breaks s (taken releases here) old new)
