-- The branches of an if, as it is opened.
use Rattle.std.specs.Prelude.{◌≡◌, ◌<◌, List, Bool, true, false, [], ◌∷◌, ◌++◌, length, Option, Some, Result}
use Rattle.rc_lang.specs.declared.lines.Stmt.TheVariants.{If}
use Rattle.rc_lang.specs.declared.lines.Test.{Test}
use Rattle.rc_lang.specs.declared.lines.Test.TheVariants.{Take}
use Rattle.rc_lang.specs.Program.{Items, Program, items_at}
use Rattle.rc_lang.specs.Kept.{IsItems}
use Rattle.rc_rules.specs.declared.cause.Cause.{Cause}
use Rattle.rc_rules.specs.Rules.{goes, test_effect}
use Rattle.rc_rules.specs.Sides.{gate, test_goes}
use Rattle.rc_rules.specs.States.{State, Becomes, Gives, asked_alike, label_of, program_of}

-- What an if takes from a pool are items of the program, among these lists.
abbrev pub MayTest : Program → List Items → Test → Type 0
MayTest P lists (Take pool k) = (k < length lists) × IsItems P (items_at lists k)
MayTest P lists _ = Unit {0}

-- What goes to a branch of a test, as far as the test is of the flag: to the first, where it holds, or to the other.
abbrev pub TakesBranch : Test → Bool → State → State → Type 0
TakesBranch test first old new = Becomes old new (λ z. gate (test_goes old.flag test z first) (label_of old z) ∷ [])

-- The premises of the test hold, and its effect goes to the first branch; or the least that fails is named.
abbrev pub EntersIf : {X : Type 0} → List Items → Test → State → State → Result X Cause → Type 0
EntersIf lists test old new result =
    Gives old new result (asked_alike old [] (If test))
    (λ z. gate (test_goes old.flag test z true) (goes (label_of old z) (λ bag m. test_effect (program_of old) lists bag m test)) ∷ [])

-- Where the second branch begins, or what goes on after an if without one: the state before it, on each side on which
-- the test may fail.
pub record KeepsOther (test : Test) (s : State) (old new : List (Option State)) : Type 0 where
  pub state : State
  pub kept : new ≡ old ++ Some state ∷ []
  pub other : TakesBranch test false s state
