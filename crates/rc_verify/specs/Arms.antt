-- The arms of a peek, as they are opened and ended.
use Rattle.std.specs.Prelude.{ℕ, ◌≡◌, List, Bool, true, false, [], ◌∷◌, Option, Some, Result, Ok, Err}
use Rattle.rc_lang.specs.declared.lines.Stmt.TheVariants.{EndArm, Peek}
use Rattle.rc_rules.specs.declared.cause.Cause.{Cause}
use Rattle.rc_rules.specs.declared.flag.Write.TheVariants.{Anything}
use Rattle.rc_rules.specs.declared.mode.Peeked.TheVariants.{Unseen}
use Rattle.rc_rules.specs.Causes.{premise_number}
use Rattle.rc_rules.specs.Labels.{Label, Dead, IsStrongest}
use Rattle.rc_rules.specs.Premises.{Premise, Meets, FailsFirst}
use Rattle.rc_rules.specs.Rules.{joins_both, peek_at}
use Rattle.rc_rules.specs.Sides.{brings, turns, write_to}
use Rattle.rc_rules.specs.States.{State, AgreeOnLocks, Becomes, Gives, IsOfSame, asked_alike, label_of}
use Rattle.rc_verify.specs.declared.arms.Arms.{Arms}

-- No arm has ended, and what is known before them is this state.
pub record IsOpened (s : State) (a : Arms) : Type 0 where
  pub before : a.before ≡ s
  pub dead : (z : Bool) → label_of a.ends z ≡ Dead
  pub of : IsOfSame a.ends s
  pub agree : a.agree ≡ true

-- the premises of a peek, and of each of its arms
abbrev pub peek_asks : State → List (ℕ × Premise)
peek_asks s = asked_alike s [] (Peek 0)

-- Where a peek writes the flag, what is known on a side is what was known on both.
abbrev pub PeeksInto : ℕ → State → State → Type 0
PeeksInto x old new = Becomes old new (λ z. brings (λ y. turns (write_to old.flag x Anything) y z) (λ s. s) (label_of old))

-- What is known after the peek, before its arms, becomes the state; where the peek writes the flag, of both sides.
abbrev pub OpensPeek : {X : Type 0} → ℕ → State → State → Option Arms → Result X Cause → Type 0
OpensPeek x old new peek (Ok y) =
    Meets (peek_asks old) × PeeksInto x old new × ((a : Arms) × (peek ≡ Some a) × IsOpened new a)
OpensPeek x old new peek (Err cause) = FailsFirst (premise_number cause) (peek_asks old)

-- the labels of two states, those of one side beside each other
abbrev pub two : (Bool → Label) → (Bool → Label) → Bool → List Label
two s t z = s z ∷ t z ∷ []

-- The premises of the peek hold before the arms, and the state becomes what the arm is entered with.
abbrev pub EntersArm : {X : Type 0} → Arms → (Label → Label) → State → Result X Cause → Type 0
EntersArm a arm new result = Gives a.before new result (peek_asks a.before) (λ z. arm (label_of a.before z) ∷ [])

-- Unless a side is dead, the state and this end have the same locks.
abbrev pub AreAlike : State → (Bool → Label) → Type 0
AreAlike s end = (y z : Bool) → AgreeOnLocks (label_of s y) (end z)

-- the labels of an arm's end
abbrev pub arm_end : State → Bool → Label
arm_end s z = peek_at Unseen (label_of s z)

-- As long as the ends agree, this one is like them.
abbrev pub MayEnd : Arms → (Bool → Label) → Type 0
MayEnd a end = a.agree ≡ true → AreAlike a.ends end

-- The state and this end meet, or they don't agree on the slot or on what is got.
abbrev pub GivesMeet : {X : Type 0} → State → State → (Bool → Label) → Result X Cause → Type 0
GivesMeet old new end result = Gives old new result (joins_both (two (label_of old) end)) (two (label_of old) end)

-- This end and the ones before agree, and the new meet is that of both; or they don't, and nothing changes.
abbrev pub Joins : State → State → (Bool → Label) → Bool → Type 0
Joins old new end true = Meets (joins_both (two (label_of old) end)) × Becomes old new (two (label_of old) end)
Joins old new end false = FailsFirst 15 (joins_both (two (label_of old) end)) × (new ≡ old)

-- As long as the ends agree, the next one joins them.
abbrev pub JoinsOn : State → State → (Bool → Label) → Bool → Bool → Type 0
JoinsOn old new end agrees true = Joins old new end agrees
JoinsOn old new end agrees false = agrees ≡ false

abbrev pub JoinsEnd : Arms → Arms → (Bool → Label) → Type 0
JoinsEnd old new end = JoinsOn old.ends new.ends end new.agree old.agree

-- The premises of an arm's end hold, and nothing goes on to the line after it.
abbrev pub LeavesArm : {X : Type 0} → State → State → Result X Cause → Type 0
LeavesArm old new result = Gives old new result (asked_alike old [] (EndArm 0)) (λ z. [])

-- An arm has ended in a state; after it nothing is peeked.
pub record EndsArm (old new : Arms) (s : State) : Type 0 where
  pub before : new.before ≡ old.before
  pub end : Bool → Label
  pub forgets : (z : Bool) → IsStrongest (end z) (arm_end s z ∷ [])
  pub of : IsOfSame new.ends old.ends
  pub joins : JoinsEnd old new end

abbrev pub EndsArmIn : Arms → Option Arms → State → Type 0
EndsArmIn old peek s = (new : Arms) × (peek ≡ Some new) × EndsArm old new s

-- All arms have ended: where their ends agree, what is known after the peek is their meet.
abbrev pub ClosesPeek : {X : Type 0} → Arms → State → Result X Cause → Type 0
ClosesPeek a new (Ok x) = (a.agree ≡ true) × (new ≡ a.ends)
ClosesPeek a new (Err cause) = (a.agree ≡ false) × (premise_number cause ≡ 15)
