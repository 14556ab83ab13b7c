-- The numbers and the names of causes, as they are printed.
use Rattle.std.specs.Prelude.{ℕ, ◌-◌, List, [], ◌∷◌, ◌++◌, codes, slice_index_or}
use Rattle.std.specs.Fmt.{decimal}
use Rattle.rc_read.specs.declared.fault.ReadCause.{ReadCause}
use Rattle.rc_read.specs.declared.fault.ReadCause.TheVariants.{NotAscii, BadHead, BadLine, BadNumber, UnknownName, DoubleName, Braces, TooLarge, BadNesting, BadCase, OtherFlag}

abbrev pub number_of_cause : ReadCause → ℕ
number_of_cause NotAscii = 1
number_of_cause BadHead = 2
number_of_cause BadLine = 3
number_of_cause BadNumber = 4
number_of_cause UnknownName = 5
number_of_cause DoubleName = 6
number_of_cause Braces = 7
number_of_cause TooLarge = 8
number_of_cause BadNesting = 9
number_of_cause BadCase = 10
number_of_cause OtherFlag = 11

-- the names, in the order of the numbers
abbrev pub cause_names : List (List ℕ)
cause_names =
    codes "NotAscii" ∷ codes "BadHead" ∷ codes "BadLine" ∷ codes "BadNumber" ∷ codes "UnknownName" ∷ codes "DoubleName" ∷ codes "Braces"
    ∷ codes "TooLarge" ∷ codes "BadNesting" ∷ codes "BadCase" ∷ codes "OtherFlag" ∷ []

-- the name of the cause with this number
abbrev pub name_numbered : ℕ → List ℕ
name_numbered number = slice_index_or cause_names (number - 1) []

abbrev pub name_of_cause : ReadCause → List ℕ
name_of_cause cause = name_numbered (number_of_cause cause)

-- the message of a cause, as `P4 BadNumber`
abbrev pub text_of_cause : ReadCause → List ℕ
text_of_cause cause = codes "P" ++ decimal (number_of_cause cause) ++ codes " " ++ name_of_cause cause
