-- What becomes of a reader's parts by a piece of the model.
use Rattle.std.specs.Prelude.{◌++◌, List, ℕ, Option, Some, None, Result, Ok, Err}
use Rattle.rc_read.specs.Sheets.{Sheet}
use Rattle.rc_read.specs.Stream.{Reads, IsReachedOrFaulty}
use Rattle.rc_read.specs.declared.fault.ReadFault.{ReadFault}
use Rattle.rc_read.specs.declared.parts.Unread.{Unread}

abbrev pub fault_in : {X : Type 0} → Result X ReadFault → Option ReadFault
fault_in (Ok u) = None
fault_in (Err fault) = Some fault

-- Where bytes were read without a fault, these are read after them.
abbrev pub ReadsMore : {X : Type 0} → Sheet → List ℕ → List ℕ → Sheet → List ℕ → Result X ReadFault → Type 0
ReadsMore old pending more new left r = (bytes : List ℕ) → Reads None old pending bytes → Reads (fault_in r) new left (bytes ++ more)

-- The sheet is reached by some lines, unless there is a fault.
abbrev pub IsSoundBy : {X : Type 0} → Result X ReadFault → Sheet → Type 0
IsSoundBy r s = IsReachedOrFaulty (fault_in r) s

-- An answer without what was read, and its fault.
abbrev pub without_parts : {X : Type 0} → Result X Unread → Result X ReadFault
without_parts (Ok u) = Ok u
without_parts (Err unread) = Err unread.fault

abbrev pub fault_of : {X : Type 0} → Result X Unread → Option ReadFault
fault_of r = fault_in (without_parts r)
