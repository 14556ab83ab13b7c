-- What is answered of a program, and of a text.
use Rattle.std.specs.Prelude.{◌≡◌, ℕ, List, Result, Ok, Err}
use Rattle.rc_lang.specs.Program.{Program}
use Rattle.rc_read.specs.Answer.{answer_of}
use Rattle.rc_read.specs.Causes.{number_of_cause}
use Rattle.rc_read.specs.declared.fault.ReadFault.TheVariants as reading
use Rattle.rc_rules.specs.Causes.{premise_number}
use Rattle.rc_rules.specs.Labellings.{Accepts, IsRefused}
use Rattle.rc_world.specs.Runs.{IsSafe}
use Rattle.rc_admit.specs.declared.fault.AdmitFault.{AdmitFault}
use Rattle.rc_admit.specs.declared.fault.AdmitFault.TheVariants.{Read, Refused, OutOfMemory}

-- A program that the rules accept is admitted, and it is safe. Each other one is refused, at a line and for a premise.
abbrev pub AdmitsProgram : Program → Result Program AdmitFault → Type 0
AdmitsProgram P (Ok admitted) = (admitted ≡ P) × Accepts P × IsSafe P
AdmitsProgram P (Err (Read fault)) = ⊥
AdmitsProgram P (Err (Refused r)) = IsRefused P r.line (premise_number r.cause)
AdmitsProgram P (Err OutOfMemory) = ⊥

-- A text is admitted as its program is, unless memory ran out. One that is no program is answered with its first fault.
abbrev pub Admits : List ℕ → Result Program AdmitFault → Type 0
Admits text (Ok admitted) = (answer_of text ≡ Ok admitted) × Accepts admitted × IsSafe admitted
Admits text (Err (Read (reading.Text line cause))) = answer_of text ≡ Err (line, number_of_cause cause)
Admits text (Err (Read reading.OutOfMemory)) = ⊥
Admits text (Err (Refused r)) = (P : Program) × (answer_of text ≡ Ok P) × IsRefused P r.line (premise_number r.cause)
Admits text (Err OutOfMemory) = Unit {0}
