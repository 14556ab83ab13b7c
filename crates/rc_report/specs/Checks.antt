-- What the engine that checks a model answers and writes.
use Rattle.std.specs.Prelude.{ℕ, ◌≡◌, Bool, List, Option, None, Result, Ok, Err}
use Rattle.rc_lang.specs.Program.{Program}
use Rattle.rc_read.specs.Answer.{answer_of}
use Rattle.rc_read.specs.Causes.{number_of_cause}
use Rattle.rc_rules.specs.Causes.{premise_number}
use Rattle.rc_rules.specs.Labellings.{Accepts, IsRefused}
use Rattle.rc_report.specs.declared.engine_fault.EngineFault.{EngineFault}
use Rattle.rc_report.specs.declared.verdict.Verdict.{Verdict}
use Rattle.rc_report.specs.declared.verdict.Verdict.TheVariants.{Accepted, Refused, Unreadable}
use Rattle.rc_report.specs.Streams.{Answers, Given, OfSource, Taken}
use Rattle.rc_report.specs.Files.{printed}

-- The rules say this of a program.
abbrev pub IsProgramVerdict : Program → Verdict → Type 0
IsProgramVerdict P Accepted = Accepts P
IsProgramVerdict P (Refused r) = IsRefused P r.line (premise_number r.cause)
IsProgramVerdict P (Unreadable line cause) = ⊥

-- A model can't be read at this line, for the cause with this number.
abbrev pub IsFaultVerdict : ℕ → ℕ → Verdict → Type 0
IsFaultVerdict line number Accepted = ⊥
IsFaultVerdict line number (Refused r) = ⊥
IsFaultVerdict line number (Unreadable l cause) = (l ≡ line) × (number_of_cause cause ≡ number)

-- The verdict is the one on what a model reads as.
abbrev pub IsVerdict : Result Program (ℕ × ℕ) → Verdict → Type 0
IsVerdict (Ok P) verdict = IsProgramVerdict P verdict
IsVerdict (Err (line, number)) verdict = IsFaultVerdict line number verdict

-- The program is admitted; or a verdict says why it isn't.
abbrev pub GivesVerdict : Result Program (ℕ × ℕ) → Result Program Verdict → Type 0
GivesVerdict answer (Ok admitted) = (answer ≡ Ok admitted) × Accepts admitted
GivesVerdict answer (Err Accepted) = ⊥
GivesVerdict answer (Err (Refused r)) = IsVerdict answer (Refused r)
GivesVerdict answer (Err (Unreadable line cause)) = IsVerdict answer (Unreadable line cause)

-- The verdict on the bytes, which are those of a file if one is named, and how it is printed.
abbrev pub TellsVerdict : Option (List ℕ) → List ℕ → Bool → Verdict → List ℕ → Type 0
TellsVerdict file bytes json verdict text = IsVerdict (answer_of bytes) verdict × (text ≡ printed file json verdict)

-- The verdict on the bytes of the source is answered and written.
abbrev pub ChecksAs : {S : Type 0} → Given → Bool → (S → Taken) → S → S → Result Verdict EngineFault → Type 0
ChecksAs source json state old new r = OfSource source state old new r (λ bytes. Answers (TellsVerdict None bytes json) state old new r)
