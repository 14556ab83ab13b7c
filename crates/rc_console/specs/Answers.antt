-- What a command leaves that answers a status and writes a text.
use Rattle.std.specs.Prelude.{ℕ, ◌≡◌, ◌+◌, List, Result, Ok, Err}
use Rattle.rc_report.specs.declared.engine_fault.EngineFault.TheVariants.{Read, Write, OutOfMemory}
use Rattle.rc_report.specs.declared.verdict.Verdict.{Verdict}
use Rattle.rc_report.specs.Statuses.{status_of_verdict}
use Rattle.rc_report.specs.Streams.{Taken, Wrote}
use Rattle.rc_console.specs.declared.fault.CommandFault.{CommandFault}
use Rattle.rc_console.specs.declared.fault.CommandFault.TheVariants.{Words, Engine, NoEnd, OtherProgram}

-- The status is that of a verdict, and what is written tells it.
abbrev pub SaysVerdict : (Verdict → List ℕ → Type 0) → ℕ → List ℕ → Type 0
SaysVerdict told status text = (verdict : Verdict) × told verdict text × (status ≡ status_of_verdict verdict)

-- Where there is no status, a failed write is answered, which counts, and only that.
abbrev pub Fails : Taken → Taken → CommandFault → Type 0
Fails old new (Words e) = ⊥
Fails old new (Engine Read) = ⊥
Fails old new (Engine Write) = new.failures ≡ old.failures + 1
Fails old new (Engine OutOfMemory) = new.failures ≡ old.failures
Fails old new NoEnd = ⊥
Fails old new OtherProgram = new.failures ≡ old.failures

-- Such a status is answered, and such a text is written whole.
abbrev pub Does : {S : Type 0} → (ℕ → List ℕ → Type 0) → (S → Taken) → S → S → Result ℕ CommandFault → Type 0
Does says state old new (Ok status) = (text : List ℕ) × says status text × Wrote (state old) (state new) text
Does says state old new (Err e) = Fails (state old) (state new) e
