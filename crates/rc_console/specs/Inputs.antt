-- How much of a model is read, and why one isn't.
use Rattle.std.specs.Global.{Vec}
use Rattle.std.specs.Prelude.{ℕ, ◌≡◌, ◌+◌, ◌≤◌, List, ◌++◌, Result, Ok, Err}
use Rattle.std.specs.Io.KnownBytes.{Consumes, IsAtEnd}
use Rattle.rc_report.specs.declared.engine_fault.EngineFault.{EngineFault}
use Rattle.rc_report.specs.declared.engine_fault.EngineFault.TheVariants.{Read, Write, OutOfMemory}
use Rattle.rc_report.specs.Models.{KeepsEnough}
use Rattle.rc_report.specs.Streams.{CountsReads, Given, IsWithoutEnd, MeetsEnd}
use Rattle.rc_console.specs.declared.fault.CommandFault.{CommandFault}
use Rattle.rc_console.specs.declared.fault.CommandFault.TheVariants.{Words, Engine, NoEnd, OtherProgram}
use Rattle.rc_console.specs.declared.files.Unread.{Unread}
use Rattle.rc_console.specs.declared.inputs.Extent.{Extent}
use Rattle.rc_console.specs.declared.inputs.Extent.TheVariants.{Whole, Enough}

-- These are all the bytes, or of a model as many as its answer depends on.
abbrev pub Suffices : Extent → List ℕ → List ℕ → Type 0
Suffices Whole kept bytes = bytes ≡ kept
Suffices Enough kept bytes = (rest : List ℕ) × (bytes ≡ kept ++ rest) × KeepsEnough kept rest

-- The source gave some bytes up to its end, and enough of them is kept.
abbrev pub ReadsNeeded : Extent → Given → Given → Vec ℕ → Type 0
ReadsNeeded extent old new text =
    (bytes : List ℕ) × Consumes old.remaining new.remaining bytes × IsAtEnd new.remaining × Suffices extent text.items bytes

-- The same of what reading a file may give.
abbrev pub GivesNeeded : (Result (List ℕ) Unread → Type 0) → Extent → Result (List ℕ) Unread → Type 0
GivesNeeded gives extent (Ok kept) = (bytes : List ℕ) × gives (Ok bytes) × Suffices extent kept bytes
GivesNeeded gives extent (Err unread) = gives (Err unread)

-- why an input of which no read failed isn't read
abbrev pub unended : EngineFault → CommandFault
unended Read = NoEnd
unended Write = Engine Write
unended OutOfMemory = Engine OutOfMemory

abbrev pub IsOfInput : CommandFault → Type 0
IsOfInput (Words e) = ⊥
IsOfInput (Engine Read) = Unit {0}
IsOfInput (Engine Write) = ⊥
IsOfInput (Engine OutOfMemory) = Unit {0}
IsOfInput NoEnd = Unit {0}
IsOfInput OtherProgram = ⊥

-- A failure of the source is answered, or that it has no end, and only these; nothing is read after the end.
abbrev pub ReadsOnce : {X : Type 0} → Given → Given → Result X CommandFault → Type 0
ReadsOnce old new (Ok x) = MeetsEnd old new
ReadsOnce old new (Err (Words e)) = ⊥
ReadsOnce old new (Err (Engine Read)) = (new.failures ≡ old.failures + 1) × (new.ends ≡ old.ends) × (new.reads ≤ old.reads + 2097152)
ReadsOnce old new (Err (Engine Write)) = MeetsEnd old new
ReadsOnce old new (Err (Engine OutOfMemory)) = CountsReads {X = ℕ} old new (Err OutOfMemory)
ReadsOnce old new (Err NoEnd) = IsWithoutEnd old new
ReadsOnce old new (Err OtherProgram) = MeetsEnd old new
