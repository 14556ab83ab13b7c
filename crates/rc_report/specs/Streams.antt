-- What reads and writes leave, and what a text that was written in pieces means.
use Rattle.std.specs.Prelude.{ℕ, ◌≡◌, ◌+◌, ◌<◌, ◌≤◌, ◌^◌, ◌==◌, if◌then◌else◌, List, ◌++◌, length, take, ◌⊎◌, Option, Some, None, Result, Ok, Err}
use Rattle.std.specs.Io.KnownBytes.{Appends, Consumes, IsAtEnd, Keeps}
use Rattle.std.specs.Global.{Vec}
use Rattle.rc_report.specs.declared.engine_fault.EngineFault.{EngineFault}
use Rattle.rc_report.specs.declared.engine_fault.EngineFault.TheVariants.{Read, Write, OutOfMemory}

-- A source: the bytes that it will give, where they are known; how many reads there were, how many of them gave nothing (at
-- the end of the input, or into an empty buffer), and how many failed.
pub record Given : Type 0 where
  pub remaining : Option (List ℕ)
  pub reads : ℕ
  pub ends : ℕ
  pub failures : ℕ

-- A sink: the bytes that it holds, where they are known, and how many writes failed.
pub record Taken : Type 0 where
  pub contents : Option (List ℕ)
  pub failures : ℕ

-- So many reads more can be counted, and a failure more.
abbrev pub CanRead : ℕ → Given → Type 0
CanRead n source = (source.reads + n < 2 ^ 64) × (source.failures + 1 < 2 ^ 64)

-- A failure more can be counted.
abbrev pub CanWrite : Taken → Type 0
CanWrite sink = sink.failures + 1 < 2 ^ 64

-- ---- one call

-- A read into a buffer. It gives nothing only at the end of the input or into an empty buffer.
abbrev pub Reads : {E : Type 0} → Given → Given → Result ℕ E → List ℕ → Type 0
Reads old new (Ok n) buffer =
    (n ≤ length buffer) × Consumes old.remaining new.remaining (take n buffer) × (n ≡ 0 → 0 < length buffer → IsAtEnd new.remaining)
    × (new.reads ≡ old.reads + 1) × (new.ends ≡ (if n == 0 then old.ends + 1 else old.ends)) × (new.failures ≡ old.failures)
Reads old new (Err e) buffer =
    Keeps old.remaining new.remaining × (new.reads ≡ old.reads + 1) × (new.ends ≡ old.ends) × (new.failures ≡ old.failures + 1)

-- Nothing more is held, and a call that failed counts.
abbrev pub Stays : {X E : Type 0} → Taken → Taken → Result X E → Type 0
Stays old new (Ok x) = Keeps old.contents new.contents × (new.failures ≡ old.failures)
Stays old new (Err e) = Keeps old.contents new.contents × (new.failures ≡ old.failures + 1)

-- A write of a piece takes some of its bytes, if it has any.
abbrev pub Takes : {E : Type 0} → Taken → Taken → Result ℕ E → List ℕ → Type 0
Takes old new (Ok n) piece =
    (n ≤ length piece) × (0 < length piece → 0 < n) × Appends old.contents new.contents (take n piece) × (new.failures ≡ old.failures)
Takes old new (Err e) piece = Keeps old.contents new.contents × (new.failures ≡ old.failures + 1)

-- ---- a text that is written

-- The whole text was written, and no write failed.
abbrev pub Wrote : Taken → Taken → List ℕ → Type 0
Wrote old new text = Appends old.contents new.contents text × (new.failures ≡ old.failures)

abbrev pub failed_writes : EngineFault → ℕ
failed_writes Read = 0
failed_writes Write = 1
failed_writes OutOfMemory = 0

-- A beginning of the text was written, before this fault.
pub record Began (old new : Taken) (text : List ℕ) (fault : EngineFault) : Type 0 where
  pub done : List ℕ
  pub rest : List ℕ
  pub cut : text ≡ done ++ rest
  pub written : Appends old.contents new.contents done
  pub failures : new.failures ≡ old.failures + failed_writes fault

-- The text was written whole; or a beginning of it, before one of these faults.
abbrev pub WritesOr : {X : Type 0} → (EngineFault → Type 0) → Taken → Taken → List ℕ → Result X EngineFault → Type 0
WritesOr faults old new text (Ok x) = Wrote old new text
WritesOr faults old new text (Err e) = faults e × Began old new text e

-- What only writes answers a write that failed, and no other fault.
abbrev pub Writes : {S X : Type 0} → (S → Taken) → S → S → List ℕ → Result X EngineFault → Type 0
Writes state old new text r = WritesOr (λ e. e ≡ Write) (state old) (state new) text r

-- The same where memory may run out too.
abbrev pub WritesOrGrows : {S X : Type 0} → (S → Taken) → S → S → List ℕ → Result X EngineFault → Type 0
WritesOrGrows state old new text r = WritesOr (λ e. ¬ (e ≡ Read)) (state old) (state new) text r

-- An answer is made in memory, and then such a text of it is written. Where memory ran out, nothing is.
abbrev pub Answers : {S X : Type 0} → (X → List ℕ → Type 0) → (S → Taken) → S → S → Result X EngineFault → Type 0
Answers says state old new (Ok x) = (text : List ℕ) × says x text × Wrote (state old) (state new) text
Answers says state old new (Err Read) = ⊥
Answers {X = X} says state old new (Err Write) = (x : X) × (text : List ℕ) × says x text × Began (state old) (state new) text Write
Answers says state old new (Err OutOfMemory) = state new ≡ state old

-- ---- a model that is read

-- The model is what the source gave, up to its end.
abbrev pub ReadsText : Given → Given → Result (Vec ℕ) EngineFault → Type 0
ReadsText old new (Ok text) = Consumes old.remaining new.remaining text.items × IsAtEnd new.remaining
ReadsText old new (Err e) = ¬ (e ≡ Write)

-- This holds of the bytes of a source; or of some bytes, where those aren't known.
abbrev pub OfBytes : Option (List ℕ) → (List ℕ → Type 0) → Type 0
OfBytes None holds = (bytes : List ℕ) × holds bytes
OfBytes (Some bytes) holds = holds bytes

-- Where the source failed nothing is written; else this holds of its bytes.
abbrev pub OfSource : {S X : Type 0} → Given → (S → Taken) → S → S → Result X EngineFault → (List ℕ → Type 0) → Type 0
OfSource source state old new (Ok x) holds = OfBytes source.remaining holds
OfSource source state old new (Err Read) holds = state new ≡ state old
OfSource source state old new (Err Write) holds = OfBytes source.remaining holds
OfSource source state old new (Err OutOfMemory) holds = OfBytes source.remaining holds

-- None of 2,097,152 reads failed or met the end: each gave a byte or more.
pub record IsWithoutEnd (old new : Given) : Type 0 where
  pub reads : new.reads ≡ old.reads + 2097152
  pub no_end : new.ends ≡ old.ends
  pub no_failure : new.failures ≡ old.failures
  pub bytes : List ℕ
  pub many : 2097152 ≤ length bytes
  pub given : Consumes old.remaining new.remaining bytes

-- The end of the input was met once, and no read failed.
abbrev pub MeetsEnd : Given → Given → Type 0
MeetsEnd old new = (new.failures ≡ old.failures) × (new.ends ≡ old.ends + 1) × (new.reads ≤ old.reads + 2097152)

-- A source's failure is answered, or that it has no end, and only these. There are never more reads than 2,097,152, and
-- none after the end of the input. Memory may run out before it or after it.
abbrev pub CountsReads : {X : Type 0} → Given → Given → Result X EngineFault → Type 0
CountsReads old new (Ok x) = MeetsEnd old new
CountsReads old new (Err Read) = ((new.failures ≡ old.failures + 1) × (new.ends ≡ old.ends) × (new.reads ≤ old.reads + 2097152)) ⊎ IsWithoutEnd old new
CountsReads old new (Err Write) = MeetsEnd old new
CountsReads old new (Err OutOfMemory) = (new.failures ≡ old.failures) × (new.ends ≤ old.ends + 1) × (new.reads ≤ old.reads + 2097152)
