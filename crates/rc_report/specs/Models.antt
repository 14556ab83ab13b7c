-- How much of a model its verdict depends on.
use Rattle.std.specs.Global.{Vec}
use Rattle.std.specs.Prelude.{ℕ, ◌≡◌, ◌⊎◌, Bool, true, false, List, [], ◌++◌, take, Result, Ok, Err}
use Rattle.std.specs.Io.KnownBytes.{Consumes, IsAtEnd}
use Rattle.rc_read.specs.Answer.{answer_of}
use Rattle.rc_read.specs.Sentences.{any_strange}
use Rattle.rc_read.specs.declared.fault.ReadFault.{ReadFault}
use Rattle.rc_read.specs.declared.fault.ReadFault.TheVariants.{Text, OutOfMemory as Memory}
use Rattle.rc_report.specs.declared.engine_fault.EngineFault.{EngineFault}
use Rattle.rc_report.specs.declared.engine_fault.EngineFault.TheVariants.{Write}
use Rattle.rc_report.specs.Streams.{Given}

-- What follows the model doesn't change its answer.
abbrev pub IsSettled : List ℕ → Type 0
IsSettled text = (more : List ℕ) → answer_of (text ++ more) ≡ answer_of text

-- All bytes are kept, or those up to where the answer is settled.
abbrev pub KeepsEnough : List ℕ → List ℕ → Type 0
KeepsEnough kept rest = (rest ≡ []) ⊎ IsSettled kept

-- This much is kept where a piece follows: nothing if the answer was settled. It is said whether it is settled now.
abbrev pub KeepsPiece : Bool → List ℕ → List ℕ → List ℕ → Bool → Type 0
KeepsPiece true old piece new settled = (new ≡ old) × (settled ≡ true)
KeepsPiece false old piece new settled = (new ≡ old ++ piece) × (settled ≡ true → IsSettled new)

-- A line that a line feed has ended can't be read, or the pending line has a strange byte among its first.
abbrev pub IsFault : Result (Unit {0}) ReadFault → List ℕ → Type 0
IsFault (Ok u) pending = any_strange (take 256 pending) ≡ true
IsFault (Err (Text line cause)) pending = Unit {0}
IsFault (Err Memory) pending = ⊥

-- The model is what the source gave, up to its end, or enough of it.
abbrev pub ReadsModel : Given → Given → Result (Vec ℕ) EngineFault → Type 0
ReadsModel old new (Ok text) =
    (rest : List ℕ) × Consumes old.remaining new.remaining (text.items ++ rest) × IsAtEnd new.remaining × KeepsEnough text.items rest
ReadsModel old new (Err e) = ¬ (e ≡ Write)
