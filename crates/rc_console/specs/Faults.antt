-- Why the program has no answer, in words.
use Rattle.std.specs.Prelude.{ℕ, List, ◌++◌, codes, string_bytes, Bool, true, false}
use Rattle.rc_report.specs.declared.engine_fault.EngineFault.{EngineFault}
use Rattle.rc_report.specs.declared.engine_fault.EngineFault.TheVariants as engine
use Rattle.rc_console.specs.declared.fault.CommandFault.{CommandFault}
use Rattle.rc_console.specs.declared.fault.CommandFault.TheVariants.{Words, Engine, NoEnd, OtherProgram}
use Rattle.rc_console.specs.declared.words.WordsFault.{WordsFault}
use Rattle.rc_console.specs.declared.words.WordsFault.TheVariants as words

abbrev pub why_of_words : WordsFault → List ℕ
why_of_words (words.Wrong why) = string_bytes why
why_of_words words.OutOfMemory = codes "out of memory (20)"

abbrev pub why_of_engine : EngineFault → List ℕ
why_of_engine engine.Read = codes "the input can't be read"
why_of_engine engine.Write = codes "the output can't be written"
why_of_engine engine.OutOfMemory = codes "out of memory (20)"

abbrev pub why_of : CommandFault → List ℕ
why_of (Words fault) = why_of_words fault
why_of (Engine fault) = why_of_engine fault
why_of NoEnd = codes "the input has no end"
why_of OtherProgram = codes "other program (31)"

-- Nobody reads the output any more, which is closed.
abbrev pub is_hung_up : Bool → CommandFault → Bool
is_hung_up true (Engine engine.Write) = true
is_hung_up closed fault = false

-- the line of standard error that says so
abbrev pub reason_line : CommandFault → List ℕ
reason_line fault = codes "ringcheck: " ++ (why_of fault ++ codes "\n")
