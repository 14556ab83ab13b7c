-- What is answered of files that are checked.
use Rattle.std.specs.Prelude.{ℕ, ◌≡◌, Bool, true, false, List, [], codes, ◌⊎◌, Option, Some, None, Result}
use Rattle.rc_report.specs.declared.verdict.Verdict.{Verdict}
use Rattle.rc_report.specs.Checks.{TellsVerdict}
use Rattle.rc_console.specs.declared.command.Command.{Command}
use Rattle.rc_console.specs.declared.command.Command.TheVariants.{Check, Explain}
use Rattle.rc_console.specs.declared.files.Unread.{Unread}
use Rattle.rc_console.specs.Answers.{SaysVerdict}
use Rattle.rc_console.specs.Files.{IsToldWhy, Said, SaysFile}
use Rattle.rc_command.specs.declared.checking.Telling.{Telling}
use Rattle.rc_command.specs.declared.checking.Telling.TheVariants.{Alone, Explained}
use Rattle.rc_explain.specs.Explains.{Explains}

-- how the verdicts on files are told, where they are checked
abbrev pub telling_of : Command → Option Telling
telling_of (Check json) = Some (Alone json)
telling_of (Explain form) = Some (Explained form)
telling_of command = None

abbrev pub memory_words : List ℕ
memory_words = codes "out of memory (20)"

-- the verdict on the model of this file, alone or with what explains it
abbrev pub TellsFile : List ℕ → Telling → List ℕ → Verdict → List ℕ → Type 0
TellsFile name (Alone json) bytes verdict text = TellsVerdict (Some name) bytes json verdict text
TellsFile name (Explained form) bytes verdict text = Explains bytes (Some name) form verdict text

-- `check` writes the verdict on each file; or memory ran out.
abbrev pub ChecksFile : (List ℕ → Result (List ℕ) Unread → Type 0) → Telling → List ℕ → Said → Type 0
ChecksFile gives telling name = SaysFile gives (λ bytes said. (SaysVerdict (TellsFile name telling bytes) said.status said.text × (said.told ≡ [])) ⊎ IsToldWhy name memory_words said) name
