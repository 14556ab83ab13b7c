-- Verdicts on the models of files: where something is comes first, as compilers print it.
use Rattle.std.specs.Prelude.{ℕ, Bool, true, false, List, [], ◌∷◌, ◌++◌, codes, decimal, Option, Some, None}
use Rattle.serde_json.specs.Written.{compact_text}
use Rattle.rc_report.specs.declared.verdict.Verdict.{Verdict}
use Rattle.rc_report.specs.Printed.{joined}
use Rattle.rc_report.specs.Shown.{shown}
use Rattle.rc_report.specs.Verdicts.{Finding, cause_text, finding, finding_object, verdict_text}

-- what comes after the file's name
abbrev pub text_after_file : Option Finding → List ℕ
text_after_file None = codes ": accepted\n"
text_after_file (Some f) = joined (codes ":" ∷ decimal f.line ∷ codes ": " ∷ f.word ∷ codes " " ∷ cause_text f ∷ [])

-- The name is shown, and not written as it is.
abbrev pub file_text : List ℕ → Verdict → List ℕ
file_text file verdict = shown file ++ text_after_file (finding verdict)

-- the text of an object and a line feed; of a file as it is shown: `\u` and four hex digits stand for the same character
-- in JSON
abbrev pub object_line : Option (List ℕ) → List ℕ → List ℕ
object_line None object = object ++ codes "\n"
object_line (Some file) object = shown object ++ codes "\n"

-- A verdict as it is printed: with the name of a file or without, as JSON or as text.
abbrev pub printed : Option (List ℕ) → Bool → Verdict → List ℕ
printed file true verdict = object_line file (compact_text (finding_object file (finding verdict)))
printed None false verdict = verdict_text verdict
printed (Some file) false verdict = file_text file verdict
