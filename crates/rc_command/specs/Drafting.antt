-- What is answered of logs from which a model is drafted. Of the text and the notes nothing is said: what is said is said of
-- the text that is printed.
use Rattle.std.specs.Global.{Vec}
use Rattle.std.specs.Borrow.{Bor}
use Rattle.std.specs.List.{filter, flat_map}
use Rattle.std.specs.Str.Lossy.{utf8_lossy}
use Rattle.std.specs.Prelude.{ℕ, ◌≡◌, ◌⊎◌, ◌++◌, All, max, map, length, codes, decimal, string_bytes, Bool, true, false, List, [], ◌∷◌, Option, Some, None, Result, Ok, Err}
use Rattle.serde_json.specs.Data.{Data, array, member, no_members, object, string}
use Rattle.serde_json.specs.View.{items_of}
use Rattle.serde_json.specs.Written.{compact_text}
use Rattle.rc_lang.specs.Program.{Program}
use Rattle.rc_read.specs.Answer.{answer_of}
use Rattle.rc_report.specs.declared.verdict.Verdict.{Verdict}
use Rattle.rc_report.specs.declared.verdict.Verdict.TheVariants.{Accepted}
use Rattle.rc_report.specs.Checks.{GivesVerdict}
use Rattle.rc_report.specs.Printed.{joined}
use Rattle.rc_report.specs.Shown.{shown}
use Rattle.rc_report.specs.Statuses.{status_of_verdict}
use Rattle.rc_report.specs.Verdicts.{finding, finding_object}
use Rattle.rc_explain.specs.Explains.{Explains}
use Rattle.rc_console.specs.declared.command.Drafting.{Drafting}
use Rattle.rc_console.specs.declared.command.Form.TheVariants.{Words}
use Rattle.rc_console.specs.declared.files.Unread.{Unread}
use Rattle.rc_console.specs.Files.{Said, greatest, line_told}
use Rattle.rc_command.specs.declared.departures.ending.Ending.{Ending}
use Rattle.rc_command.specs.declared.departures.ending.Ending.TheVariants.{Followed, Stuck, Departs}
use Rattle.rc_command.specs.declared.drafting.outcome.LogEnd.{LogEnd}
use Rattle.rc_command.specs.declared.drafting.outcome.Outcome.{Outcome}
use Rattle.rc_command.specs.declared.drafting.outcome.Outcome.TheVariants as outcome
use Rattle.rc_command.specs.declared.drafting.outcome.RecordedLog.{RecordedLog}
use Rattle.rc_command.specs.Endings.{ending_object, ending_text, status_of}
use Rattle.rc_command.specs.Logs.{Ends, IsOther}

-- ---- one log

abbrev pub status_of_outcome : Outcome → ℕ
status_of_outcome outcome.Read = 0
status_of_outcome (outcome.Ended ending) = status_of ending
status_of_outcome (outcome.Unread why) = 3

abbrev pub is_read : Outcome → Bool
is_read outcome.Read = true
is_read o = false

abbrev pub is_followed : Outcome → Bool
is_followed (outcome.Ended (Followed calls)) = true
is_followed (outcome.Ended (Stuck calls waits)) = true
is_followed o = false

-- It is held to no program: it isn't said that it is followed.
abbrev pub IsUntried : Outcome → Type 0
IsUntried outcome.Read = Unit {0}
IsUntried (outcome.Ended ending) = IsOther ending
IsUntried (outcome.Unread why) = Unit {0}

-- It wasn't even read.
abbrev pub IsUnrecorded : Outcome → Type 0
IsUnrecorded o = IsUntried o × (is_read o ≡ false)

-- It is held to the program: if it is said to be followed, then its bytes are, as it was opened.
abbrev pub IsTried : (List ℕ → Result (Option (List ℕ)) Unread → Type 0) → Program → List ℕ → Outcome → Type 0
IsTried opens program name outcome.Read = ⊥
IsTried opens program name (outcome.Ended ending) =
    IsOther ending ⊎ ((bytes : Option (List ℕ)) × opens name (Ok bytes) × Ends program bytes ending)
IsTried opens program name (outcome.Unread why) = Unit {0}

-- ---- all logs, in the order in which they are named

-- how the recording of one ended, unless it was then held to a program
abbrev pub held_or : Option Outcome → Outcome → Outcome
held_or None recorded = recorded
held_or (Some held) recorded = held

abbrev pub outcome_of : LogEnd → Outcome
outcome_of end = held_or end.held end.log.now.outcome

abbrev pub texts_of : List (Bor (List ℕ)) → List (List ℕ)
texts_of names = map (λ (name : Bor (List ℕ)). name.now) names

abbrev pub recorded_names : List RecordedLog → List (List ℕ)
recorded_names logs = map (λ (log : RecordedLog). log.name.now) logs

abbrev pub end_names : List LogEnd → List (List ℕ)
end_names ends = map (λ (end : LogEnd). end.log.now.name.now) ends

abbrev pub AreRecorded : List (List ℕ) → List RecordedLog → Type 0
AreRecorded names logs = (recorded_names logs ≡ names) × All (λ (log : RecordedLog). IsUntried log.outcome) logs

abbrev pub AreEnds : (List ℕ → Outcome → Type 0) → List (List ℕ) → List LogEnd → Type 0
AreEnds is names ends = (end_names ends ≡ names) × All (λ (end : LogEnd). is end.log.now.name.now (outcome_of end)) ends

-- The ends are those of the recording.
abbrev pub AreUntried : List RecordedLog → List LogEnd → Type 0
AreUntried logs ends =
    (end_names ends ≡ recorded_names logs) × (map outcome_of ends ≡ map (λ (log : RecordedLog). log.outcome) logs)

-- One more was recorded, or has ended so.
abbrev pub MoreRecorded : List ℕ → List RecordedLog → List RecordedLog → Type 0
MoreRecorded name old new = (log : RecordedLog) × (new ≡ old ++ log ∷ []) × (log.name.now ≡ name) × IsUntried log.outcome

abbrev pub MoreEnds : (List ℕ → Outcome → Type 0) → List ℕ → List LogEnd → List LogEnd → Type 0
MoreEnds is name old new = (end : LogEnd) × (new ≡ old ++ end ∷ []) × (end.log.now.name.now ≡ name) × is name (outcome_of end)

abbrev pub statuses : List LogEnd → ℕ
statuses ends = greatest (map (λ (end : LogEnd). status_of_outcome (outcome_of end)) ends)

abbrev pub followed : List LogEnd → ℕ
followed ends = length (filter (λ (end : LogEnd). is_followed (outcome_of end)) ends)

-- ---- as text, on standard error

-- Of a log that was read, or followed, nothing is told.
abbrev pub ended_line : List ℕ → Ending → List ℕ
ended_line log (Followed calls) = []
ended_line log (Stuck calls waits) = []
ended_line log (Departs number place says why) =
    shown log ++ joined (codes ":" ∷ decimal number ∷ codes " departs: " ∷ place.items ∷ codes ": " ∷ says.items ∷ codes "; " ∷ why.items ∷ codes "\n" ∷ [])
ended_line log ending = ending_text log ending

abbrev pub outcome_line : List ℕ → Outcome → List ℕ
outcome_line log outcome.Read = []
outcome_line log (outcome.Ended ending) = ended_line log ending
outcome_line log (outcome.Unread why) = line_told log (string_bytes why)

abbrev pub end_lines : List LogEnd → List ℕ
end_lines ends = flat_map (λ (end : LogEnd). outcome_line end.log.now.name.now (outcome_of end)) ends

abbrev pub note_lines : List (Vec ℕ) → List ℕ
note_lines notes = flat_map (λ (note : Vec ℕ). note.items ++ codes "\n") notes

abbrev pub accepted_line : List LogEnd → List ℕ
accepted_line ends = joined (codes "accepted; " ∷ decimal (followed ends) ∷ codes " of " ∷ decimal (length ends) ∷ codes " logs followed\n" ∷ [])

-- ---- as JSON: one object, its keys in order

abbrev pub outcome_object : List ℕ → Outcome → Data
outcome_object log outcome.Read = object (member (codes "answer") (string (codes "read")) (member (codes "log") (string log) no_members))
outcome_object log (outcome.Ended ending) = ending_object log ending
outcome_object log (outcome.Unread why) =
    object (member (codes "answer") (string (codes "unread")) (member (codes "log") (string log) (member (codes "why") (string (string_bytes why)) no_members)))

abbrev pub end_object : LogEnd → Data
end_object end = outcome_object end.log.now.name.now (outcome_of end)

abbrev pub note_string : Vec ℕ → Data
note_string note = string (utf8_lossy note.items)

abbrev pub end_objects : List LogEnd → Data
end_objects ends = array (items_of (map end_object ends))

abbrev pub note_strings : List (Vec ℕ) → Data
note_strings notes = array (items_of (map note_string notes))

abbrev pub draft_object : List ℕ → List (Vec ℕ) → Verdict → List LogEnd → Data
draft_object text notes verdict ends =
    object (member (codes "logs") (end_objects ends) (member (codes "notes") (note_strings notes)
    (member (codes "text") (string (utf8_lossy text)) (member (codes "verdict") (finding_object None (finding verdict)) no_members))))

abbrev pub notes_object : List (Vec ℕ) → List LogEnd → Data
notes_object notes ends = object (member (codes "logs") (end_objects ends) (member (codes "notes") (note_strings notes) no_members))

-- without spaces, as it is shown, and with a line feed
abbrev pub object_line : Data → List ℕ
object_line whole = shown (compact_text whole) ++ codes "\n"

-- ---- notes alone

abbrev pub status_of_notes : List (Vec ℕ) → ℕ
status_of_notes [] = 0
status_of_notes (note ∷ notes) = 1

abbrev pub notes_said : Bool → List (Vec ℕ) → List LogEnd → Said
notes_said true notes ends = record { status = max (status_of_notes notes) (statuses ends); text = object_line (notes_object notes ends); told = [] }
notes_said false notes ends = record { status = max (status_of_notes notes) (statuses ends); text = note_lines notes; told = end_lines ends }

abbrev pub SaysNotes : Bool → List (List ℕ) → Said → Type 0
SaysNotes json names said =
    (notes : List (Vec ℕ)) × (ends : List LogEnd) × AreEnds (λ name. IsUntried) names ends × (said ≡ notes_said json notes ends)

-- Where no log can be read there is no draft.
abbrev pub SaysNone : Bool → List (List ℕ) → Said → Type 0
SaysNone json names said = (ends : List LogEnd) × AreEnds (λ name. IsUnrecorded) names ends × (said ≡ notes_said json [] ends)

-- ---- a draft

-- The status is the greatest of those of the verdict and of the logs.
abbrev pub object_said : List ℕ → List (Vec ℕ) → Verdict → List LogEnd → Said
object_said text notes verdict ends =
    record { status = max (status_of_verdict verdict) (statuses ends); text = object_line (draft_object text notes verdict ends); told = [] }

-- The text is printed, and this is said of it on standard error, after the notes and before how each log ends.
abbrev pub text_said : List ℕ → List (Vec ℕ) → Verdict → List ℕ → List LogEnd → Said
text_said text notes verdict words ends =
    record { status = max (status_of_verdict verdict) (statuses ends); text = text; told = note_lines notes ++ (words ++ end_lines ends) }

abbrev pub IsAcceptedSaid : Bool → List ℕ → List (Vec ℕ) → List LogEnd → Said → Type 0
IsAcceptedSaid true text notes ends said = said ≡ object_said text notes Accepted ends
IsAcceptedSaid false text notes ends said = said ≡ text_said text notes Accepted (accepted_line ends) ends

-- In words the verdict on the text is explained.
abbrev pub IsRefusedSaid : Bool → List ℕ → List (Vec ℕ) → Verdict → List LogEnd → Said → Type 0
IsRefusedSaid true text notes verdict ends said = said ≡ object_said text notes verdict ends
IsRefusedSaid false text notes verdict ends said =
    (shown : Verdict) × (words : List ℕ) × Explains text None Words shown words × (said ≡ text_said text notes verdict words ends)

-- How each log ended is said that was held to this program.
abbrev pub SaysTried : (List ℕ → Result (Option (List ℕ)) Unread → Type 0) → Bool → Program → List (List ℕ) → List ℕ → List (Vec ℕ) → Said → Type 0
SaysTried opens json program names text notes said =
    (ends : List LogEnd) × AreEnds (IsTried opens program) names ends × IsAcceptedSaid json text notes ends said

-- What is said of a text: that it is accepted, and how each log ended that was held to its program; or why it isn't.
abbrev pub SaysOfText : (List ℕ → Result (Option (List ℕ)) Unread → Type 0) → Bool → List (List ℕ) → List ℕ → List (Vec ℕ) → Said → Type 0
SaysOfText opens json names text notes said =
    ((program : Program) × GivesVerdict (answer_of text) (Ok program) × SaysTried opens json program names text notes said)
    ⊎ ((verdict : Verdict) × (ends : List LogEnd) × GivesVerdict (answer_of text) (Err verdict)
    × AreEnds (λ name. IsUntried) names ends × IsRefusedSaid json text notes verdict ends said)

abbrev pub SaysDrafted : (List ℕ → Result (Option (List ℕ)) Unread → Type 0) → Bool → List (List ℕ) → Said → Type 0
SaysDrafted opens json names said = (text : List ℕ) × (notes : List (Vec ℕ)) × SaysOfText opens json names text notes said

abbrev pub SaysForm : (List ℕ → Result (Option (List ℕ)) Unread → Type 0) → Bool → Bool → List (List ℕ) → Said → Type 0
SaysForm opens true json names said = SaysNotes json names said
SaysForm opens false json names said = SaysNone json names said ⊎ SaysDrafted opens json names said

-- What is said of the logs that are named, where they are opened so.
abbrev pub SaysDraft : (List ℕ → Result (Option (List ℕ)) Unread → Type 0) → Drafting → Said → Type 0
SaysDraft opens asked said = SaysForm opens asked.notes asked.json (texts_of asked.logs.items) said
