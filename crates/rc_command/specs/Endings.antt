-- What is printed of a log, and its exit status.
use Rattle.std.specs.Prelude.{ℕ, Bool, true, false, List, [], ◌∷◌, ◌++◌, codes, decimal, Option, Some, None}
use Rattle.std.specs.Str.Lossy.{utf8_lossy}
use Rattle.serde_json.specs.Data.{Data, member, no_members, number as json_number, object, string, unsigned}
use Rattle.serde_json.specs.Written.{compact_text}
use Rattle.rc_report.specs.Printed.{joined}
use Rattle.rc_report.specs.Shown.{shown}
use Rattle.rc_command.specs.declared.departures.ending.Ending.{Ending}
use Rattle.rc_command.specs.declared.departures.ending.Ending.TheVariants.{Followed, Stuck, Full, Departs, Unreadable, TooMany}
use Rattle.rc_runs.specs.declared.stuck_text.waits.Wait.{Wait}
use Rattle.rc_runs.specs.Waits.{threads_data, wait_lines}

-- Only what is followed has the status 0.
abbrev pub status_of : Ending → ℕ
status_of (Followed calls) = 0
status_of (Stuck calls waits) = 0
status_of (Full calls) = 3
status_of (Departs number place says why) = 1
status_of (Unreadable number why) = 2
status_of (TooMany number) = 3

-- how many calls are followed, where the log wasn't full
abbrev pub calls_followed : Ending → Option ℕ
calls_followed (Followed calls) = Some calls
calls_followed (Stuck calls waits) = Some calls
calls_followed _ = None

-- ---- as text: a line that begins with the log's name as it is shown

abbrev pub stuck_after_name : ℕ → List Wait → List ℕ
stuck_after_name calls waits = (codes ": followed " ++ decimal calls ++ codes " calls; stuck there:\n") ++ wait_lines (codes "  ") waits

abbrev pub after_name : Ending → List ℕ
after_name (Followed calls) = codes ": followed " ++ decimal calls ++ codes " calls\n"
after_name (Stuck calls waits) = stuck_after_name calls waits.items
after_name (Full calls) = codes ": followed " ++ decimal calls ++ codes " calls, then the log was full\n"
after_name (Departs number place says why) =
    joined (codes ":" ∷ decimal number ∷ codes ": " ∷ place.items ∷ codes ": " ∷ says.items ∷ codes "; " ∷ why.items ∷ codes "\n" ∷ [])
after_name (Unreadable number why) = joined (codes ": log line " ∷ decimal number ∷ codes " unreadable: " ∷ why.items ∷ codes "\n" ∷ [])
after_name (TooMany number) = codes ": too many candidates at log line " ++ decimal number ++ codes "\n"

abbrev pub ending_text : List ℕ → Ending → List ℕ
ending_text log ending = shown log ++ after_name ending

-- ---- as JSON: one object, its keys in order

-- it is followed, and its threads are listed besides
abbrev pub stuck_object : List ℕ → ℕ → List Wait → Data
stuck_object log calls waits =
    object (member (codes "answer") (string (codes "followed")) (member (codes "calls") (json_number (unsigned calls)) (member (codes "log") (string log) (member (codes "stuck") (threads_data waits) no_members))))

abbrev pub ending_object : List ℕ → Ending → Data
ending_object log (Followed calls) =
    object (member (codes "answer") (string (codes "followed")) (member (codes "calls") (json_number (unsigned calls)) (member (codes "log") (string log) no_members)))
ending_object log (Stuck calls waits) = stuck_object log calls waits.items
ending_object log (Full calls) =
    object (member (codes "answer") (string (codes "full")) (member (codes "calls") (json_number (unsigned calls)) (member (codes "log") (string log) no_members)))
ending_object log (Departs number place says why) =
    object (member (codes "answer") (string (codes "departs")) (member (codes "at") (string (utf8_lossy place.items)) (member (codes "line") (json_number (unsigned number))
    (member (codes "log") (string log) (member (codes "says") (string (utf8_lossy says.items)) (member (codes "why") (string (utf8_lossy why.items)) no_members))))))
ending_object log (Unreadable number why) =
    object (member (codes "answer") (string (codes "unreadable")) (member (codes "line") (json_number (unsigned number))
    (member (codes "log") (string log) (member (codes "why") (string (utf8_lossy why.items)) no_members))))
ending_object log (TooMany number) =
    object (member (codes "answer") (string (codes "too many")) (member (codes "line") (json_number (unsigned number)) (member (codes "log") (string log) no_members)))

-- without spaces, as it is shown, and with a line feed
abbrev pub ending_json : List ℕ → Ending → List ℕ
ending_json log ending = shown (compact_text (ending_object log ending)) ++ codes "\n"

abbrev pub ending_printed : Bool → List ℕ → Ending → List ℕ
ending_printed true log ending = ending_json log ending
ending_printed false log ending = ending_text log ending
