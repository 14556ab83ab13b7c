-- What is printed of a search for a run into a stuck world.
use Rattle.std.specs.Prelude.{ℕ, Bool, true, false, ◌≡◌, ◌==◌, if◌then◌else◌, List, [], ◌++◌, codes, decimal, Option, Some, None, string_bytes, string_len}
use Rattle.std.specs.Vec.{vec_len}
use Rattle.serde_json.specs.Data.{Data, null, number as json_number, string, unsigned}
use Rattle.serde_json.specs.Written.{compact_text}
use Rattle.rc_report.specs.Shown.{shown}
use Rattle.rc_report.specs.Files.{printed}
use Rattle.rc_report.specs.Verdicts.{finding}
use Rattle.rc_runs.specs.declared.stuck.StuckFound.{StuckFound}
use Rattle.rc_runs.specs.declared.stuck.StuckRun.{StuckRun}
use Rattle.rc_runs.specs.declared.stuck.StuckSearched.{StuckSearched}
use Rattle.rc_runs.specs.declared.stuck_text.waits.Wait.{Wait}
use Rattle.rc_runs.specs.Finds.{RunMembers, found_by}
use Rattle.rc_runs.specs.Waits.{threads_data, wait_lines, with_members}

-- ---- in words

-- how a run was found by so many walks: one without steps has no moves
abbrev pub stuck_heading : ℕ → StuckRun → List ℕ
stuck_heading walks run =
    if string_len run.moves == 0 then codes "stuck by walk " ++ decimal walks ++ codes ", before the first step\n"
    else (codes "stuck by walk " ++ decimal walks ++ codes " after ") ++ decimal (vec_len run.items) ++ (codes " events: --moves " ++ (string_bytes run.moves ++ codes "\n"))

-- a run, its trace, and what is said of its threads
abbrev pub stuck_run_text : ℕ → StuckRun → List Wait → List ℕ
stuck_run_text walks run waits = stuck_heading walks run ++ string_bytes run.trace ++ wait_lines [] waits

abbrev pub search_text : ℕ → Option StuckRun → List Wait → List ℕ
search_text walks None waits = codes "not stuck in " ++ decimal walks ++ codes " walks\n"
search_text walks (Some run) waits = stuck_run_text walks run waits

abbrev pub searched_text : StuckSearched → List Wait → List ℕ
searched_text s waits = search_text s.search.walks s.search.run waits

abbrev pub text_if : Option StuckSearched → List Wait → List ℕ
text_if None waits = []
text_if (Some s) waits = searched_text s waits

abbrev pub stuck_text : Option (List ℕ) → StuckFound → List Wait → List ℕ
stuck_text file f waits = printed file false f.verdict ++ text_if f.searched waits

-- The verdict and the run are printed, and something is said of its threads.
abbrev pub IsStuckText : Option (List ℕ) → StuckFound → List ℕ → Type 0
IsStuckText file f text = (waits : List Wait) × (text ≡ stuck_text file f waits)

-- ---- as JSON: one object, its keys in order

-- the run that was found, if one was, and the number of its walk
abbrev pub run_with : ℕ → Option StuckRun → Option (ℕ × StuckRun)
run_with walks None = None
run_with walks (Some run) = Some (walks, run)

abbrev pub run_by : StuckSearched → Option (ℕ × StuckRun)
run_by s = run_with s.search.walks s.search.run

abbrev pub stuck_run_of : StuckFound → Option (ℕ × StuckRun)
stuck_run_of f = run_if f.searched
  where
    run_if : Option StuckSearched → Option (ℕ × StuckRun)
    run_if None = None
    run_if (Some s) = run_by s

abbrev pub stuck_data : Option (ℕ × StuckRun) → RunMembers
stuck_data None = record { moves = null; trace = null; walk = null }
stuck_data (Some (walk, run)) = record { moves = string (string_bytes run.moves); trace = string (string_bytes run.trace); walk = json_number (unsigned walk) }

-- whether a run was found
abbrev pub is_some : Option (ℕ × StuckRun) → Bool
is_some None = false
is_some (Some run) = true

abbrev pub has_run : StuckFound → Bool
has_run f = is_some (stuck_run_of f)

-- that of `find`, with two more members
abbrev pub stuck_object : Option (List ℕ) → StuckFound → List Wait → Data
stuck_object file f waits = with_members (has_run f) (threads_data waits) (found_by file (stuck_data (stuck_run_of f)) (finding f.verdict))

-- without spaces, as it is shown, and with a line feed
abbrev pub stuck_json : Option (List ℕ) → StuckFound → List Wait → List ℕ
stuck_json file f waits = shown (compact_text (stuck_object file f waits)) ++ codes "\n"

-- The verdict and the run are printed, and something is said of its threads.
abbrev pub IsStuckJson : Option (List ℕ) → StuckFound → List ℕ → Type 0
IsStuckJson file f text = (waits : List Wait) × (text ≡ stuck_json file f waits)
