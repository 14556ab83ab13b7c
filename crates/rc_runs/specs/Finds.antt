-- What is found of a model, and what is printed of it.
use Rattle.std.specs.Prelude.{ℕ, Bool, true, false, ◌≡◌, ◌≤◌, ◌==◌, if◌then◌else◌, List, [], ◌++◌, codes, decimal, Option, Some, None, Result, Ok, string_bytes, string_len}
use Rattle.serde_json.specs.Data.{Data, Members, member, no_members, null, number as json_number, object, string, unsigned}
use Rattle.serde_json.specs.Written.{compact_text}
use Rattle.serde_json.specs.View.{view}
use Rattle.serde_json.specs.declared.value.Value.{Value}
use Rattle.rc_lang.specs.Program.{Program}
use Rattle.rc_report.specs.declared.verdict.Verdict.{Verdict}
use Rattle.rc_report.specs.declared.verdict.Verdict.TheVariants.{Refused}
use Rattle.rc_report.specs.Checks.{IsVerdict}
use Rattle.rc_report.specs.Shown.{shown}
use Rattle.rc_report.specs.Files.{printed}
use Rattle.rc_report.specs.Verdicts.{Finding, file_member, finding}
use Rattle.rc_runs.specs.declared.find.Found.{Found}
use Rattle.rc_runs.specs.declared.find.Searched.{Searched}
use Rattle.rc_runs.specs.declared.harm.Harm.{Harm}
use Rattle.rc_runs.specs.declared.search.Search.{Search}
use Rattle.rc_runs.specs.Harms.{IsHarmIfAny}

-- Where no run was found, all walks were made that were asked for.
abbrev pub IsWhole : ℕ → ℕ → Option Harm → Type 0
IsWhole made asked None = made ≡ asked
IsWhole made asked (Some harm) = made ≤ asked

-- A run that is shown is one of the program into a fault, and so many walks were asked for.
abbrev pub IsSearch : Program → ℕ → Search → Type 0
IsSearch program walks s = IsHarmIfAny program s.harm × IsWhole s.walks walks s.harm

-- A refused program is searched, and no other.
abbrev pub IsSearched : Result Program (ℕ × ℕ) → ℕ → Verdict → Option Searched → Type 0
IsSearched answer walks (Refused r) (Some s) = (answer ≡ Ok s.program) × IsSearch s.program walks s.search
IsSearched answer walks (Refused r) None = ⊥
IsSearched answer walks verdict (Some s) = ⊥
IsSearched answer walks verdict None = Unit {0}

-- The verdict on what a model reads as, and what so many walks found in it.
abbrev pub IsFound : Result Program (ℕ × ℕ) → ℕ → Found → Type 0
IsFound answer walks f = IsVerdict answer f.verdict × IsSearched answer walks f.verdict f.searched

-- ---- in words

-- how a run was found by so many walks: one without steps has no moves
abbrev pub moves_line : ℕ → Harm → List ℕ
moves_line walks harm =
    if string_len harm.moves == 0 then codes "found by walk " ++ decimal walks ++ codes ", before the first step\n"
    else codes "found by walk " ++ decimal walks ++ codes ": --moves " ++ string_bytes harm.moves ++ codes "\n"

abbrev pub reach_line : Bool → List ℕ
reach_line true = []
reach_line false = codes "the refused line wasn't reached; another fault:\n"

abbrev pub heading : ℕ → Harm → List ℕ
heading walks harm = moves_line walks harm ++ reach_line harm.is_reached

-- what is said of a run after so many walks, or that there is none
abbrev pub harm_text : ℕ → Option Harm → List ℕ
harm_text walks None = codes "no fault in " ++ decimal walks ++ codes " walks: the model may lack detail, or try more `--walks`\n"
harm_text walks (Some harm) = heading walks harm ++ string_bytes harm.trace

abbrev pub search_text : Search → List ℕ
search_text s = harm_text s.walks s.harm

abbrev pub searched_text : Option Searched → List ℕ
searched_text None = []
searched_text (Some s) = search_text s.search

abbrev pub found_text : Option (List ℕ) → Found → List ℕ
found_text file f = printed file false f.verdict ++ searched_text f.searched

-- ---- as JSON: one object, its keys in order

-- the run that was found, if one was, and the number of its walk
abbrev pub run_by : ℕ → Option Harm → Option (ℕ × Harm)
run_by walks None = None
run_by walks (Some harm) = Some (walks, harm)

abbrev pub run_of : Option Searched → Option (ℕ × Harm)
run_of None = None
run_of (Some s) = run_by s.search.walks s.search.harm

-- the members from the run on, which the verdict's word completes
pub record RunMembers : Type 0 where
  pub moves : Data
  pub trace : Data
  pub walk : Data

abbrev pub members_of : Value → Value → Value → RunMembers
members_of moves trace walk = record { moves = view moves; trace = view trace; walk = view walk }

abbrev pub run_data : Option (ℕ × Harm) → RunMembers
run_data None = record { moves = null; trace = null; walk = null }
run_data (Some (walk, harm)) = record { moves = string (string_bytes harm.moves); trace = string (string_bytes harm.trace); walk = json_number (unsigned walk) }

abbrev pub run_members : RunMembers → List ℕ → Members
run_members run word = member (codes "moves") run.moves (member (codes "trace") run.trace (member (codes "verdict") (string word) (member (codes "walk") run.walk no_members)))

abbrev pub found_by : Option (List ℕ) → RunMembers → Option Finding → Data
found_by file run None = object (file_member file (run_members run (codes "accepted")))
found_by file run (Some f) =
    object (member (codes "cause") (string f.name) (member (codes "code") (json_number (unsigned f.number)) (file_member file (member (codes "line") (json_number (unsigned f.line)) (run_members run f.word)))))

abbrev pub found_object : Option (List ℕ) → Found → Data
found_object file f = found_by file (run_data (run_of f.searched)) (finding f.verdict)

-- without spaces, as it is shown, and with a line feed
abbrev pub found_json : Option (List ℕ) → Found → List ℕ
found_json file f = shown (compact_text (found_object file f)) ++ codes "\n"
