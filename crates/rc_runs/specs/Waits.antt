-- What is said of threads that can't go on. What their words say no contract says.
use Rattle.std.specs.Prelude.{ℕ, Bool, List, ◌++◌, codes, map, string_bytes}
use Rattle.std.specs.List.{flat_map}
use Rattle.serde_json.specs.Data.{Data, array, boolean, member, no_members, object, put, string}
use Rattle.serde_json.specs.View.{items_of}
use Rattle.rc_runs.specs.declared.stuck_text.waits.Wait.{Wait}

-- ---- as text: a line for each, with something before it

abbrev pub wait_line : List ℕ → Wait → List ℕ
wait_line before w = before ++ (string_bytes w.name ++ (codes " " ++ (string_bytes w.says ++ codes "\n")))

abbrev pub wait_lines : List ℕ → List Wait → List ℕ
wait_lines before waits = flat_map (wait_line before) waits

-- ---- as JSON

abbrev pub wait_object : Wait → Data
wait_object w = object (member (codes "name") (string (string_bytes w.name)) (member (codes "says") (string (string_bytes w.says)) no_members))

abbrev pub threads_data : List Wait → Data
threads_data waits = array (items_of (map wait_object waits))

-- An object with two more members: whether a run was found, and what its threads wait for.
abbrev pub with_members : Bool → Data → Data → Data
with_members stuck threads (object members) = object (put (codes "threads") threads (put (codes "stuck") (boolean stuck) members))
with_members stuck threads other = other
