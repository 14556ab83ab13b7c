-- What is printed of logs as JSON has whole numbers alone.
use Rattle.std.proofs.Common.{◌≡◌, ℕ, List, [], ◌∷◌, map, false, refl}
use Rattle.serde_json.specs.View.{items_of}
use Rattle.serde_json.specs.Written.{has_float, items_have_float}
use Rattle.rc_lang.specs.declared.lines.Line.{Line}
use Rattle.rc_command.specs.declared.departures.ending.Ending.{Ending}
use Rattle.rc_command.specs.declared.departures.ending.Ending.TheVariants.{Followed, Stuck, Full, Departs, Unreadable, TooMany}
use Rattle.rc_command.specs.Endings.{ending_object}
use Rattle.rc_runs.proofs.Told.{threads_have_no_float}
use Rattle.rc_command.specs.Unmade.{call_object, unmade_object}

pub ending_has_no_float : (log : List ℕ) (e : Ending) → has_float (ending_object log e) ≡ false
ending_has_no_float log (Followed calls) = refl
ending_has_no_float log (Stuck calls waits) = rw (threads_have_no_float waits.items) refl
ending_has_no_float log (Full calls) = refl
ending_has_no_float log (Departs number place says why) = refl
ending_has_no_float log (Unreadable number why) = refl
ending_has_no_float log (TooMany number) = refl

items_have_no_float : (lines : List Line) → items_have_float (items_of (map call_object lines)) ≡ false
items_have_no_float [] = refl
items_have_no_float (line ∷ lines) = items_have_no_float lines

pub unmade_has_no_float : (lines : List Line) → has_float (unmade_object lines) ≡ false
unmade_has_no_float lines = rw (items_have_no_float lines) refl
