-- What is said of a run into a stuck world has whole numbers alone.
use Rattle.std.proofs.Common.{◌≡◌, ◌||◌, ℕ, Bool, true, false, true≢false, List, [], ◌∷◌, codes, map, Option, Some, None, refl, Ordering, Less, Equal, Greater}
use Rattle.std.specs.Ordering.{match_ordering}
use Rattle.serde_json.specs.Data.{Data, null, boolean, number, string, array, object, Members, no_members, member, put}
use Rattle.serde_json.specs.View.{items_of}
use Rattle.serde_json.specs.Written.{has_float, items_have_float, members_have_float}
use Rattle.rc_report.specs.Verdicts.{Finding}
use Rattle.rc_runs.specs.declared.stuck.StuckRun.{StuckRun}
use Rattle.rc_runs.specs.declared.stuck_text.waits.Wait.{Wait}
use Rattle.rc_runs.specs.Finds.{found_by}
use Rattle.rc_runs.specs.FindsStuck.{stuck_data}
use Rattle.rc_runs.specs.Waits.{threads_data, wait_object, with_members}

waits_have_no_float : (waits : List Wait) → items_have_float (items_of (map wait_object waits)) ≡ false
waits_have_no_float [] = refl
waits_have_no_float (wait ∷ waits) = waits_have_no_float waits

pub threads_have_no_float : (waits : List Wait) → has_float (threads_data waits) ≡ false
threads_have_no_float waits = waits_have_no_float waits

-- neither of two
first_not : (a b : Bool) → a || b ≡ false → a ≡ false
first_not false b h = refl
first_not true b h = absurd (true≢false h)

second_not : (a b : Bool) → a || b ≡ false → b ≡ false
second_not false b h = h
second_not true b h = absurd (true≢false h)

both_not : (a b : Bool) → a ≡ false → b ≡ false → a || b ≡ false
both_not a b h k = rw (h, k) refl

put_by : (o : Ordering) (k l : List ℕ) (d e : Data) (ms more : Members) → has_float d ≡ false → has_float e || members_have_float ms ≡ false → members_have_float more ≡ false →
    members_have_float (match_ordering o (member k d (member l e ms)) (member l d ms) (member l e more)) ≡ false
put_by Less k l d e ms more h m p = both_not _ _ h m
put_by Equal k l d e ms more h m p = both_not _ _ h (second_not _ _ m)
put_by Greater k l d e ms more h m p = both_not _ _ (first_not _ _ m) p

put_has_no_float : (k : List ℕ) (d : Data) (ms : Members) → has_float d ≡ false → members_have_float ms ≡ false → members_have_float (put k d ms) ≡ false
put_has_no_float k d no_members h m = both_not _ _ h refl
put_has_no_float k d (member l e ms) h m =
    put_by _ k l d e ms (put k d ms) h m (put_has_no_float k d ms h (second_not _ _ m))

with_has_no_float : (stuck : Bool) (threads object : Data) → has_float threads ≡ false → has_float object ≡ false → has_float (with_members stuck threads object) ≡ false
with_has_no_float stuck threads null h m = refl
with_has_no_float stuck threads (boolean b) h m = refl
with_has_no_float stuck threads (number n) h m = m
with_has_no_float stuck threads (string s) h m = refl
with_has_no_float stuck threads (array ds) h m = m
with_has_no_float stuck threads (object ms) h m = put_has_no_float (codes "threads") threads (put (codes "stuck") (boolean stuck) ms) h (put_has_no_float (codes "stuck") (boolean stuck) ms refl m)

run_has_no_float : (file : Option (List ℕ)) (run : Option (ℕ × StuckRun)) (f : Option Finding) → has_float (found_by file (stuck_data run) f) ≡ false
run_has_no_float None None None = refl
run_has_no_float None None (Some f) = refl
run_has_no_float None (Some (walk, run)) None = refl
run_has_no_float None (Some (walk, run)) (Some f) = refl
run_has_no_float (Some file) None None = refl
run_has_no_float (Some file) None (Some f) = refl
run_has_no_float (Some file) (Some (walk, run)) None = refl
run_has_no_float (Some file) (Some (walk, run)) (Some f) = refl

pub stuck_has_no_float : (stuck : Bool) (waits : List Wait) (file : Option (List ℕ)) (run : Option (ℕ × StuckRun)) (f : Option Finding) → has_float (with_members stuck (threads_data waits) (found_by file (stuck_data run) f)) ≡ false
stuck_has_no_float stuck waits file run f = with_has_no_float stuck (threads_data waits) (found_by file (stuck_data run) f) (threads_have_no_float waits) (run_has_no_float file run f)
