-- Logs that are followed in a program.
use Rattle.std.specs.Prelude.{ℕ, ◌≡◌, ◌≤◌, ◌⊎◌, ◌++◌, All, slice_get, Bool, true, false, List, [], ◌∷◌, Option, Some, None, Result, Ok, Err}
use Rattle.rc_lang.specs.Program.{Program}
use Rattle.rc_log.specs.declared.call.Said.{Said}
use Rattle.rc_log.specs.declared.reader.LogFault.{LogFault}
use Rattle.rc_log.specs.declared.reader.LogFault.TheVariants.{TooLong, Failed, OutOfMemory}
use Rattle.rc_log.specs.Heads.{is_head, ring}
use Rattle.rc_log.specs.Lines.{is_full, log_lines}
use Rattle.rc_log.specs.Said.{said}
use Rattle.rc_log.specs.Things.{Thing, declared, lack_of}
use Rattle.rc_follow.specs.Followed.{IsFollowed}
use Rattle.rc_follow.specs.Follower.{Follower, Follows, with_ways}
use Rattle.rc_follow.specs.Ways.{Way}
use Rattle.rc_runs.specs.Stuck.{IsStuck}
use Rattle.rc_command.specs.declared.departures.ending.Ending.{Ending}
use Rattle.rc_command.specs.Endings.{calls_followed}
use Rattle.rc_command.specs.declared.departures.ending.Ending.TheVariants.{Followed, Stuck, Full}

-- The line declares something that the program has.
abbrev pub Declares : Program → List ℕ → Type 0
Declares p line = (t : Thing) × (declared line ≡ Ok t) × (lack_of p t ≡ None)

-- What lines say, one after another, but for those that declare something.
abbrev pub Say : Program → List (List ℕ) → List Said → Type 0
Say p [] [] = Unit {0}
Say p [] (s ∷ ss) = ⊥
Say p (line ∷ lines) [] = Declares p line × Say p lines []
Say p (line ∷ lines) (s ∷ ss) = ((said p line ≡ Ok s) × Say p lines ss) ⊎ (Declares p line × Say p lines (s ∷ ss))

-- Rings with so many entries have room for those of the program.
abbrev pub HasRoom : Program → Option (ℕ × ℕ) → Type 0
HasRoom p None = ⊥
HasRoom p (Some n) = (p.entries ≤ n.0) × (p.completion_entries ≤ n.1)

-- The first line is the head of a log, the second tells of its rings, and those after them say this.
abbrev pub IsLog : Program → List (List ℕ) → List Said → Type 0
IsLog p [] ss = ⊥
IsLog p (head ∷ []) ss = ⊥
IsLog p (head ∷ rings ∷ lines) ss = (is_head head ≡ true) × HasRoom p (ring rings) × Say p lines ss

-- The bytes are those of a log whose lines are followed in the program.
abbrev pub IsFollowedLog : Program → List ℕ → Type 0
IsFollowedLog p bytes = (ss : List Said) × IsLog p (log_lines bytes) ss × IsFollowed p ss

-- If the answer is `Followed`, `Stuck` or `Full`, the log is followed, and it wasn't full or was. Nothing is said where its
-- bytes aren't known.
abbrev pub Ends : Program → Option (List ℕ) → Ending → Type 0
Ends p (Some bytes) (Followed calls) = IsFollowedLog p bytes × (is_full bytes ≡ false)
Ends p (Some bytes) (Stuck calls waits) = IsFollowedLog p bytes × (is_full bytes ≡ false)
Ends p (Some bytes) (Full calls) = IsFollowedLog p bytes × (is_full bytes ≡ true)
Ends p _ _ = Unit {0}

-- It isn't said that it is followed.
abbrev pub IsOther : Ending → Type 0
IsOther (Followed calls) = ⊥
IsOther (Stuck calls waits) = ⊥
IsOther (Full calls) = ⊥
IsOther _ = Unit {0}

-- ---- what was reached

-- Some lines after the first two, from the third on, say this.
abbrev pub IsBegun : Program → List (List ℕ) → List Said → Type 0
IsBegun p lines ss =
    (ss ≡ []) ⊎ ((head rings : List ℕ) × (some rest : List (List ℕ)) × (lines ≡ head ∷ rings ∷ (some ++ rest)) × Say p some ss)

-- These lines were followed: all of a log that is followed, and of another those before the one at which it ends.
abbrev pub AreFollowed : Program → Option (List ℕ) → Ending → List Said → Type 0
AreFollowed p (Some bytes) (Followed calls) ss = IsLog p (log_lines bytes) ss
AreFollowed p (Some bytes) (Stuck calls waits) ss = IsLog p (log_lines bytes) ss
AreFollowed p (Some bytes) (Full calls) ss = IsLog p (log_lines bytes) ss
AreFollowed p (Some bytes) _ ss = IsBegun p (log_lines bytes) ss
AreFollowed p None ending ss = Unit {0}

-- The follower is where the log ends, and nothing more is reached yet.
abbrev pub Stops : Follower → Option (List ℕ) → Follower → Ending → Type 0
Stops old bytes f ending =
    Ends old.program bytes ending × (f.program ≡ old.program) × (f.reached ≡ old.reached)
    × (ss : List Said) × Follows ss f × AreFollowed old.program bytes ending ss

-- The worlds of all ways that are left are stuck.
abbrev pub AreStuck : Follower → Type 0
AreStuck f = All (λ (w : Way). IsStuck w.world) f.ways

-- the world of the way at this place
abbrev pub IsStuckWay : Option Way → Type 0
IsStuckWay None = ⊥
IsStuckWay (Some w) = IsStuck w.world

abbrev pub IsStuckAt : Follower → ℕ → Type 0
IsStuckAt f place = IsStuckWay (slice_get f.ways place)

-- `Stuck` is said only where they are.
abbrev pub IsRightly : Follower → Ending → Type 0
IsRightly f (Stuck calls waits) = AreStuck f
IsRightly f _ = Unit {0}

-- What is reached besides are the calls that were made on the ways that are left where the log ends.
abbrev pub Reaches : Follower → Option (List ℕ) → Follower → Ending → Type 0
Reaches old bytes new ending = (f : Follower) × Stops old bytes f ending × IsRightly f ending × (new ≡ with_ways f)

-- So many calls are followed, and the worlds may be stuck there.
abbrev pub IsFollowedSaid : Follower → ℕ → Ending → Type 0
IsFollowedSaid f calls (Followed more) = calls ≡ more
IsFollowedSaid f calls (Stuck more waits) = (calls ≡ more) × AreStuck f
IsFollowedSaid f calls _ = ⊥

abbrev pub IsSaidBy : Follower → Option ℕ → Ending → Ending → Type 0
IsSaidBy f None old new = new ≡ old
IsSaidBy f (Some calls) old new = IsFollowedSaid f calls new

-- It ends as the first says, but that it may be said that the worlds are stuck.
abbrev pub IsSaidOf : Follower → Ending → Ending → Type 0
IsSaidOf f old new = IsSaidBy f (calls_followed old) old new

-- Where a read failed nothing more is reached.
abbrev pub KeepsReached : Follower → Follower → LogFault → Type 0
KeepsReached old new TooLong = Unit {0}
KeepsReached old new (Failed e) = new.reached ≡ old.reached
KeepsReached old new OutOfMemory = Unit {0}

-- ---- a log under way

-- The first two lines were read, and these bytes are left.
abbrev pub IsHeaded : Program → List ℕ → List ℕ → Type 0
IsHeaded p bytes left =
    (head rings : List ℕ) × (log_lines bytes ≡ head ∷ rings ∷ log_lines left) × (is_full bytes ≡ is_full left)
    × (is_head head ≡ true) × HasRoom p (ring rings)

-- Lines were read after them, and they are followed.
abbrev pub IsUnder : Program → List ℕ → List ℕ → Follower → Type 0
IsUnder p bytes left f =
    (head rings : List ℕ) × (lines : List (List ℕ)) × (ss : List Said)
    × (log_lines bytes ≡ head ∷ rings ∷ (lines ++ log_lines left)) × (is_full bytes ≡ is_full left)
    × (is_head head ≡ true) × HasRoom p (ring rings) × Say p lines ss × Follows ss f × (f.program ≡ p)

-- The same of bytes that may be unknown.
abbrev pub Knows : (List ℕ → List ℕ → Type 0) → Option (List ℕ) → Option (List ℕ) → Type 0
Knows is None left = Unit {0}
Knows is (Some bytes) None = ⊥
Knows is (Some bytes) (Some left) = is bytes left

-- The line tells of rings with room, or it is said that it doesn't.
abbrev pub IsRoomy : Program → List ℕ → Option Ending → Type 0
IsRoomy p line None = HasRoom p (ring line)
IsRoomy p line (Some ending) = IsOther ending

-- The next line was read, and tells of such rings.
abbrev pub IsRinged : Program → List ℕ → List ℕ → Type 0
IsRinged p old new = (rings : List ℕ) × (log_lines old ≡ rings ∷ log_lines new) × (is_full old ≡ is_full new) × HasRoom p (ring rings)

abbrev pub Ringed : Program → Option (List ℕ) → Option (List ℕ) → Option Ending → Type 0
Ringed p old new None = Knows (IsRinged p) old new
Ringed p old new (Some ending) = IsOther ending

-- The line declares something that the program has, or it is said that it doesn't.
abbrev pub IsDeclared : Program → List ℕ → Option Ending → Type 0
IsDeclared p line None = Declares p line
IsDeclared p line (Some ending) = IsOther ending

-- What the line says was followed after the lines before it.
abbrev pub FollowsSaid : Follower → List ℕ → Follower → Type 0
FollowsSaid old line new =
    (s : Said) × (said old.program line ≡ Ok s) × (new.program ≡ old.program) × (new.reached ≡ old.reached)
    × ((ss : List Said) → Follows ss old → Follows (ss ++ s ∷ []) new)

-- The line was followed, or declares something that the program has, or it is said why not.
abbrev pub FollowsLine : Follower → List ℕ → Follower → Option Ending → Type 0
FollowsLine old line new None = FollowsSaid old line new ⊎ (Declares old.program line × (new ≡ old))
FollowsLine old line new (Some ending) = IsOther ending × (new ≡ old)

abbrev pub Headed : Program → Option (List ℕ) → Option (List ℕ) → Option Ending → Type 0
Headed p bytes left None = Knows (IsHeaded p) bytes left
Headed p bytes left (Some ending) = IsOther ending

-- some lines are followed
abbrev pub HasFollowed : Program → Option (List ℕ) → Option (List ℕ) → Follower → Type 0
HasFollowed p None left f = (ss : List Said) × Follows ss f
HasFollowed p (Some bytes) None f = ⊥
HasFollowed p (Some bytes) (Some left) f = IsUnder p bytes left f

abbrev pub Under : Follower → Option (List ℕ) → Option (List ℕ) → Follower → Option Ending → Type 0
Under old bytes left f None = (f.program ≡ old.program) × (f.reached ≡ old.reached) × HasFollowed old.program bytes left f
Under old bytes left f (Some ending) = Stops old bytes f ending
