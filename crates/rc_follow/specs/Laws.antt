-- What a log that is followed says of the program.
use Rattle.std.specs.Prelude.{◌≡◌, List, None}
use Rattle.rc_lang.specs.Program.{Program}
use Rattle.rc_log.specs.declared.call.Said.{Said}
use Rattle.rc_world.specs.declared.event.Event.{Event}
use Rattle.rc_world.specs.Faults.{fault_of}
use Rattle.rc_world.specs.Machine.{World, start_world}
use Rattle.rc_world.specs.WeakRuns.{IsWeakRun, IsWeaklySafe}
use Rattle.rc_follow.specs.Followed.{Goes, start_noted}

-- The lines of a log that is followed lead to a world of a weak run, which has no fault where the program is safe.
abbrev pub FollowedIsRun : Type 0
FollowedIsRun =
    (P : Program) → IsWeaklySafe P → (lines : List Said) (w : World) → Goes P (start_noted P) (start_world P) lines w
    → (events : List Event) × IsWeakRun (start_world P) events w × (fault_of w ≡ None)
