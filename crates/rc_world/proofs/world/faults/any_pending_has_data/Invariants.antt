use Rattle.std.proofs.Common.{◌≡◌, drop, map}
use Rattle.std.specs.List.{list_any}
use Rattle.rc_world.specs.Faults.{has_data}
use Rattle.rc_world.specs.Machine.{Pending}
use Rattle.rc_world.specs.WorldParts.{view_pending}
use Rattle.rc_world.proofs.world.faults.any_pending_has_data.Given as goal

abbrev pub invariant-loop-pending : goal.invariant-loop-pending
invariant-loop-pending l =
    list_any (λ (p : Pending). has_data l.user_data p.request) (map view_pending l.fn.pending) ≡ list_any (λ (p : Pending). has_data l.user_data p.request) (map view_pending (drop l.pending-index l.fn.pending))
