use Rattle.std.proofs.Common.{◌≡◌, drop, map}
use Rattle.std.specs.List.{list_any}
use Rattle.rc_world.specs.Faults.{reads_into}
use Rattle.rc_world.specs.Machine.{Pending}
use Rattle.rc_world.specs.WorldParts.{view_pending}
use Rattle.rc_world.proofs.world.faults.is_filling.Given as goal

abbrev pub invariant-loop-pending : goal.invariant-loop-pending
invariant-loop-pending l =
    list_any (λ (p : Pending). reads_into l.buffer p.request) (map view_pending l.fn.pending) ≡ list_any (λ (p : Pending). reads_into l.buffer p.request) (map view_pending (drop l.pending-index l.fn.pending))
