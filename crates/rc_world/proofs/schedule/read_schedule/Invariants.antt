use Rattle.std.proofs.Common.{◌≡◌, length, drop, eqb}
use Rattle.std.specs.List.{slice_split}
use Rattle.rc_world.specs.Schedule as spec
use Rattle.rc_world.proofs.Pieces.{read_on}
use Rattle.rc_world.proofs.schedule.read_schedule.Given as goal

abbrev pub invariant-loop-piece : goal.invariant-loop-piece
invariant-loop-piece l = read_on (spec.item_of l.program) l.items.items (drop (length l.yielded) (slice_split (λ b. eqb b 44) l.schedule)) ≡ spec.items_of l.program l.schedule
