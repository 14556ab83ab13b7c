use Rattle.std.proofs.Common.{◌≡◌}
use Rattle.rc_world.specs.Parts.{refilled}
use Rattle.rc_world.proofs.world.bytes.fill_first.Given as goal

abbrev pub invariant-loop-i : goal.invariant-loop-i
invariant-loop-i l = l.bytes.items ≡ refilled l.i l.fill l.initial.bytes.items
