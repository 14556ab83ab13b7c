use Rattle.std.proofs.Common.{◌≡◌, drop}
use Rattle.rc_read.specs.Spots as spec
use Rattle.rc_read.specs.Texts.{view_spots}
use Rattle.rc_read.proofs.spots.any_reserved.Given as goal

abbrev pub invariant-loop-spot : goal.invariant-loop-spot
invariant-loop-spot l = spec.any_reserved l.version (view_spots (drop l.spot-index l.spots)) ≡ spec.any_reserved l.version (view_spots l.spots)
