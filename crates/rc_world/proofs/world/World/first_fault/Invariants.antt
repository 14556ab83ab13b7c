use Rattle.std.proofs.Common.{◌≡◌, drop, slice_get}
use Rattle.rc_world.specs.Faults.{faults_by}
use Rattle.rc_world.proofs.world.World.first_fault.Given as goal

abbrev pub invariant-loop-kind : goal.invariant-loop-kind
invariant-loop-kind l = slice_get (faults_by l.self l.kinds) 0 ≡ slice_get (faults_by l.self (drop l.kind-index l.kinds)) 0
