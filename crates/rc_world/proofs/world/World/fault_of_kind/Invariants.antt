use Rattle.std.proofs.Common.{◌≡◌, drop, slice_get}
use Rattle.rc_world.specs.Faults.{faults_from, faults_of}
use Rattle.rc_world.proofs.world.World.fault_of_kind.Given as goal

abbrev pub invariant-loop-thread : goal.invariant-loop-thread
invariant-loop-thread l = slice_get (faults_of l.self l.kind) 0 ≡ slice_get (faults_from l.self l.kind l.thread (drop l.thread l.self.controls.threads)) 0
