use Rattle.std.proofs.Common.{◌≡◌, drop, option_map}
use Rattle.rc_world.specs.Faults.{races, races_from}
use Rattle.rc_world.specs.WorldParts.{view_access}
use Rattle.rc_world.proofs.world.World.races.Given as goal

abbrev pub invariant-loop-other : goal.invariant-loop-other
invariant-loop-other l = races l.self l.thread (option_map view_access l.access) ≡ races_from l.self (option_map view_access l.access) l.other (drop l.other l.self.controls.threads)
