-- What is promised of accepted programs.
use Rattle.rc_lang.specs.Program.{Program}
use Rattle.rc_lang.specs.Kept.{IsProgram}
use Rattle.rc_rules.specs.Labellings.{Accepts}
use Rattle.rc_world.specs.Runs.{IsSafe}
use Rattle.rc_world.specs.WeakRuns.{IsWeaklySafe}

-- No world of any run of an accepted program has a fault.
abbrev pub AcceptedIsSafe : Type 0
AcceptedIsSafe = (P : Program) → IsProgram P → Accepts P → IsSafe P

-- No world of any weak run of an accepted program has a fault.
abbrev pub AcceptedIsWeaklySafe : Type 0
AcceptedIsWeaklySafe = (P : Program) → IsProgram P → Accepts P → IsWeaklySafe P
