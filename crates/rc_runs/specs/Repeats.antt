-- What the calls that make the steps of moves answer.
use Rattle.std.specs.Prelude.{Bool, true, false, Option, Some, None}
use Rattle.rc_world.specs.Machine.{World}
use Rattle.rc_runs.specs.declared.spelling.Goal.{Goal}
use Rattle.rc_runs.specs.declared.step.Step.{Step}
use Rattle.rc_runs.specs.declared.step.Step.TheVariants.{Fault, Made, NotEnabled}
use Rattle.rc_runs.specs.Spelling.{is_at}

-- the world where each step could be made, and none where one couldn't
abbrev pub where_made : Bool → World → Option World
where_made true w = Some w
where_made false w = None

abbrev pub is_made : Step → Bool
is_made Made = true
is_made NotEnabled = false
is_made (Fault f) = false

-- The world is at the goal, if there is one.
abbrev pub is_there : Option Goal → World → Bool
is_there None w = false
is_there (Some goal) w = is_at goal.thread goal.line w
