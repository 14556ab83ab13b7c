-- How the parts of a run in the code stand for it.
use Rattle.std.specs.Prelude.{ℕ, ◌+◌, ◌≤◌, List, filter}
use Rattle.std.specs.Arc.{arc_value}
use Rattle.std.specs.Vec.{vec_capacity, vec_len}
use Rattle.rc_run.specs.declared.live.Live.TheInside.{Inside}
use Rattle.rc_run.specs.declared.machine.Pending.{Pending}
use Rattle.rc_run.specs.Lives.{Live, is_free}
use Rattle.rc_run.specs.Machine.{IsSized, world_of}
use Rattle.rc_world.specs.Machine.{start_world}
use Rattle.rc_world.specs.Runs.{IsRun}

abbrev pub view_live : Inside → Live
view_live a = record { history = a.history.items; world = world_of a.machine; datasync = a.machine.ring.datasync; out = a.out.items }

-- The events are those of a run of the program, to where the machine is; and there is room for what jobs that are
-- out will bring.
pub record IsLive (a : Inside) : Type 0 where
  pub leads : IsRun (start_world (arc_value a.machine.admitted)) a.history.items (world_of a.machine)
  pub sized : IsSized a.machine
  pub counted : a.machine.ring.made ≤ vec_len a.history
  pub room : vec_len a.history + vec_len a.out ≤ vec_capacity a.history
  pub space : vec_len a.machine.completed + vec_len a.out ≤ vec_capacity a.machine.completed

-- the pending requests that are free
abbrev pub free_parts : List ℕ → List Pending → List Pending
free_parts out pending = filter (λ (p : Pending). is_free out p.request) pending
