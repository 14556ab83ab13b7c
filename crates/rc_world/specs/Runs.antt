-- Runs: events with the worlds between them, in any order and of any length.
use Rattle.std.specs.Prelude.{ℕ, ◌≡◌, ◌⊎◌, List, [], ◌∷◌, Some, None, ℤ}
use Rattle.rc_lang.specs.Program.{Program}
use Rattle.rc_world.specs.declared.event.Event.{Event}
use Rattle.rc_world.specs.Machine.{World, thread_step, kernel_step, start_world}
use Rattle.rc_world.specs.Faults.{fault_of}

-- One event: a step of any thread, with any answer of a submit and either branch of a free choice, or of the kernel, with any result and any bytes. No step leaves a world with a fault.
pub record IsStep (w : World) (e : Event) (after : World) : Type 0 where
  pub no_fault : fault_of w ≡ None
  pub step : ((i : ℕ) × (r : ℤ) × (thread_step w i r ≡ Some (e, after))) ⊎ ((k : ℕ) × (res : ℤ) × (bytes : List ℕ) × (kernel_step w k res bytes ≡ Some (e, after)))

abbrev pub IsRun : World → List Event → World → Type 0
IsRun w [] after = w ≡ after
IsRun w (e ∷ es) after = (next : World) × IsStep w e next × IsRun next es after

-- No world of any run has a fault.
abbrev pub IsSafe : Program → Type 0
IsSafe program = (events : List Event) (w : World) → IsRun (start_world program) events w → fault_of w ≡ None
