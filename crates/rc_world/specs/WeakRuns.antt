-- Weak runs: runs in which threads may make stray steps too.
use Rattle.std.specs.Prelude.{ℕ, ◌≡◌, ◌<◌, ◌^◌, ◌⊎◌, List, [], ◌∷◌, Some, None, ℤ}
use Rattle.rc_lang.specs.Program.{Program}
use Rattle.rc_world.specs.declared.event.Event.{Event}
use Rattle.rc_world.specs.Machine.{World, thread_step, kernel_step, start_world}
use Rattle.rc_world.specs.Faults.{fault_of}
use Rattle.rc_world.specs.Stray.{stray_step}

-- One event: a step of any thread or of the kernel, as in a run, or a stray step of any thread. Whether the world has a fault isn't asked.
abbrev pub IsWeakStep : World → Event → World → Type 0
IsWeakStep w e after =
    ((i : ℕ) × (r : ℤ) × (thread_step w i r ≡ Some (e, after)))
    ⊎ (((k : ℕ) × (res : ℤ) × (bytes : List ℕ) × (kernel_step w k res bytes ≡ Some (e, after)))
    ⊎ ((i : ℕ) × (byte : ℕ) × (byte < 2 ^ 8) × (stray_step w i byte ≡ Some (e, after))))

abbrev pub IsWeakRun : World → List Event → World → Type 0
IsWeakRun w [] after = w ≡ after
IsWeakRun w (e ∷ es) after = (next : World) × IsWeakStep w e next × IsWeakRun next es after

-- No world of any weak run has a fault. Each run is a weak run, so such a program is safe.
abbrev pub IsWeaklySafe : Program → Type 0
IsWeaklySafe program = (events : List Event) (w : World) → IsWeakRun (start_world program) events w → fault_of w ≡ None
