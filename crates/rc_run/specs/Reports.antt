-- What a report of a run says.
use Rattle.std.specs.Prelude.{◌≡◌, ◌≢◌, ◌⊎◌, ◌+◌, ◌≤◌, ℕ, ℤ, negsuc, Bool, true, false, List, [], ◌∷◌, length, sum, count_by, Result, Ok, Err}
use Rattle.rc_lang.specs.Program.{Program}
use Rattle.rc_world.specs.declared.controls.Next.TheVariants.{Ended}
use Rattle.rc_world.specs.declared.event.Event.{Event}
use Rattle.rc_world.specs.declared.event.Event.TheVariants.{ByThread, ByKernel}
use Rattle.rc_world.specs.Items.{next_of}
use Rattle.rc_world.specs.Machine.{World, start_world}
use Rattle.rc_world.specs.Runs.{IsRun, IsSafe}
use Rattle.rc_run.specs.declared.report.RunFault.{RunFault}
use Rattle.rc_run.specs.declared.report.RunFault.TheVariants.{OutOfMemory, Limit, OtherProgram}
use Rattle.rc_run.specs.declared.report.RunReport.{RunReport}

abbrev pub is_turn : Event → Bool
is_turn (ByThread i line action) = true
is_turn (ByKernel completion) = false

-- Each result of the kernel is one that the device gives for that user data, or that of a starved job: -12, for ENOMEM.
abbrev pub IsGiven : (ℕ → ℤ → Type 0) → Event → Type 0
IsGiven gives (ByThread i line action) = Unit {0}
IsGiven gives (ByKernel completion) = gives completion.user_data completion.res ⊎ (completion.res ≡ negsuc 11)

abbrev pub AllGiven : (ℕ → ℤ → Type 0) → List Event → Type 0
AllGiven gives [] = Unit {0}
AllGiven gives (e ∷ es) = IsGiven gives e × AllGiven gives es

-- Every thread has ended.
abbrev pub AllEnded : World → Type 0
AllEnded w = (i : ℕ) → next_of w.program w.controls i ≡ Ended

-- A thread hasn't ended.
abbrev pub IsUnended : World → ℕ → Type 0
IsUnended w i = next_of w.program w.controls i ≢ Ended

-- The history is that of a run of the program, which is safe, and leads to this world; its results are given; no more of
-- its events are of threads than the limit says; and what the threads and the workers counted adds up to its length.
pub record IsReport (gives : ℕ → ℤ → Type 0) (program : Program) (limit : ℕ) (w : World) (r : RunReport) : Type 0 where
  pub run : IsRun (start_world program) r.history.items w
  pub safe : IsSafe program
  pub given : AllGiven gives r.history.items
  pub few : count_by is_turn r.history.items ≤ limit
  pub counted : sum r.turns.items + sum r.posts.items ≡ length r.history.items

-- The run has ended; memory ran out; or the limit of events of threads was reached where a thread hasn't ended. No run
-- is of another program.
abbrev pub Tells : (ℕ → ℤ → Type 0) → Program → ℕ → Result RunReport RunFault → Type 0
Tells gives program limit (Ok r) = (w : World) × IsReport gives program limit w r × AllEnded w
Tells gives program limit (Err (OutOfMemory r)) = (w : World) × IsReport gives program limit w r
Tells gives program limit (Err (Limit r)) = (w : World) × IsReport gives program limit w r × (count_by is_turn r.history.items ≡ limit) × ((i : ℕ) × IsUnended w i)
Tells gives program limit (Err OtherProgram) = ⊥
