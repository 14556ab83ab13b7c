-- What lies under the lock of a run.
use Rattle.std.specs.Prelude.{ℕ, ℤ, ◌≡◌, ◌⊎◌, ◌+◌, ◌<◌, ◌≤◌, Bool, true, false, ◌||◌, if◌then◌else◌, [], count_by, length, nat_le}
use Rattle.rc_lang.specs.Program.{Program}
use Rattle.rc_run.specs.declared.live.Turn.{Turn}
use Rattle.rc_run.specs.declared.live.Turn.TheVariants as turn
use Rattle.rc_run.specs.declared.locked.Ending.{Ending}
use Rattle.rc_run.specs.declared.locked.Ending.TheVariants as ending
use Rattle.rc_run.specs.Lives.{Live, free}
use Rattle.rc_run.specs.Reports.{AllEnded, AllGiven, IsUnended, is_turn}
use Rattle.rc_world.specs.Machine.{start_world}
use Rattle.rc_world.specs.Runs.{IsRun, IsSafe}

-- The run, how many of its events are of threads and how many may be, and whether memory was refused.
pub record LockedRun : Type 0 where
  pub run : Live
  pub turns : ℕ
  pub limit : ℕ
  pub memory : Bool

-- what lies under the lock, of these parts
abbrev pub locked_run : Live → ℕ → ℕ → Bool → LockedRun
locked_run run turns limit memory = record { run = run; turns = turns; limit = limit; memory = memory }

-- Memory was refused, or the limit is reached.
abbrev pub is_stopped : LockedRun → Bool
is_stopped t = t.memory || nat_le t.limit t.turns

-- memory was refused
abbrev pub after_refusal : LockedRun → LockedRun
after_refusal t = record t { memory = true }

-- A turn is refused if the threads are to stop, and else only if memory is refused.
abbrev pub after_no_turn : LockedRun → LockedRun
after_no_turn t = if is_stopped t then t else after_refusal t

-- the run after a turn with this answer, which counts if it made an event
abbrev pub with_turn : LockedRun → Live → Turn → LockedRun
with_turn t run (turn.Done e) = record t { run = run; turns = t.turns + 1 }
with_turn t run turn.Waits = record t { run = run }
with_turn t run turn.Ended = record t { run = run }

-- All but the run is as it was.
abbrev pub KeepsRest : LockedRun → LockedRun → Type 0
KeepsRest old new = new ≡ record old { run = new.run }

-- No job is lent: there is none, or memory was refused.
abbrev pub LendsNone : LockedRun → LockedRun → Type 0
LendsNone old new = ((free old.run ≡ []) × (new ≡ old)) ⊎ (new ≡ after_refusal old)

-- The threads are to stop, or each has ended.
abbrev pub IsOver : LockedRun → Type 0
IsOver t = (is_stopped t ≡ true) ⊎ AllEnded t.run.world

-- How a run ended, once its threads have stopped: if a thread hasn't ended, the limit comes before memory.
abbrev pub EndsAs : LockedRun → Ending → Type 0
EndsAs t ending.Ended = AllEnded t.run.world × (t.memory ≡ false)
EndsAs t ending.Limit = (t.limit ≤ t.turns) × ((i : ℕ) × IsUnended t.run.world i)
EndsAs t ending.Memory = (AllEnded t.run.world × (t.memory ≡ true)) ⊎ ((t.turns < t.limit) × ((i : ℕ) × IsUnended t.run.world i))

-- What is kept of a run under the lock, of which the book has counted so many events: it is one of the program, which
-- is safe, its results are given, and no more of its events are of threads than the limit says.
pub record IsLockedRun (gives : ℕ → ℤ → Type 0) (program : Program) (limit total : ℕ) (t : LockedRun) : Type 0 where
  pub run : IsRun (start_world program) t.run.history t.run.world
  pub safe : IsSafe program
  pub given : AllGiven gives t.run.history
  pub counted : length t.run.history ≡ total
  pub turns : t.turns ≡ count_by is_turn t.run.history
  pub limit_is : t.limit ≡ limit
  pub few : t.turns ≤ limit
