-- What lies under the lock of a run: the run itself, and which of its threads runs next.
use Rattle.std.specs.Prelude.{ℕ, ◌≡◌, ◌⊎◌, ◌+◌, ◌-◌, ◌<◌, ◌≤◌, Bool, true, false, ◌&&◌, ◌||◌, not, List, length, replicate, Option, None, Some, nat_eq, nat_le, nat_lt, slice_get, slice_index_or, slice_set}
use Rattle.std.specs.List.{list_any}
use Rattle.rc_lang.specs.declared.lines.Line.{Line}
use Rattle.rc_lang.specs.declared.lines.Stmt.{Stmt}
use Rattle.rc_lang.specs.declared.lines.Stmt.TheVariants.{Case}
use Rattle.rc_lang.specs.Program.{lines_of}
use Rattle.rc_world.specs.declared.event.Action.TheVariants.{ItemsPut}
use Rattle.rc_world.specs.declared.event.Completion.{Completion}
use Rattle.rc_world.specs.declared.event.Event.TheVariants.{ByThread}
use Rattle.rc_run.specs.declared.live.Turn.{Turn}
use Rattle.rc_run.specs.declared.live.Turn.TheVariants.{Done}
use Rattle.rc_run.specs.declared.scheduler.State.{State}
use Rattle.rc_run.specs.declared.scheduler.State.TheVariants.{Running, Ready, Waiting}
use Rattle.rc_run.specs.Lives.{Live, can_move, has_ended}
use Rattle.rc_run.specs.LockedRun.{LockedRun, is_stopped}

-- The states of the threads; where the search for the next one begins; how many events there were at the last put.
pub record RunQueue : Type 0 where
  pub states : List State
  pub next : ℕ
  pub last_put : ℕ

-- all are running
abbrev pub new_queue : ℕ → RunQueue
new_queue threads = record { states = replicate threads Running; next = 0; last_put = 0 }

abbrev pub is_running : State → Bool
is_running Running = true
is_running Ready = false
is_running (Waiting since) = false

-- the state of a thread; one that isn't there counts as running
abbrev pub state_at : List State → ℕ → State
state_at states i = slice_index_or states i Running

abbrev pub with_state : RunQueue → ℕ → State → RunQueue
with_state q i state = record q { states = slice_set q.states i state }

-- A thread is running that can make an event.
abbrev pub AnyRuns : Live → RunQueue → Type 0
AnyRuns s q = (j : ℕ) × (state_at q.states j ≡ Running) × (can_move s.world j ≡ true)

abbrev pub is_case_for : ℕ → Stmt → Bool
is_case_for u (Case other v) = nat_eq v u
is_case_for u _ = false

-- One of the lines is a case for the completion.
abbrev pub awaits : List Line → Option Completion → Bool
awaits lines None = false
awaits lines (Some c) = list_any (λ (l : Line). is_case_for c.user_data l.stmt) lines

-- The i-th thread has a case for the completion that is reaped next.
abbrev pub awaits_front : Live → ℕ → Bool
awaits_front s i = awaits (lines_of s.world.program i) (slice_get s.world.completions 0)

-- A thread that waits is to run again if no request is pending, items were put into a pool since, 1,000 events were made
-- since, or it has a case for the completion that is reaped next.
abbrev pub is_due : Live → ℕ → ℕ → State → Bool
is_due s put i Running = false
is_due s put i Ready = true
is_due s put i (Waiting since) =
    nat_eq (length s.world.pending) 0
    || (nat_lt since put
    || (nat_le 1000 (length s.history - since)
    || awaits_front s i))

-- The i-th is to run again, and can make an event.
abbrev pub due : Live → RunQueue → ℕ → Bool
due s q i = is_due s q.last_put i (state_at q.states i) && can_move s.world i

-- From one place to another, without it, nobody passes the test.
abbrev pub NobodyIn : (ℕ → Bool) → ℕ → ℕ → Type 0
NobodyIn test from to = (i : ℕ) → from ≤ i → i < to → test i ≡ false

-- The i-th passes the test, as the first from one place to another.
abbrev pub IsFirstIn : (ℕ → Bool) → ℕ → ℕ → ℕ → Type 0
IsFirstIn test from to i = (from ≤ i) × (i < to) × (test i ≡ true) × NobodyIn test from i

-- Round robin: the first that is due from the next one on, and else the first of all.
abbrev pub IsNextDue : Live → RunQueue → ℕ → Type 0
IsNextDue s q i = IsFirstIn (due s q) q.next (length q.states) i ⊎ (NobodyIn (due s q) q.next (length q.states) × IsFirstIn (due s q) 0 q.next i)

-- If no thread is running that can make an event, the next one that is due runs, if there is one.
abbrev pub Dispatches : Live → RunQueue → Option ℕ → RunQueue → Type 0
Dispatches s q None v = (AnyRuns s q ⊎ ((i : ℕ) → due s q i ≡ false)) × (v ≡ q)
Dispatches s q (Some i) v = (¬ AnyRuns s q) × IsNextDue s q i × (v ≡ record (with_state q i Running) { next = i + 1 })

pub record Scheduler : Type 0 where
  pub run : LockedRun
  pub queue : RunQueue

-- The thread that runs next after these states of the threads, in the run as it is.
abbrev pub RunsNext : RunQueue → Option ℕ → Scheduler → Type 0
RunsNext q next s = Dispatches s.run.run q next s.queue

-- The i-th thread isn't running, and hasn't ended.
abbrev pub is_held_back : Scheduler → ℕ → Bool
is_held_back s i = not (is_running (state_at s.queue.states i)) && not (has_ended s.run.run.world i)

-- A thread is held back, at a taken lock too, only while another one is running that can make an event, or a request is
-- pending.
abbrev pub MovesOn : Scheduler → Type 0
MovesOn s = (i : ℕ) → is_held_back s i ≡ true → AnyRuns s.run.run s.queue ⊎ (0 < length s.run.run.world.pending)

-- The i-th thread is held back, and the run goes on.
abbrev pub waits : Scheduler → ℕ → Bool
waits s i = is_held_back s i && not (is_stopped s.run)

-- the queue after a turn in this run: a put is noted, with how many events there are
abbrev pub with_put : Option Turn → Live → RunQueue → RunQueue
with_put (Some (Done (ByThread i line ItemsPut))) s q = record q { last_put = length s.history }
with_put turn s q = q
