-- A run under way: what its calls answer and leave.
use Rattle.std.specs.Prelude.{ℕ, ◌≡◌, ◌<◌, ◌%◌, ℤ, Bool, true, false, ◌||◌, not, List, [], ◌∷◌, ◌++◌, filter, length, nat_eq, Some, slice_get, unwrap_or}
use Rattle.std.specs.List.{list_any}
use Rattle.rc_lang.specs.declared.request.Kind.{Kind}
use Rattle.rc_lang.specs.declared.request.Kind.TheVariants.{Nop, Fsync, Read, Write, Other}
use Rattle.rc_lang.specs.declared.request.Request.{Request}
use Rattle.rc_lang.specs.Program.{Program}
use Rattle.rc_run.specs.declared.live.Turn.{Turn}
use Rattle.rc_run.specs.declared.live.Turn.TheVariants.{Done, Waits, Ended}
use Rattle.rc_run.specs.declared.machine.Pending.{Pending as PendingPart}
use Rattle.rc_run.specs.Jobs.{Job}
use Rattle.rc_run.specs.Machine.{completed_by, datasync_after, given_in_turn}
use Rattle.rc_world.specs.declared.controls.Next.{Next}
use Rattle.rc_world.specs.declared.controls.Next.TheVariants as next
use Rattle.rc_world.specs.declared.event.Event.{Event}
use Rattle.rc_world.specs.Controls.{next_line}
use Rattle.rc_world.specs.Faults.{is_holder}
use Rattle.rc_world.specs.Items.{next_of}
use Rattle.rc_world.specs.Laws.{HoldsLock}
use Rattle.rc_world.specs.Machine.{Pending, World, bytes_of, start_world, thread_step, without}

-- The events so far, the world to which they lead, whether the open entry is an fsync that asks for fdatasync(2), which
-- no world says, and the serial numbers of the requests whose jobs are out.
pub record Live : Type 0 where
  pub history : List Event
  pub world : World
  pub datasync : Bool
  pub out : List ℕ

abbrev pub begun : Program → Live
begun P = record { history = []; world = start_world P; datasync = false; out = [] }

-- one event more
abbrev pub grown : Live → Event → World → Bool → Live
grown s e w datasync = record { history = s.history ++ e ∷ []; world = w; datasync = datasync; out = s.out }

-- whether the open entry asks for fdatasync(2) once the thread has made its step
abbrev pub datasync_next : Live → ℕ → Bool
datasync_next s i = datasync_after (next_line s.world.program s.world.controls i) s.datasync

-- ---- who can make an event

-- a next that isn't a taken lock
abbrev pub is_ready : Next → Bool
is_ready (next.Ready line) = true
is_ready (next.TakenLock wanted) = false
is_ready next.Ended = false

abbrev pub is_taken_lock : Next → Bool
is_taken_lock (next.Ready line) = false
is_taken_lock (next.TakenLock wanted) = true
is_taken_lock next.Ended = false

abbrev pub is_end : Next → Bool
is_end (next.Ready line) = false
is_end (next.TakenLock wanted) = false
is_end next.Ended = true

-- The i-th thread has ended.
abbrev pub has_ended : World → ℕ → Bool
has_ended w i = is_end (next_of w.program w.controls i)

-- The i-th thread can make an event.
abbrev pub can_move : World → ℕ → Bool
can_move w i = is_ready (next_of w.program w.controls i)

-- The i-th thread is at a taken lock.
abbrev pub is_at_taken_lock : World → ℕ → Bool
is_at_taken_lock w i = is_taken_lock (next_of w.program w.controls i)

-- The i-th thread holds a lock of the program.
abbrev pub holds_lock : World → ℕ → Bool
holds_lock w i = is_holder w.controls.holders.sq i || is_holder w.controls.holders.cq i

-- Where a thread is at a taken lock, a thread that holds a lock can make an event.
abbrev pub HoldersGo : World → Type 0
HoldersGo w = (i : ℕ) → is_at_taken_lock w i ≡ true → (j : ℕ) × HoldsLock w j × (can_move w j ≡ true)

-- ---- turns

-- A turn of a thread with the take t.
abbrev pub Turned : Live → ℕ → ℤ → Turn → Live → Type 0
Turned s i t (Done e) v = (thread_step s.world i (given_in_turn s.world i t) ≡ Some (e, v.world)) × (v ≡ grown s e v.world (datasync_next s i))
Turned s i t Waits v = (is_at_taken_lock s.world i ≡ true) × (v ≡ s)
Turned s i t Ended v = (next_of s.world.program s.world.controls i ≡ next.Ended) × (v ≡ s)

-- ---- jobs

-- Requests are in the order of their serial numbers.
abbrev pub IsInOrder : List Pending → Type 0
IsInOrder ps = (j k : ℕ) (p q : Pending) → j < k → slice_get ps j ≡ Some p → slice_get ps k ≡ Some q → p.request.serial < q.request.serial

-- no job of this request is out
abbrev pub is_free : List ℕ → Request → Bool
is_free out r = not (list_any (λ serial. nat_eq serial r.serial) out)

abbrev pub free : Live → List Pending
free s = filter (λ (p : Pending). is_free s.out p.request) s.world.pending

-- The bytes for a request: a read's are those that are with it, a write's are its buffer's.
abbrev pub bytes_by : World → Pending → Kind → List ℕ
bytes_by w p Nop = []
bytes_by w p Fsync = []
bytes_by w p Read = unwrap_or p.bytes []
bytes_by w p Write = unwrap_or (bytes_of w p.request.buffer) []
bytes_by w p Other = []

abbrev pub bytes_for : World → Pending → List ℕ
bytes_for w p = bytes_by w p p.request.kind

-- The job is that of the pending request. Only a write's is starved, and then it has no bytes.
pub record IsJobOf (w : World) (p : Pending) (job : Job) : Type 0 where
  pub request : job.request ≡ p.request
  pub bytes : job.starved ≡ false → job.bytes ≡ bytes_for w p
  pub of_write : job.starved ≡ true → p.request.kind ≡ Write
  pub none : job.starved ≡ true → job.bytes ≡ []

-- The job of the free request that the choice names is out.
pub record Lent (s : Live) (choice : ℕ) (job : Job) (v : Live) : Type 0 where
  pub pending : Pending
  pub chosen : slice_get (free s) (choice % length (free s)) ≡ Some pending
  pub job_of : IsJobOf s.world pending job
  pub after : v ≡ record s { out = s.out ++ pending.request.serial ∷ [] }

-- A job is out: its request is the k-th of those that are pending, and its serial number the n-th of those that are out.
pub record IsOut (s : Live) (r : Request) (k n : ℕ) : Type 0 where
  pub pending : Pending
  pub here : slice_get s.world.pending k ≡ Some pending
  pub same : pending.request ≡ r
  pub out : slice_get s.out n ≡ Some r.serial

-- The result of a job that is out is the last event, and its request completes.
pub record Posted (s : Live) (job : Job) (res : ℤ) (v : Live) : Type 0 where
  pub place : ℕ
  pub number : ℕ
  pub is_out : IsOut s job.request place number
  pub event : Event
  pub step : completed_by s.world place res job.bytes ≡ Some (event, v.world)
  pub after : v ≡ record s { history = s.history ++ event ∷ []; world = v.world; out = without number s.out }

abbrev pub IsNotOut : Live → Request → Type 0
IsNotOut s r = (k n : ℕ) → IsOut s r k n → ⊥

-- The request is pending, as the k-th.
pub record IsPendingAt (pending : List PendingPart) (r : Request) (k : ℕ) : Type 0 where
  pub part : PendingPart
  pub here : slice_get pending k ≡ Some part
  pub same : part.request ≡ r
