-- Harm can't hide as a missing step, and traces are runs.
use Rattle.std.specs.Prelude.{ℕ, ◌≡◌, ◌<◌, ◌⊎◌, true, false, List, length, Some, None, slice_get, ℤ}
use Rattle.rc_lang.specs.declared.lines.Line.{Line}
use Rattle.rc_lang.specs.declared.lines.Locks.{Locks}
use Rattle.rc_lang.specs.declared.lines.Stmt.TheVariants.{Lock}
use Rattle.rc_lang.specs.Program.{Program, lines_of}
use Rattle.rc_lang.specs.Kept.{IsProgram}
use Rattle.rc_lang.specs.Requests.{may_complete}
use Rattle.rc_world.specs.declared.event.Event.{Event}
use Rattle.rc_world.specs.declared.event.Item.{Item}
use Rattle.rc_world.specs.Controls.{Standing, are_free, next_line}
use Rattle.rc_world.specs.Faults.{fault_of}
use Rattle.rc_world.specs.Items.{is_enabled, item_step}
use Rattle.rc_world.specs.Machine.{Pending, World, bytes_brought, kernel_step, may_be_given, start_world, thread_step}
use Rattle.rc_world.specs.Runs.{IsRun}
use Rattle.rc_world.specs.Trace.{trace_of}

-- The thread is past its last line.
abbrev pub IsAtEnd : World → ℕ → Type 0
IsAtEnd w i = (t : Standing) × (slice_get w.controls.threads i ≡ Some t) × (t.place ≡ length (lines_of w.program i))

-- The thread's next line wants locks, and somebody holds one of them.
abbrev pub WaitsForLock : World → ℕ → Type 0
WaitsForLock w i = (l : Line) × (wanted : Locks) × (next_line w.program w.controls i ≡ Some l) × (l.stmt ≡ Lock wanted) × (are_free wanted w.controls.holders ≡ false)

-- The thread has a step, whatever of the allowed numbers it is given.
abbrev pub HasStep : World → ℕ → Type 0
HasStep w i =
    (l : Line) × (next_line w.program w.controls i ≡ Some l) × ((r : ℤ) → may_be_given w r l.stmt ≡ true → (s : Event × World) × (thread_step w i r ≡ Some s))

abbrev pub GoesOn : World → ℕ → Type 0
GoesOn w i = IsAtEnd w i ⊎ (WaitsForLock w i ⊎ HasStep w i)

-- Each pending request can complete with each result that it may have, a read with any bytes.
abbrev pub CompletesFreely : World → Type 0
CompletesFreely w =
    (k : ℕ) (p : Pending) (res : ℤ) (bytes : List ℕ) → slice_get w.pending k ≡ Some p → may_complete p.request res ≡ true → length bytes ≡ bytes_brought p.request →
    (s : Event × World) × (kernel_step w k res bytes ≡ Some s)

-- In a world without a fault, of any run of a made program, every thread and every pending request can go on.
abbrev pub NoHiddenHarm : Type 0
NoHiddenHarm =
    (program : Program) (events : List Event) (w : World) → IsProgram program → IsRun (start_world program) events w → fault_of w ≡ None →
    ((i : ℕ) → i < length program.threads → GoesOn w i) × CompletesFreely w

-- The thread holds a lock.
abbrev pub HoldsLock : World → ℕ → Type 0
HoldsLock w j = (w.controls.holders.sq ≡ Some j) ⊎ (w.controls.holders.cq ≡ Some j)

-- In a world without a fault, of any run of a made program, where a thread waits for a lock, one that holds a lock has a
-- step. So threads never wait for each other, each for a lock that another holds.
abbrev pub NoDeadlock : Type 0
NoDeadlock =
    (program : Program) (events : List Event) (w : World) (i : ℕ) → IsProgram program → IsRun (start_world program) events w → fault_of w ≡ None → WaitsForLock w i →
    (j : ℕ) × HoldsLock w j × HasStep w j

-- The events of a trace are a run from the start world to the world where the trace ends.
abbrev pub TracesAreRuns : Type 0
TracesAreRuns = (program : Program) (items : List Item) → IsProgram program → IsRun (start_world program) (trace_of program items).events (trace_of program items).world

-- In a world without a fault, of any run of a made program, an item that is enabled names a step.
abbrev pub EnabledItemsStep : Type 0
EnabledItemsStep =
    (program : Program) (events : List Event) (w : World) (item : Item) → IsProgram program → IsRun (start_world program) events w → fault_of w ≡ None → is_enabled w item ≡ true →
    (s : Event × World) × (item_step w item ≡ Some s)
