-- What it means that a program is safe: what holds of each world of its runs, in the terms of io_uring(7).
use Rattle.std.specs.Prelude.{ℕ, ◌≡◌, ◌≢◌, ◌⊎◌, ◌<◌, ◌≤◌, ◌+◌, true, List, ◌∷◌, drop, length, map, Option, Some, None, slice_get, ℤ, All}
use Rattle.rc_lang.specs.declared.lines.Line.{Line}
use Rattle.rc_lang.specs.declared.lines.Op.{Op}
use Rattle.rc_lang.specs.declared.lines.Op.TheVariants.{Load, Store, Fill, GetSqe, PrepRead, PrepWrite, PrepFsync, PrepNop, PrepOther, SetData64, Submit, SubmitAndWait, CqeGetData64, CqeSeen}
use Rattle.rc_lang.specs.declared.lines.Stmt.{Stmt}
use Rattle.rc_lang.specs.declared.lines.Stmt.TheVariants.{Do, Put, EndLock, If, Peek, Break}
use Rattle.rc_lang.specs.declared.lines.Test.TheVariants.{ReadyZero, SpaceAtLeast, Take}
use Rattle.rc_lang.specs.declared.request.Kind.TheVariants.{Read, Write}
use Rattle.rc_lang.specs.declared.request.Request.{Request}
use Rattle.rc_lang.specs.declared.program.Share.{Share}
use Rattle.rc_lang.specs.Program.{Items, Program, bytes_at, lines_of, shares_at, stmt_at}
use Rattle.rc_lang.specs.Kept.{IsProgram}
use Rattle.rc_rules.specs.Labellings.{Accepts}
use Rattle.rc_split.specs.Bags.{ShareOf, TokenOf, Credit, bag_of}
use Rattle.rc_split.specs.Pools.{Pools, all_pooled}
use Rattle.rc_world.specs.declared.controls.Look.{Look}
use Rattle.rc_world.specs.declared.controls.Look.TheVariants.{Unseen, Peeked, Got}
use Rattle.rc_world.specs.declared.event.Completion.{Completion}
use Rattle.rc_world.specs.declared.event.Event.{Event}
use Rattle.rc_world.specs.declared.world.Slot.{Slot}
use Rattle.rc_world.specs.declared.world.Slot.TheVariants.{Closed, Vacant, Prepared}
use Rattle.rc_world.specs.Controls.{list_here, next_line}
use Rattle.rc_world.specs.Faults.{count_of}
use Rattle.rc_world.specs.Machine.{Pending, World, start_world, thread_step}
use Rattle.rc_world.specs.Runs.{IsRun, IsSafe}

-- It holds of each world of each run of a program that is safe.
abbrev pub OfSafeWorlds : (World → Type 0) → Type 0
OfSafeWorlds F = (P : Program) → IsSafe P → (events : List Event) (w : World) → IsRun (start_world P) events w → F w

-- It holds of each world of each run of an accepted program.
abbrev pub OfAcceptedWorlds : (World → Type 0) → Type 0
OfAcceptedWorlds F = (P : Program) → IsProgram P → Accepts P → (events : List Event) (w : World) → IsRun (start_world P) events w → F w

-- No line of the program gets a completion's user data.
abbrev pub GetsNoData : Program → Type 0
GetsNoData P = (i k : ℕ) → stmt_at (lines_of P i) k ≢ Some (Do CqeGetData64)

-- It holds of each world of each run of such a program.
abbrev pub OfWorldsWithoutGets : (World → Type 0) → Type 0
OfWorldsWithoutGets F = (P : Program) → GetsNoData P → (events : List Event) (w : World) → IsRun (start_world P) events w → F w

-- The statement is the thread's next.
abbrev pub IsNext : World → ℕ → Stmt → Type 0
IsNext w i s = (l : Line) × (next_line w.program w.controls i ≡ Some l) × (l.stmt ≡ s)

-- ---- buffers

-- The statement writes the buffer, or reads it.
abbrev pub WritesBuffer : Op → ℕ → Type 0
WritesBuffer (Store c j x) b = c ≡ b
WritesBuffer (Fill c x) b = c ≡ b
WritesBuffer _ b = ⊥

abbrev pub ReadsBuffer : Op → ℕ → Type 0
ReadsBuffer (Load x c j) b = c ≡ b
ReadsBuffer _ b = ⊥

-- The kernel has this request, as its k-th.
abbrev pub IsPending : World → ℕ → Request → Type 0
IsPending w k r = (x : Pending) × (slice_get w.pending k ≡ Some x) × (x.request ≡ r)

-- The request fills the buffer; it fills it or takes its bytes.
abbrev pub Fills : Request → ℕ → Type 0
Fills r b = (r.kind ≡ Read) × (r.buffer ≡ b)

abbrev pub Names : Request → ℕ → Type 0
Names r b = ((r.kind ≡ Read) ⊎ (r.kind ≡ Write)) × (r.buffer ≡ b)

-- No thread is about to write a buffer that a pending request names.
abbrev pub NoWriteOfPending : World → Type 0
NoWriteOfPending w = (i k b : ℕ) (op : Op) (r : Request) → IsNext w i (Do op) → WritesBuffer op b → IsPending w k r → Names r b → ⊥

-- No thread is about to read a buffer that a pending read fills.
abbrev pub NoReadOfFilling : World → Type 0
NoReadOfFilling w = (i k b : ℕ) (op : Op) (r : Request) → IsNext w i (Do op) → ReadsBuffer op b → IsPending w k r → Fills r b → ⊥

-- If two pending requests name one buffer, neither of them fills it.
abbrev pub NoKernelClash : World → Type 0
NoKernelClash w = (j k b : ℕ) (r s : Request) → j ≢ k → IsPending w j r → IsPending w k s → Fills r b → Names s b → ⊥

-- If two threads are about to go to one buffer, neither of them writes it.
abbrev pub NoThreadRace : World → Type 0
NoThreadRace w = (i j b : ℕ) (x y : Op) → i ≢ j → IsNext w i (Do x) → IsNext w j (Do y) → WritesBuffer x b → WritesBuffer y b ⊎ ReadsBuffer y b → ⊥

-- No load and no store is next after the end of its buffer, and no prep of more bytes than its buffer has.
abbrev pub IsInBuffer : Program → Op → Type 0
IsInBuffer P (Load x b j) = j < bytes_at P.buffers b
IsInBuffer P (Store b j x) = j < bytes_at P.buffers b
IsInBuffer P (PrepRead fd b len off) = len ≤ bytes_at P.buffers b
IsInBuffer P (PrepWrite fd b len off k) = len ≤ bytes_at P.buffers b
IsInBuffer P _ = Unit {0}

abbrev pub StaysWithinBuffers : World → Type 0
StaysWithinBuffers w = (i : ℕ) (op : Op) → IsNext w i (Do op) → IsInBuffer w.program op

-- ---- the rings

-- The calls of the submission side: io_uring_get_sqe(3), io_uring_prep_read(3), io_uring_prep_write(3),
-- io_uring_prep_fsync(3), io_uring_prep_nop(3) and the preps of other requests without a buffer, as
-- io_uring_prep_poll_add(3); io_uring_sqe_set_data64(3), io_uring_submit(3), io_uring_submit_and_wait(3),
-- io_uring_sq_ready(3) and io_uring_sq_space_left(3). Those on the pool without a name, which is plain memory under both
-- locks, go with them; a pool with a name has a mutex of its own.
abbrev pub IsSqCall : Stmt → Type 0
IsSqCall (Do GetSqe) = Unit {0}
IsSqCall (Do (PrepRead fd b len off)) = Unit {0}
IsSqCall (Do (PrepWrite fd b len off k)) = Unit {0}
IsSqCall (Do (PrepFsync fd datasync)) = Unit {0}
IsSqCall (Do PrepNop) = Unit {0}
IsSqCall (Do PrepOther) = Unit {0}
IsSqCall (Do (SetData64 u)) = Unit {0}
IsSqCall (Do (Submit x)) = Unit {0}
IsSqCall (Do (SubmitAndWait x n)) = Unit {0}
IsSqCall (If ReadyZero) = Unit {0}
IsSqCall (If (SpaceAtLeast n)) = Unit {0}
IsSqCall (If (Take None k)) = Unit {0}
IsSqCall (Put None k) = Unit {0}
IsSqCall _ = ⊥

-- Those of the completion side: io_uring_peek_cqe(3), io_uring_cqe_get_data64(3) and io_uring_cqe_seen(3), and those on the
-- pool without a name.
abbrev pub IsCqCall : Stmt → Type 0
IsCqCall (Peek x) = Unit {0}
IsCqCall (Do CqeGetData64) = Unit {0}
IsCqCall (Do CqeSeen) = Unit {0}
IsCqCall (If (Take None k)) = Unit {0}
IsCqCall (Put None k) = Unit {0}
IsCqCall _ = ⊥

-- None of them is made without the lock of its side.
abbrev pub CallsUnderLock : World → Type 0
CallsUnderLock w = (i : ℕ) (s : Stmt) → IsNext w i s → (IsSqCall s → w.controls.holders.sq ≡ Some i) × (IsCqCall s → w.controls.holders.cq ≡ Some i)

-- Each io_uring_get_sqe(3) finds a free entry.
abbrev pub FindsEntry : World → Type 0
FindsEntry w = (i : ℕ) → IsNext w i (Do GetSqe) → (w.slot ≡ Closed) × (length w.queued < w.program.entries)

-- What the holder of the submission side does next finds the open entry at the stage that it wants.
abbrev pub Suits : Slot → Stmt → Type 0
Suits x (Do GetSqe) = x ≡ Closed
Suits x (Do (PrepRead fd b len off)) = x ≡ Vacant
Suits x (Do (PrepWrite fd b len off k)) = x ≡ Vacant
Suits x (Do (PrepFsync fd datasync)) = x ≡ Vacant
Suits x (Do PrepNop) = x ≡ Vacant
Suits x (Do PrepOther) = x ≡ Vacant
Suits x (Do (SetData64 u)) = (r : Request) × (x ≡ Prepared r)
Suits x (Do (Submit y)) = x ≡ Closed
Suits x (Do (SubmitAndWait y n)) = x ≡ Closed
Suits x (EndLock o released) = released.sq ≡ true → x ≡ Closed
Suits x (Break o releases leaves) = releases.sq ≡ true → x ≡ Closed
Suits x _ = Unit {0}

abbrev pub EntrySuits : World → Type 0
EntrySuits w = (i : ℕ) (s : Stmt) → w.controls.holders.sq ≡ Some i → IsNext w i s → Suits w.slot s

-- A pending request finds room in the completion ring.
abbrev pub HasRoom : World → Type 0
HasRoom w = (k : ℕ) (r : Request) → IsPending w k r → length w.completions < w.program.completion_entries

-- Each io_uring_sqe_set_data64(3) gives user data that no request has which is queued, pending, or completed and not
-- reaped.
abbrev pub DataIsFresh : World → Type 0
DataIsFresh w = (i u k : ℕ) (r : Request) → IsNext w i (Do (SetData64 u)) → (slice_get w.queued k ≡ Some r) ⊎ (IsPending w k r ⊎ (slice_get w.completed k ≡ Some r)) → r.user_data ≢ u

-- how many requests have this user data that are queued, pending, or completed and not reaped
abbrev pub in_flight_with : ℕ → World → ℕ
in_flight_with u w = count_of u w.queued + count_of u (map (λ (x : Pending). x.request) w.pending) + count_of u w.completed

-- No two of them have the same.
abbrev pub DataIsOne : World → Type 0
DataIsOne w = (u : ℕ) → in_flight_with u w ≤ 1

-- the completions whose requests aren't reaped: all but the front one, where that is got
abbrev pub unreaped : Look → List Completion → List Completion
unreaped Unseen completions = completions
unreaped Peeked completions = completions
unreaped Got completions = drop 1 completions

-- They are those of the requests that are completed and not reaped, one by one.
abbrev pub CompletionsAgree : World → Type 0
CompletionsAgree w = map (λ (c : Completion). c.user_data) (unreaped w.controls.look w.completions) ≡ map (λ (r : Request). r.user_data) w.completed

-- The calls that reap the request of the front completion, where that isn't got: io_uring_cqe_get_data64(3), and
-- io_uring_cqe_seen(3).
abbrev pub IsReap : Op → Type 0
IsReap CqeGetData64 = Unit {0}
IsReap CqeSeen = Unit {0}
IsReap _ = ⊥

-- what is in the completion ring behind one of them: io_uring_cqe_seen(3) takes the front completion away
abbrev pub left_by : Op → Completion → List Completion → List Completion
left_by CqeSeen front others = others
left_by _ front others = front ∷ others

-- A completion is at the front, and it was looked at. Exactly one request that is completed and not reaped has its user
-- data, and after the step none has.
pub record ReapsOne (w : World) (i : ℕ) (op : Op) : Type 0 where
  pub front : Completion
  pub others : List Completion
  pub completions : w.completions ≡ front ∷ others
  pub peeked : w.controls.look ≡ Peeked
  pub one : count_of front.user_data w.completed ≡ 1
  pub gone : (r : ℤ) (e : Event) (after : World) → thread_step w i r ≡ Some (e, after) → (count_of front.user_data after.completed ≡ 0) × (after.completions ≡ left_by op front others)

-- So it is at each of them, where the front completion isn't got.
abbrev pub EachReapsOne : World → Type 0
EachReapsOne w = (i : ℕ) (op : Op) → IsReap op → IsNext w i (Do op) → w.controls.look ≢ Got → ReapsOne w i op

-- Where it is got, its request was reaped, and the step reaps none.
pub record ReapsNone (w : World) (i : ℕ) (op : Op) : Type 0 where
  pub front : Completion
  pub others : List Completion
  pub completions : w.completions ≡ front ∷ others
  pub same : (r : ℤ) (e : Event) (after : World) → thread_step w i r ≡ Some (e, after) → (after.completed ≡ w.completed) × (after.completions ≡ left_by op front others)

abbrev pub NoneReapedTwice : World → Type 0
NoneReapedTwice w = (i : ℕ) (op : Op) → IsReap op → IsNext w i (Do op) → w.controls.look ≡ Got → ReapsNone w i op

-- ---- the pools

-- None of the items is in a pool already: no token that they name is there, and they name it once, the shares of a
-- buffer that are there and theirs are together no more than it has, and the credits no more than the completion ring has
-- entries.
pub record IsNotThere (P : Program) (pools : Pools) (items : Items) : Type 0 where
  pub shares : All (λ (s : Share). all_pooled P pools (ShareOf s.buffer) + bag_of items (ShareOf s.buffer) ≤ shares_at P.buffers s.buffer) items.shares
  pub tokens : All (λ u. all_pooled P pools (TokenOf u) ≡ 0) items.tokens
  pub once : All (λ u. bag_of items (TokenOf u) ≡ 1) items.tokens
  pub credits : all_pooled P pools Credit + items.credits ≤ P.completion_entries

-- Nothing is put that is there, in whatever pool.
abbrev pub NothingPutTwice : World → Type 0
NothingPutTwice w = (i k : ℕ) (pool : Option ℕ) → IsNext w i (Put pool k) → IsNotThere w.program w.controls.pools (list_here w.program w.controls i k)
