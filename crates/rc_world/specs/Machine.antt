-- The world, and what the threads and the kernel may do in it.
use Rattle.std.specs.Prelude.{ℕ, suc, ◌+◌, ◌-◌, Bool, true, false, ◌&&◌, if◌then◌else◌, List, [], ◌∷◌, ◌++◌, take, drop, map, replicate, length, Option, Some, None, nat_eq, nat_lt, nat_le, slice_get, slice_index, slice_index_or, slice_set, ℤ, pos, negsuc}
use Rattle.rc_lang.specs.declared.lines.Line.{Line}
use Rattle.rc_lang.specs.declared.lines.Op.{Op}
use Rattle.rc_lang.specs.declared.lines.Op.TheVariants.{Load, Store, Fill, GetSqe, PrepRead, PrepWrite, PrepFsync, PrepNop, PrepOther, SetData64, Submit, SubmitAndWait, CqeGetData64, CqeSeen}
use Rattle.rc_lang.specs.declared.lines.Stmt.{Stmt}
use Rattle.rc_lang.specs.declared.lines.Stmt.TheVariants.{Do, If, Peek}
use Rattle.rc_lang.specs.declared.lines.Test.{Test}
use Rattle.rc_lang.specs.declared.lines.Test.TheVariants.{Compare, ReadyZero, SpaceAtLeast, Take, Any}
use Rattle.rc_lang.specs.declared.request.Kind.{Kind}
use Rattle.rc_lang.specs.declared.request.Kind.TheVariants.{Nop, Fsync, Read, Write, Other}
use Rattle.rc_lang.specs.declared.request.Request.{Request}
use Rattle.rc_lang.specs.Program.{Buffer, Program, bytes_at}
use Rattle.rc_lang.specs.Requests.{may_complete}
use Rattle.rc_world.specs.declared.controls.Answer.{Answer}
use Rattle.rc_world.specs.declared.controls.Answer.TheVariants.{Plain, Number, Byte, Front}
use Rattle.rc_world.specs.declared.controls.Look.{Look}
use Rattle.rc_world.specs.declared.controls.Look.TheVariants.{Unseen, Peeked, Got}
use Rattle.rc_world.specs.declared.event.Completion.{Completion}
use Rattle.rc_world.specs.declared.event.Event.{Event}
use Rattle.rc_world.specs.declared.event.Event.TheVariants.{ByKernel}
use Rattle.rc_world.specs.declared.world.Slot.{Slot}
use Rattle.rc_world.specs.declared.world.Slot.TheVariants.{Closed, Vacant, Prepared}
use Rattle.rc_world.specs.Controls.{Controls, Standing, controls_step, is_choice, low_byte, next_line, start_controls, variable}

-- A pending request: a read keeps the bytes of its buffer, which is absent until the read completes.
pub record Pending : Type 0 where
  pub request : Request
  pub bytes : Option (List ℕ)

-- Everything that the machine holds: the open submission entry, the requests that are queued, pending in the kernel,
-- and completed but not reaped, the completion ring from its front, how many requests were made (io_uring(7)), and for
-- each buffer its bytes, where it is there.
pub record World : Type 0 where
  pub program : Program
  pub controls : Controls
  pub slot : Slot
  pub queued : List Request
  pub pending : List Pending
  pub completed : List Request
  pub completions : List Completion
  pub made : ℕ
  pub buffers : List (Option (List ℕ))

-- ---- the step of a thread in the buffers

-- the bytes of a buffer that is there
abbrev pub bytes_of : World → ℕ → Option (List ℕ)
bytes_of w b = slice_index_or w.buffers b None

abbrev pub with_bytes : World → ℕ → List ℕ → World
with_bytes w b bytes = record w { buffers = slice_set w.buffers b (Some bytes) }

abbrev pub stores : World → (b i byte : ℕ) → Option (List ℕ) → Option World
stores w b i byte None = None
stores w b i byte (Some bytes) = if nat_lt i (length bytes) then Some (with_bytes w b (slice_set bytes i byte)) else None

abbrev pub fills : World → (b byte : ℕ) → Option (List ℕ) → Option World
fills w b byte None = None
fills w b byte (Some bytes) = Some (with_bytes w b (replicate (length bytes) byte))

-- ---- the step of a thread in the rings

abbrev pub slot_len : Slot → ℕ
slot_len Closed = 0
slot_len _ = 1

-- the entries of the submission ring in use: an open entry counts (io_uring_sq_ready(3))
abbrev pub used_entries : World → ℕ
used_entries w = length w.queued + slot_len w.slot

-- io_uring_get_sqe(3): an entry is opened where none is open and one is free.
abbrev pub opens_entry : World → Slot → Option World
opens_entry w Closed = if nat_lt (length w.queued) w.program.entries then Some (record w { slot = Vacant }) else None
opens_entry w _ = None

-- a request before it has its serial number and its user data
abbrev pub new_request : Kind → ℤ → (buffer len off : ℕ) → Request
new_request kind fd buffer len off = record { serial = 0; kind = kind; fd = fd; buffer = buffer; len = len; off = off; user_data = 0 }

-- the request of a prepared nop (io_uring_prep_nop(3))
abbrev pub prepared_nop : Request
prepared_nop = new_request Nop (negsuc 0) 0 0 0

-- that of any other request without a buffer
abbrev pub prepared_other : Request
prepared_other = new_request Other (negsuc 0) 0 0 0

-- the request moves no more bytes than its buffer has
abbrev pub fits_buffer : Program → Request → Bool
fits_buffer program r = nat_le r.len (bytes_at program.buffers r.buffer)

-- A prep fills a vacant entry.
abbrev pub prepares : World → Request → Slot → Option World
prepares w r Vacant = if fits_buffer w.program r then Some (record w { slot = Prepared r }) else None
prepares w r _ = None

-- io_uring_sqe_set_data64(3): the prepared entry is queued under the next serial number.
abbrev pub queues : World → ℕ → Slot → Option World
queues w u (Prepared r) = Some (record w { slot = Closed; queued = w.queued ++ record r { serial = w.made + 1; user_data = u } ∷ []; made = w.made + 1 })
queues w u _ = None

abbrev pub is_read : Kind → Bool
is_read Read = true
is_read _ = false

-- The bytes that a request takes with it as it becomes pending: a read those of its buffer, which is absent then.
abbrev pub taken_bytes : List (Option (List ℕ)) → Request → Option (List ℕ)
taken_bytes buffers r = if is_read r.kind then slice_index_or buffers r.buffer None else None

abbrev pub without_taken : List (Option (List ℕ)) → Request → List (Option (List ℕ))
without_taken buffers r = if is_read r.kind then slice_set buffers r.buffer None else buffers

abbrev pub begins : World → Request → World
begins w r = record w { pending = w.pending ++ record { request = r; bytes = taken_bytes w.buffers r } ∷ []; buffers = without_taken w.buffers r }

abbrev pub all_begin : World → List Request → World
all_begin w [] = w
all_begin w (r ∷ rs) = all_begin (begins w r) rs

-- io_uring_submit(3): the first n queued requests become pending.
abbrev pub hands_over : World → ℕ → World
hands_over w n = all_begin (record w { queued = drop n w.queued }) (take n w.queued)

-- A submit may answer how many of the queued requests it took, or a negative errno from -4095 and take none.
abbrev pub is_take : World → ℤ → Bool
is_take w (pos n) = nat_le n (length w.queued)
is_take w (negsuc n) = nat_lt n 4095

-- the number in a count or a negative errno, which counts for 0
abbrev pub count_in : ℤ → ℕ
count_in (pos n) = n
count_in (negsuc n) = 0

abbrev pub submits_by : World → ℤ → Option World
submits_by w r = if is_take w r then Some (hands_over w (count_in r)) else None

-- the requests without the first that has this user data
abbrev pub without_data : ℕ → List Request → List Request
without_data u [] = []
without_data u (r ∷ rs) = if nat_eq r.user_data u then rs else r ∷ without_data u rs

-- The completed requests without that of the front completion, which has this user data. Where the front is got, that
-- was reaped before.
abbrev pub without_front : Look → ℕ → List Request → List Request
without_front Unseen u rs = without_data u rs
without_front Peeked u rs = without_data u rs
without_front Got u rs = rs

-- io_uring_cqe_get_data64(3): the request of the front completion is reaped.
abbrev pub gets_front : World → List Completion → Option World
gets_front w [] = None
gets_front w (c ∷ cs) = Some (record w { completed = without_front w.controls.look c.user_data w.completed })

-- io_uring_cqe_seen(3): the front completion goes, and its request is reaped.
abbrev pub reaps_front : World → List Completion → Option World
reaps_front w [] = None
reaps_front w (c ∷ cs) = Some (record w { completions = cs; completed = without_front w.controls.look c.user_data w.completed })

-- The numbers that a step may be given: a submit its answer, a free choice 1 or 0, and any other statement makes nothing of
-- it.
abbrev pub may_be_given : World → ℤ → Stmt → Bool
may_be_given w r (Do (Submit x)) = is_take w r
may_be_given w r (Do (SubmitAndWait x n)) = is_take w r
may_be_given w r (If Any) = is_choice r
may_be_given w r _ = true

-- What a statement of a thread that is there does to the rings and the buffers; the step is given r.
abbrev pub op_in_rings : World → Standing → ℤ → Op → Option World
op_in_rings w t r (Store b i x) = stores w b i (low_byte (variable t x)) (bytes_of w b)
op_in_rings w t r (Fill b x) = fills w b (low_byte (variable t x)) (bytes_of w b)
op_in_rings w t r GetSqe = opens_entry w w.slot
op_in_rings w t r (PrepRead fd b len off) = prepares w (new_request Read (pos fd) b len off) w.slot
op_in_rings w t r (PrepWrite fd b len off k) = prepares w (new_request Write (pos fd) b len off) w.slot
op_in_rings w t r (PrepFsync fd datasync) = prepares w (new_request Fsync (pos fd) 0 0 0) w.slot
op_in_rings w t r PrepNop = prepares w prepared_nop w.slot
op_in_rings w t r PrepOther = prepares w prepared_other w.slot
op_in_rings w t r (SetData64 u) = queues w u w.slot
op_in_rings w t r (Submit x) = submits_by w r
op_in_rings w t r (SubmitAndWait x n) = submits_by w r
op_in_rings w t r CqeGetData64 = gets_front w w.completions
op_in_rings w t r CqeSeen = reaps_front w w.completions
op_in_rings w t r _ = Some w

abbrev pub in_rings : World → Standing → ℤ → Stmt → Option World
in_rings w t r (Do op) = op_in_rings w t r op
in_rings w t r _ = Some w

-- ---- what the world answers to a statement, where the step is given r

abbrev pub front_of : List Completion → Answer
front_of [] = Plain
front_of (c ∷ cs) = Front c

abbrev pub byte_of : ℕ → Option (List ℕ) → Answer
byte_of i None = Plain
byte_of i (Some bytes) = if nat_lt i (length bytes) then Byte (slice_index bytes i) else Plain

abbrev pub op_answer : World → ℤ → Op → Answer
op_answer w r (Load x b i) = byte_of i (bytes_of w b)
op_answer w r (Submit x) = Number r
op_answer w r (SubmitAndWait x n) = Number r
op_answer w r CqeGetData64 = front_of w.completions
op_answer w r CqeSeen = front_of w.completions
op_answer w r _ = Plain

-- io_uring_sq_ready(3), io_uring_sq_space_left(3)
abbrev pub test_answer : World → ℤ → Test → Answer
test_answer w r (Compare x comparison n) = Plain
test_answer w r ReadyZero = Number (pos (used_entries w))
test_answer w r (SpaceAtLeast n) = Number (pos (w.program.entries - used_entries w))
test_answer w r (Take pool k) = Plain
test_answer w r Any = Number r

abbrev pub stmt_answer : World → ℤ → Stmt → Answer
stmt_answer w r (Do op) = op_answer w r op
stmt_answer w r (If test) = test_answer w r test
stmt_answer w r (Peek x) = front_of w.completions
stmt_answer w r _ = Plain

-- ---- the step of a thread

abbrev pub with_controls : Option World → Option (Event × Controls) → Option (Event × World)
with_controls None s = None
with_controls (Some w) None = None
with_controls (Some w) (Some (e, c)) = Some (e, record w { controls = c })

abbrev pub thread_step_at : World → ℕ → ℤ → Option Standing → Option Line → Option (Event × World)
thread_step_at w i r None l = None
thread_step_at w i r (Some t) None = None
thread_step_at w i r (Some t) (Some l) = with_controls (in_rings w t r l.stmt) (controls_step w.program w.controls i (stmt_answer w r l.stmt))

-- The step of a thread that is given r: the event, and the world after it. None where it can't be made.
abbrev pub thread_step : World → ℕ → ℤ → Option (Event × World)
thread_step w i r = thread_step_at w i r (slice_get w.controls.threads i) (next_line w.program w.controls i)

-- ---- the step of the kernel

-- the list without its k-th member
abbrev pub without : {A : Type 0} → ℕ → List A → List A
without k xs = take k xs ++ drop (suc k) xs

abbrev pub completion_of : Request → ℤ → Completion
completion_of r res = record { user_data = r.user_data; res = res }

-- how many bytes a completion brings: those of a read
abbrev pub bytes_brought : Request → ℕ
bytes_brought r = if is_read r.kind then r.len else 0

-- A read's buffer is there again: these bytes in its first places, and after them what was kept with the request.
abbrev pub given_back : World → Request → List ℕ → Option (List ℕ) → Option (List (Option (List ℕ)))
given_back w r bytes None = if is_read r.kind then None else Some w.buffers
given_back w r bytes (Some stood) = Some (slice_set w.buffers r.buffer (Some (bytes ++ drop r.len stood)))

abbrev pub completes : World → ℕ → ℤ → Request → List (Option (List ℕ)) → World
completes w k res r buffers = record w {
  pending = without k w.pending;
  completed = w.completed ++ r ∷ [];
  completions = w.completions ++ completion_of r res ∷ [];
  buffers = buffers;
}

abbrev pub kernel_event : World → ℕ → ℤ → Request → Option (List (Option (List ℕ))) → Option (Event × World)
kernel_event w k res r None = None
kernel_event w k res r (Some buffers) = Some (ByKernel (completion_of r res), completes w k res r buffers)

abbrev pub kernel_step_of : World → ℕ → ℤ → List ℕ → Option Pending → Option (Event × World)
kernel_step_of w k res bytes None = None
kernel_step_of w k res bytes (Some p) =
    if may_complete p.request res && nat_eq (length bytes) (bytes_brought p.request) then kernel_event w k res p.request (given_back w p.request bytes p.bytes) else None

-- The k-th pending request completes with a result that it may have, a read with any bytes: the event, and the world
-- after it (io_uring_enter(2)).
abbrev pub kernel_step : World → ℕ → ℤ → List ℕ → Option (Event × World)
kernel_step w k res bytes = kernel_step_of w k res bytes (slice_get w.pending k)

-- ---- the start

abbrev pub start_world : Program → World
start_world program = record {
  program = program;
  controls = start_controls program;
  slot = Closed;
  queued = [];
  pending = [];
  completed = [];
  completions = [];
  made = 0;
  buffers = map (λ (b : Buffer). Some (replicate b.bytes 0)) program.buffers;
}
