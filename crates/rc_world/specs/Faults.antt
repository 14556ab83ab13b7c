-- The faults of a world. Each is read off one world, before the harmful step.
use Rattle.std.specs.Prelude.{ℕ, ◌+◌, Bool, true, false, ◌&&◌, ◌||◌, not, if◌then◌else◌, List, [], ◌∷◌, ◌++◌, drop, length, Option, Some, None, is_none, nat_eq, nat_le, slice_get}
use Rattle.std.specs.List.{list_any}
use Rattle.rc_lang.specs.declared.lines.Line.{Line}
use Rattle.rc_lang.specs.declared.lines.Op.{Op}
use Rattle.rc_lang.specs.declared.lines.Op.TheVariants.{Set, Assign, Add, Subtract, Load, Store, Fill, Print, GetSqe, PrepRead, PrepWrite, PrepFsync, PrepNop, PrepOther, SetData64, Submit, SubmitAndWait, CqeGetData64, CqeSeen}
use Rattle.rc_lang.specs.declared.lines.Stmt.{Stmt}
use Rattle.rc_lang.specs.declared.lines.Stmt.TheVariants.{Do, Put, EndLock, If, Peek, Break}
use Rattle.rc_lang.specs.declared.lines.Test.{Test}
use Rattle.rc_lang.specs.declared.lines.Test.TheVariants.{Compare, ReadyZero, SpaceAtLeast, Take, Any}
use Rattle.rc_lang.specs.declared.request.Kind.{Kind}
use Rattle.rc_lang.specs.declared.request.Kind.TheVariants.{Nop, Fsync, Read, Write, Other}
use Rattle.rc_lang.specs.declared.request.Request.{Request}
use Rattle.rc_lang.specs.Program.{Program, bytes_at}
use Rattle.rc_split.specs.Pools.{all_pooled, overfills}
use Rattle.rc_world.specs.declared.controls.Look.{Look}
use Rattle.rc_world.specs.declared.controls.Look.TheVariants.{Unseen, Peeked, Got}
use Rattle.rc_world.specs.declared.event.Completion.{Completion}
use Rattle.rc_world.specs.declared.fault.Fault.{Fault}
use Rattle.rc_world.specs.declared.fault.FaultKind.{FaultKind}
use Rattle.rc_world.specs.declared.fault.FaultKind.TheVariants.{WriteOfPending, ReadOfFilling, KernelClash, ThreadRace, RingFull, Overflow, AmbiguousData, UnknownReap, NoLock, RawEntry, OutOfBuffer, DoublePut}
use Rattle.rc_world.specs.declared.fault.Party.TheVariants.{At, InKernel}
use Rattle.rc_world.specs.declared.world.Slot.{Slot}
use Rattle.rc_world.specs.declared.world.Slot.TheVariants.{Closed, Vacant, Prepared}
use Rattle.rc_world.specs.Controls.{Standing, list_here, next_line}
use Rattle.rc_world.specs.Machine.{Pending, World, is_read, used_entries}

abbrev pub is_holder : Option ℕ → ℕ → Bool
is_holder None i = false
is_holder (Some j) i = nat_eq j i

-- The thread holds the lock of the submission side, that of the completion side, both.
abbrev pub has_sq : World → ℕ → Bool
has_sq w i = is_holder w.controls.holders.sq i

abbrev pub has_cq : World → ℕ → Bool
has_cq w i = is_holder w.controls.holders.cq i

abbrev pub has_both_locks : World → ℕ → Bool
has_both_locks w i = has_sq w i && has_cq w i

abbrev pub is_closed : Slot → Bool
is_closed Closed = true
is_closed _ = false

abbrev pub is_vacant : Slot → Bool
is_vacant Vacant = true
is_vacant _ = false

abbrev pub is_prepared : Slot → Bool
is_prepared (Prepared r) = true
is_prepared _ = false

-- ---- buffers

-- A read or a write names its buffer.
abbrev pub has_buffer : Kind → Bool
has_buffer Nop = false
has_buffer Fsync = false
has_buffer Read = true
has_buffer Write = true
has_buffer Other = false

abbrev pub names : ℕ → Request → Bool
names b r = has_buffer r.kind && nat_eq r.buffer b

-- A read fills its buffer.
abbrev pub reads_into : ℕ → Request → Bool
reads_into b r = is_read r.kind && nat_eq r.buffer b

-- a pending request names the buffer; a pending read does
abbrev pub is_named : List Pending → ℕ → Bool
is_named ps b = list_any (λ (p : Pending). names b p.request) ps

abbrev pub is_filling : List Pending → ℕ → Bool
is_filling ps b = list_any (λ (p : Pending). reads_into b p.request) ps

-- What a statement does with a buffer.
pub record Access : Type 0 where
  pub buffer : ℕ
  pub writes : Bool

abbrev pub access_by : Op → Option Access
access_by (Load x b i) = Some (record { buffer = b; writes = false })
access_by (Store b i x) = Some (record { buffer = b; writes = true })
access_by (Fill b x) = Some (record { buffer = b; writes = true })
access_by _ = None

abbrev pub access_of : Stmt → Option Access
access_of (Do op) = access_by op
access_of _ = None

-- F1: a store or a fill is next, of a buffer that a pending request names.
abbrev pub writes_pending : List Pending → Option Access → Bool
writes_pending ps None = false
writes_pending ps (Some a) = a.writes && is_named ps a.buffer

-- F2: a load is next, of a buffer that a pending read fills.
abbrev pub reads_filling : List Pending → Option Access → Bool
reads_filling ps None = false
reads_filling ps (Some a) = not a.writes && is_filling ps a.buffer

-- F3: two pending requests name one buffer, and one of them is a read.
abbrev pub clash : Request → Request → Bool
clash r s = has_buffer r.kind && names r.buffer s && (is_read r.kind || is_read s.kind)

abbrev pub clashes_with : Request → List Pending → Bool
clashes_with r ps = list_any (λ (p : Pending). clash r p.request) ps

abbrev pub clashes : List Pending → Bool
clashes [] = false
clashes (p ∷ ps) = clashes_with p.request ps || clashes ps

-- F4: two threads have the same buffer next, and one of them writes it.
abbrev pub conflicts : Option Access → Option Access → Bool
conflicts (Some a) (Some b) = nat_eq a.buffer b.buffer && (a.writes || b.writes)
conflicts _ _ = false

abbrev pub access_at : Option Line → Option Access
access_at None = None
access_at (Some l) = access_of l.stmt

abbrev pub races_from : World → Option Access → ℕ → List Standing → Bool
races_from w a j [] = false
races_from w a j (t ∷ ts) = conflicts a (access_at (next_line w.program w.controls j)) || races_from w a (j + 1) ts

abbrev pub races : World → ℕ → Option Access → Bool
races w i a = races_from w a (i + 1) (drop (i + 1) w.controls.threads)

-- F11: a load or a store is next past the end of its buffer, or a prep of more bytes than its buffer has.
abbrev pub op_is_out : Program → Op → Bool
op_is_out program (Load x b i) = nat_le (bytes_at program.buffers b) i
op_is_out program (Store b i x) = nat_le (bytes_at program.buffers b) i
op_is_out program (PrepRead fd b len off) = not (nat_le len (bytes_at program.buffers b))
op_is_out program (PrepWrite fd b len off k) = not (nat_le len (bytes_at program.buffers b))
op_is_out program _ = false

abbrev pub is_out_at : Program → Stmt → Bool
is_out_at program (Do op) = op_is_out program op
is_out_at program _ = false

-- ---- rings

-- how many of the requests have this user data
abbrev pub count_of : ℕ → List Request → ℕ
count_of u [] = 0
count_of u (r ∷ rs) = (if nat_eq r.user_data u then 1 else 0) + count_of u rs

abbrev pub has_data : ℕ → Request → Bool
has_data u r = nat_eq r.user_data u

-- A request with this user data is queued, pending, or completed and not reaped.
abbrev pub is_in_flight : World → ℕ → Bool
is_in_flight w u = list_any (has_data u) w.queued || list_any (λ (p : Pending). has_data u p.request) w.pending || list_any (has_data u) w.completed

-- The front completion is that of exactly one completed, unreaped request.
abbrev pub front_is_one : World → List Completion → Bool
front_is_one w [] = false
front_is_one w (c ∷ cs) = nat_eq (count_of c.user_data w.completed) 1

-- The front completion is peeked and that of exactly one such request, or it is got.
abbrev pub front_is_known : World → Look → List Completion → Bool
front_is_known w Unseen cs = false
front_is_known w Peeked cs = front_is_one w cs
front_is_known w Got [] = false
front_is_known w Got (c ∷ cs) = true

-- F5: the next of who has the submission side is `get_sqe`, and no entry is free (io_uring_get_sqe(3)).
abbrev pub is_full_at : World → Stmt → Bool
is_full_at w (Do GetSqe) = nat_le w.program.entries (used_entries w)
is_full_at w _ = false

-- F7: the next of who has the submission side is `set_data64 U` on a prepared entry, and a request in flight has that
-- user data.
abbrev pub is_ambiguous_at : World → Stmt → Bool
is_ambiguous_at w (Do (SetData64 u)) = is_prepared w.slot && is_in_flight w u
is_ambiguous_at w _ = false

-- F8: the next of who has the completion side is `cqe_seen` or `cqe_get_data64`, and nothing is peeked, or the front
-- isn't got and isn't that of exactly one request.
abbrev pub is_unknown_at : World → Stmt → Bool
is_unknown_at w (Do CqeGetData64) = not (front_is_known w w.controls.look w.completions)
is_unknown_at w (Do CqeSeen) = not (front_is_known w w.controls.look w.completions)
is_unknown_at w _ = false

-- F9: a call is next of a thread that hasn't the lock of its side. Calls on the pool without a name are of both sides,
-- and those on a pool with a name of none.
abbrev pub is_sq_op : Op → Bool
is_sq_op (Set x n) = false
is_sq_op (Assign x y) = false
is_sq_op (Add x y z) = false
is_sq_op (Subtract x y z) = false
is_sq_op (Load x b i) = false
is_sq_op (Store b i x) = false
is_sq_op (Fill b x) = false
is_sq_op (Print x) = false
is_sq_op CqeGetData64 = false
is_sq_op CqeSeen = false
is_sq_op _ = true

abbrev pub is_sq_test : Test → Bool
is_sq_test (Compare x comparison n) = false
is_sq_test ReadyZero = true
is_sq_test (SpaceAtLeast n) = true
is_sq_test (Take pool k) = is_none pool
is_sq_test Any = false

abbrev pub is_sq_call : Stmt → Bool
is_sq_call (Do op) = is_sq_op op
is_sq_call (Put pool k) = is_none pool
is_sq_call (If test) = is_sq_test test
is_sq_call _ = false

abbrev pub is_cq_call : Stmt → Bool
is_cq_call (Do CqeGetData64) = true
is_cq_call (Do CqeSeen) = true
is_cq_call (Put pool k) = is_none pool
is_cq_call (If (Take pool k)) = is_none pool
is_cq_call (Peek x) = true
is_cq_call _ = false

abbrev pub lacks_lock : World → ℕ → Stmt → Bool
lacks_lock w i s = (is_sq_call s && not (has_sq w i)) || (is_cq_call s && not (has_cq w i))

-- F10: the next of who has the submission side wants the open entry in another stage.
abbrev pub op_is_raw : Slot → Op → Bool
op_is_raw s GetSqe = not (is_closed s)
op_is_raw s (PrepRead fd b len off) = not (is_vacant s)
op_is_raw s (PrepWrite fd b len off k) = not (is_vacant s)
op_is_raw s (PrepFsync fd datasync) = not (is_vacant s)
op_is_raw s PrepNop = not (is_vacant s)
op_is_raw s PrepOther = not (is_vacant s)
op_is_raw s (SetData64 u) = not (is_prepared s)
op_is_raw s (Submit x) = not (is_closed s)
op_is_raw s (SubmitAndWait x n) = not (is_closed s)
op_is_raw s _ = false

abbrev pub is_raw_at : Slot → Stmt → Bool
is_raw_at s (Do op) = op_is_raw s op
is_raw_at s (EndLock o released) = released.sq && not (is_closed s)
is_raw_at s (Break o releases leaves) = releases.sq && not (is_closed s)
is_raw_at s _ = false

-- F6: a request is pending, and the completion ring has no room (io_uring(7)).
abbrev pub overflows : World → List Pending → Bool
overflows w [] = false
overflows w (p ∷ ps) = nat_le w.program.completion_entries (length w.completions)

-- F12: a put is next of items that the pools together have no room for: some of them are there already. It is a put to
-- a pool with a name, or that of who has both sides.
abbrev pub may_put : World → ℕ → Option ℕ → Bool
may_put w i None = has_both_locks w i
may_put w i (Some n) = true

abbrev pub is_double_at : World → ℕ → Stmt → Bool
is_double_at w i (Put pool k) = may_put w i pool && overfills w.program (all_pooled w.program w.controls.pools) (list_here w.program w.controls i k)
is_double_at w i _ = false

-- ---- all of them

-- the fault of this kind at thread i, whose next statement is this
abbrev pub has_fault : World → FaultKind → ℕ → Stmt → Bool
has_fault w WriteOfPending i s = writes_pending w.pending (access_of s)
has_fault w ReadOfFilling i s = reads_filling w.pending (access_of s)
has_fault w KernelClash i s = false
has_fault w ThreadRace i s = races w i (access_of s)
has_fault w RingFull i s = has_sq w i && is_full_at w s
has_fault w Overflow i s = false
has_fault w AmbiguousData i s = has_sq w i && is_ambiguous_at w s
has_fault w UnknownReap i s = has_cq w i && is_unknown_at w s
has_fault w NoLock i s = lacks_lock w i s
has_fault w RawEntry i s = has_sq w i && is_raw_at w.slot s
has_fault w OutOfBuffer i s = is_out_at w.program s
has_fault w DoublePut i s = is_double_at w i s

-- the fault of this kind in the kernel
abbrev pub in_kernel : World → FaultKind → Bool
in_kernel w KernelClash = clashes w.pending
in_kernel w Overflow = overflows w w.pending
in_kernel w _ = false

abbrev pub kernel_faults : World → FaultKind → List Fault
kernel_faults w kind = if in_kernel w kind then record { kind = kind; party = InKernel } ∷ [] else []

-- the faults of this kind that thread i has
abbrev pub fault_at : World → FaultKind → ℕ → Option Line → List Fault
fault_at w kind i None = []
fault_at w kind i (Some l) = if has_fault w kind i l.stmt then record { kind = kind; party = At i l.number } ∷ [] else []

-- the faults of this kind at the threads from number i on
abbrev pub faults_from : World → FaultKind → ℕ → List Standing → List Fault
faults_from w kind i [] = []
faults_from w kind i (t ∷ ts) = fault_at w kind i (next_line w.program w.controls i) ++ faults_from w kind (i + 1) ts

abbrev pub faults_of : World → FaultKind → List Fault
faults_of w kind = kernel_faults w kind ++ faults_from w kind 0 w.controls.threads

-- all faults of a world, by their numbers and then by their threads
abbrev pub all_kinds : List FaultKind
all_kinds = WriteOfPending ∷ ReadOfFilling ∷ KernelClash ∷ ThreadRace ∷ RingFull ∷ Overflow ∷ AmbiguousData ∷ UnknownReap ∷ NoLock ∷ RawEntry ∷ OutOfBuffer ∷ DoublePut ∷ []

abbrev pub faults_by : World → List FaultKind → List Fault
faults_by w [] = []
faults_by w (kind ∷ kinds) = faults_of w kind ++ faults_by w kinds

abbrev pub faults : World → List Fault
faults w = faults_by w all_kinds

-- the least fault of a world
abbrev pub fault_of : World → Option Fault
fault_of w = slice_get (faults w) 0
