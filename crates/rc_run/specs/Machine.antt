-- The world that a machine's parts stand for.
use Rattle.std.specs.Prelude.{ℕ, ◌≡◌, ◌+◌, ◌≤◌, Bool, false, if◌then◌else◌, List, [], ◌∷◌, ◌++◌, map, Option, Some, None, ℤ, pos, negsuc, min, length, take, drop, slice_get, slice_set}
use Rattle.std.specs.Arc.{arc_value}
use Rattle.std.specs.Ordering.{int_eq}
use Rattle.rc_world.specs.declared.controls.Answer.{Answer}
use Rattle.rc_world.specs.declared.event.Event.{Event}
use Rattle.rc_lang.specs.declared.lines.Op.{Op}
use Rattle.rc_lang.specs.declared.lines.Op.TheVariants.{GetSqe, PrepRead, PrepWrite, PrepFsync, PrepNop, PrepOther, SetData64, Submit, SubmitAndWait}
use Rattle.rc_lang.specs.declared.lines.Line.{Line}
use Rattle.rc_lang.specs.declared.lines.Stmt.{Stmt}
use Rattle.rc_lang.specs.declared.lines.Stmt.TheVariants.{Do, If}
use Rattle.rc_lang.specs.declared.lines.Test.TheVariants.{Any}
use Rattle.rc_lang.specs.declared.request.Request.{Request}
use Rattle.rc_world.specs.declared.world.Slot.{Slot}
use Rattle.rc_world.specs.declared.world.Slot.TheVariants.{Closed}
use Rattle.std.specs.Global.{Vec}
use Rattle.std.specs.Vec.{vec_capacity, vec_len}
use Rattle.rc_run.specs.Held.{AreDistinct}
use Rattle.rc_run.specs.Requests.{data_of}
use Rattle.rc_world.specs.Changes.{standing_at}
use Rattle.rc_world.specs.Controls.{Controls, controls_step, next_line}
use Rattle.rc_world.specs.Machine.{Pending, World, bytes_brought, bytes_of, fills, gets_front, in_rings, kernel_step, reaps_front, stores, thread_step}
use Rattle.rc_world.specs.WorldParts.{view_bytes}
use Rattle.rc_run.specs.declared.machine.Machine.{Machine}
use Rattle.rc_run.specs.declared.machine.Pending.{Pending as PendingPart}

abbrev pub pending_of : PendingPart → Pending
pending_of p = record { request = p.request; bytes = view_bytes p.bytes }

abbrev pub world_of : Machine → World
world_of m = record {
  program = arc_value m.admitted;
  controls = m.controls;
  slot = m.ring.slot;
  queued = m.ring.queued;
  pending = map pending_of m.pending.items;
  completed = m.completed.items;
  completions = m.ring.completions;
  made = m.ring.made;
  buffers = map view_bytes m.buffers.items;
}

-- The ring has the entries of the program.
pub record IsSized (m : Machine) : Type 0 where
  pub entries : m.ring.entries ≡ (arc_value m.admitted).entries
  pub completion_entries : m.ring.completion_entries ≡ (arc_value m.admitted).completion_entries

-- What a submit that is granted this answers: no more than is queued, or the errno.
abbrev pub submit_answer : World → ℤ → ℤ
submit_answer w (pos n) = pos (min n (length w.queued))
submit_answer w (negsuc n) = negsuc n

-- What a turn with this take gives to the step of a statement: to a free choice 0 for 0, and 1 for any other take; else
-- what a submit answers.
abbrev pub given_by_take : World → ℤ → Stmt → ℤ
given_by_take w t (If Any) = if int_eq t (pos 0) then pos 0 else pos 1
given_by_take w t _ = submit_answer w t

abbrev pub given_at_line : World → ℤ → Option Line → ℤ
given_at_line w t None = submit_answer w t
given_at_line w t (Some l) = given_by_take w t l.stmt

abbrev pub given_in_turn : World → ℕ → ℤ → ℤ
given_in_turn w i t = given_at_line w t (next_line w.program w.controls i)

-- Whether the open entry is an fsync that asks for fdatasync(2), once a statement is made; before, it was this.
abbrev pub datasync_by_op : Op → Bool → Bool
datasync_by_op GetSqe b = false
datasync_by_op (PrepRead fd buffer len off) b = false
datasync_by_op (PrepWrite fd buffer len off k) b = false
datasync_by_op (PrepFsync fd datasync) b = datasync
datasync_by_op PrepNop b = false
datasync_by_op PrepOther b = false
datasync_by_op (SetData64 u) b = false
datasync_by_op _ b = b

abbrev pub datasync_by : Stmt → Bool → Bool
datasync_by (Do op) b = datasync_by_op op b
datasync_by _ b = b

abbrev pub datasync_after : Option Line → Bool → Bool
datasync_after None b = b
datasync_after (Some line) b = datasync_by line.stmt b

-- A submit finds no open entry.
abbrev pub IsClosedAt : Slot → Stmt → Type 0
IsClosedAt slot (Do (Submit x)) = slot ≡ Closed
IsClosedAt slot (Do (SubmitAndWait x n)) = slot ≡ Closed
IsClosedAt slot _ = Unit {0}

-- No two queued requests have the same user data, nor has one that is to be queued.
abbrev pub IsFreshAt : World → Stmt → Type 0
IsFreshAt w (Do (SetData64 u)) = AreDistinct (data_of w.queued ++ u ∷ [])
IsFreshAt w _ = AreDistinct (data_of w.queued)

-- What each step of a thread leaves: the program, the numbers of entries, and the room for completed requests.
pub record IsSameRest (old new : Machine) : Type 0 where
  pub admitted : new.admitted ≡ old.admitted
  pub sized : IsSized new
  pub completed : vec_len new.completed ≤ vec_len old.completed
  pub room : vec_capacity new.completed ≡ vec_capacity old.completed
  pub made : new.ring.made ≤ old.ring.made + 1

-- The bytes that a request's completion brings, of those of a job: the first ones, for a read.
abbrev pub brought : Request → List ℕ → List ℕ
brought r bytes = take (bytes_brought r) bytes

-- The step of the kernel that a job's result and bytes name.
abbrev pub completed_at : World → ℕ → ℤ → List ℕ → Option Pending → Option (Event × World)
completed_at w k res bytes None = None
completed_at w k res bytes (Some p) = kernel_step w k res (brought p.request bytes)

abbrev pub completed_by : World → ℕ → ℤ → List ℕ → Option (Event × World)
completed_by w k res bytes = completed_at w k res bytes (slice_get w.pending k)

-- The buffers once a request has its bytes given back.
abbrev pub given_to : List (Option (List ℕ)) → Request → List ℕ → Option (List ℕ) → List (Option (List ℕ))
given_to buffers r bytes None = buffers
given_to buffers r bytes (Some stood) = slice_set buffers r.buffer (Some (take r.len bytes ++ drop r.len stood))

-- ---- the calls of a machine

-- what a statement of a thread makes of the rings and the buffers
abbrev pub ring_step : Machine → ℕ → ℤ → Stmt → Option World
ring_step m i taken stmt = in_rings (world_of m) (standing_at m.controls i) taken stmt

abbrev pub store_step : Machine → ℕ → ℕ → ℕ → Option World
store_step m buffer i byte = stores (world_of m) buffer i byte (bytes_of (world_of m) buffer)

abbrev pub fill_step : Machine → ℕ → ℕ → Option World
fill_step m buffer byte = fills (world_of m) buffer byte (bytes_of (world_of m) buffer)

abbrev pub control_step : Machine → ℕ → Answer → Option (Event × Controls)
control_step m i answer = controls_step (arc_value m.admitted) m.controls i answer

-- what getting the front completion's user data makes of the rings
abbrev pub get_step : Machine → Option World
get_step m = gets_front (world_of m) m.ring.completions

-- what taking the front completion away makes of them
abbrev pub reap_step : Machine → Option World
reap_step m = reaps_front (world_of m) m.ring.completions

-- what a result and bytes make of the world, for the pending request at a place
abbrev pub job_step : Machine → ℕ → ℤ → List ℕ → Option (Event × World)
job_step m place res bytes = completed_by (world_of m) place res bytes

-- the next line of a thread
abbrev pub next_line_of : Machine → ℕ → Option Line
next_line_of m i = next_line (arc_value m.admitted) m.controls i

-- A thread makes its step, which is given this: this is its event, and this the machine after it.
abbrev pub Stepped : Machine → ℕ → ℤ → Event → Machine → Type 0
Stepped old i taken e new = thread_step (world_of old) i taken ≡ Some (e, world_of new)

-- It holds of the pending request at this place.
abbrev pub AtPlace : Machine → ℕ → (Pending → Type 0) → Type 0
AtPlace m place Holds = (p : Pending) → slice_get (world_of m).pending place ≡ Some p → Holds p

-- the buffers, as a world has them
abbrev pub views : Vec (Option (Vec ℕ)) → List (Option (List ℕ))
views buffers = map view_bytes buffers.items
