-- When a log is followed: a weak run of the program makes each line of it, with nothing but hidden steps in between.
use Rattle.std.specs.Prelude.{ℕ, ◌≡◌, ◌⊎◌, ◌+◌, ◌-◌, ◌^◌, Bool, true, false, ◌&&◌, ◌||◌, not, if◌then◌else◌, min, List, [], ◌∷◌, length, position, replicate, Option, Some, None, nat_eq, slice_get, slice_index_or, slice_set, ℤ, pos, negsuc}
use Rattle.std.specs.List.{list_any}
use Rattle.std.specs.Ordering.{int_eq}
use Rattle.rc_lang.specs.declared.lines.Line.{Line}
use Rattle.rc_lang.specs.declared.lines.Locks.{Locks}
use Rattle.rc_lang.specs.declared.lines.Op.TheVariants as op
use Rattle.rc_lang.specs.declared.lines.Stmt.{Stmt}
use Rattle.rc_lang.specs.declared.lines.Stmt.TheVariants as stmt
use Rattle.rc_lang.specs.declared.lines.Test.TheVariants as test
use Rattle.rc_lang.specs.declared.program.Share.{Share}
use Rattle.rc_lang.specs.declared.request.Request.{Request}
use Rattle.rc_lang.specs.Requests.{largest}
use Rattle.rc_lang.specs.Program.{Items, Program, items_at, lists_of, shares_at, token_place}
use Rattle.rc_log.specs.declared.call.Call.{Call}
use Rattle.rc_log.specs.declared.call.Call.TheVariants.{GetSqe, PrepRead, PrepWrite, PrepFsync, PrepNop, PrepOther, SetData64, Submit, Peek, PeekNone, CqeSeen, SqReady, SqSpaceLeft, Exit, Lock, Unlock, Reads, Writes, Put, Take, Ends}
use Rattle.rc_log.specs.declared.call.Said.{Said}
use Rattle.rc_world.specs.declared.controls.Holders.{Holders}
use Rattle.rc_world.specs.declared.event.Action.{Action}
use Rattle.rc_world.specs.declared.event.Action.TheVariants as action
use Rattle.rc_world.specs.declared.event.Completion.{Completion}
use Rattle.rc_world.specs.declared.event.Event.{Event}
use Rattle.rc_world.specs.declared.event.Event.TheVariants.{ByThread, ByKernel}
use Rattle.rc_world.specs.Controls.{are_free, held_by, next_line, nobody}
use Rattle.rc_world.specs.Faults.{is_holder}
use Rattle.rc_world.specs.Machine.{World, start_world, used_entries}
use Rattle.rc_world.specs.WeakRuns.{IsWeakStep}
use Rattle.rc_follow.specs.Rights.{HasShares}

-- ---- what the log says beside the world

-- Who has each mutex of the C program, whether the program has one thread and no mutex was locked yet, the largest result
-- that the open entry can have there, if it isn't a nop or an fsync, and of each declared token that of its last request.
pub record Noted : Type 0 where
  pub mutexes : Holders
  pub alone : Bool
  pub entry : Option ℕ
  pub lengths : List (Option ℕ)

abbrev pub start_noted : Program → Noted
start_noted P = record { mutexes = nobody; alone = nat_eq (length P.threads) 1; entry = None; lengths = replicate (length P.tokens) None }

-- the largest of C's int
abbrev pub most_of_int : ℕ
most_of_int = 2 ^ 31 - 1

abbrev pub names_open : Noted → Option ℕ → Noted
names_open n None = n
names_open n (Some k) = record n { lengths = slice_set n.lengths k n.entry }

-- after a call of a thread
abbrev pub noted_call : Program → Noted → ℕ → Call → Noted
noted_call P n i (PrepRead file b len) = record n { entry = Some len }
noted_call P n i (PrepWrite file b len) = record n { entry = Some len }
noted_call P n i (PrepFsync file datasync) = record n { entry = None }
noted_call P n i PrepNop = record n { entry = None }
noted_call P n i PrepOther = record n { entry = Some most_of_int }
noted_call P n i (SetData64 u) = names_open n (token_place P.tokens u)
noted_call P n i (Lock wanted) = record n { mutexes = held_by (Some i) wanted n.mutexes; alone = false }
noted_call P n i (Unlock released) = record n { mutexes = held_by None released n.mutexes }
noted_call P n i _ = n

abbrev pub noted_of : Program → Noted → Option ℕ → Call → Noted
noted_of P n None call = n
noted_of P n (Some i) call = noted_call P n i call

abbrev pub noted_line : Program → Noted → Said → Noted
noted_line P n l = noted_of P n l.thread l.call

-- the thread has all these mutexes
abbrev pub has_mutexes : Noted → ℕ → Locks → Bool
has_mutexes n i wanted = (not wanted.sq || is_holder n.mutexes.sq i) && (not wanted.cq || is_holder n.mutexes.cq i)

-- ---- hidden steps

abbrev pub is_empty : List Request → Bool
is_empty [] = true
is_empty (r ∷ rs) = false

-- A thread takes a lock only where the log has it in the mutexes. The only thread of a program may take it before: a C
-- program without a mutex is logged as one that locks it before its first call, and marks may come before that.
abbrev pub may_lock : Noted → ℕ → Locks → Bool
may_lock n i wanted = has_mutexes n i wanted || n.alone

-- A submit takes nothing where nothing is queued. Of the other calls a peek that finds nothing is a hidden step, and so is
-- `cqe_get_data64`, which no log has.
abbrev pub is_hidden_action : Noted → World → ℕ → Action → Bool
is_hidden_action n w i (action.Locked wanted) = may_lock n i wanted
is_hidden_action n w i (action.Submitted r) = int_eq r (pos 0) && is_empty w.queued
is_hidden_action n w i action.EntryOpened = false
is_hidden_action n w i action.ReadPrepared = false
is_hidden_action n w i action.WritePrepared = false
is_hidden_action n w i action.FsyncPrepared = false
is_hidden_action n w i action.NopPrepared = false
is_hidden_action n w i action.OtherPrepared = false
is_hidden_action n w i (action.DataSet u) = false
is_hidden_action n w i (action.Peeked c) = false
is_hidden_action n w i (action.Reaped u) = false
is_hidden_action n w i (action.VariableSet v) = true
is_hidden_action n w i (action.Loaded b) = true
is_hidden_action n w i (action.Stored b) = true
is_hidden_action n w i (action.Filled b) = true
is_hidden_action n w i (action.Printed v) = true
is_hidden_action n w i (action.Released released) = true
is_hidden_action n w i action.PeekedNone = true
is_hidden_action n w i (action.DataGot u) = true
is_hidden_action n w i (action.Branched b) = true
is_hidden_action n w i action.Looped = true
is_hidden_action n w i action.LoopLeft = true
is_hidden_action n w i action.ItemsPut = true

-- The kernel's steps are hidden.
abbrev pub is_hidden : Noted → World → Event → Bool
is_hidden n w (ByThread i line a) = is_hidden_action n w i a
is_hidden n w (ByKernel c) = true

-- Hidden steps lead from one world to the other.
abbrev pub Hides : Noted → World → List Event → World → Type 0
Hides n w [] after = w ≡ after
Hides n w (e ∷ es) after = (next : World) × IsWeakStep w e next × (is_hidden n w e ≡ true) × Hides n next es after

-- ---- lines that are steps

-- C's result as one of the model. C's is at most `len`, and the model's at most `most`: all stays all, some stays some, and
-- none stays none. Where these are the same, or one isn't known, the result stays as it is.
abbrev pub scaled_count : (len most r : ℕ) → ℕ
scaled_count len most r =
    if nat_eq r 0 || nat_eq len most then r else if nat_eq r len then most else min r (most - 1)

abbrev pub scaled : Option ℕ → (most : ℕ) → ℤ → ℤ
scaled None most r = r
scaled (Some len) most (pos r) = pos (scaled_count len most r)
scaled (Some len) most (negsuc e) = negsuc e

-- the largest result of the first of these requests that has the user data
abbrev pub most_in : Option Request → ℕ
most_in None = 0
most_in (Some r) = largest r.len r.kind

abbrev pub most_at : List Request → Option ℕ → ℕ
most_at rs None = 0
most_at rs (Some k) = most_in (slice_get rs k)

abbrev pub most_of : ℕ → List Request → ℕ
most_of u rs = most_at rs (position (λ (r : Request). nat_eq r.user_data u) rs)

abbrev pub length_at : Noted → Option ℕ → Option ℕ
length_at n None = None
length_at n (Some k) = slice_index_or n.lengths k None

-- what the text's peek finds, where C's finds this
abbrev pub scaled_peek : Noted → World → ℕ → ℤ → Completion
scaled_peek n w u r =
    record { user_data = u; res = scaled (length_at n (token_place w.program.tokens u)) (most_of u w.completed) r }

abbrev pub same_completion : Completion → Completion → Bool
same_completion c d = nat_eq c.user_data d.user_data && int_eq c.res d.res

-- the statement's file and buffer are these; whether of data alone; the pool has this number
abbrev pub is_read_of : (file b : ℕ) → Stmt → Bool
is_read_of file b (stmt.Do (op.PrepRead f c len off)) = nat_eq f file && nat_eq c b
is_read_of file b _ = false

abbrev pub is_write_of : (file b : ℕ) → Stmt → Bool
is_write_of file b (stmt.Do (op.PrepWrite f c len off k)) = nat_eq f file && nat_eq c b
is_write_of file b _ = false

abbrev pub same_bool : Bool → Bool → Bool
same_bool true b = b
same_bool false b = not b

abbrev pub is_fsync_of : ℕ → Bool → Stmt → Bool
is_fsync_of file datasync (stmt.Do (op.PrepFsync f d)) = nat_eq f file && same_bool d datasync
is_fsync_of file datasync _ = false

abbrev pub is_put_into : ℕ → Stmt → Bool
is_put_into pool (stmt.Put (Some p) k) = nat_eq p pool
is_put_into pool _ = false

abbrev pub is_take_from : ℕ → Stmt → Bool
is_take_from pool (stmt.If (test.Take (Some p) k)) = nat_eq p pool
is_take_from pool _ = false

-- The call is what the statement did. Lengths of transfers and offsets aren't compared.
abbrev pub fits_action : Noted → World → Call → Stmt → Action → Bool
fits_action n w GetSqe s action.EntryOpened = true
fits_action n w (PrepRead file b len) s action.ReadPrepared = is_read_of file b s
fits_action n w (PrepWrite file b len) s action.WritePrepared = is_write_of file b s
fits_action n w (PrepFsync file datasync) s action.FsyncPrepared = is_fsync_of file datasync s
fits_action n w PrepNop s action.NopPrepared = true
fits_action n w PrepOther s action.OtherPrepared = true
fits_action n w (SetData64 u) s (action.DataSet v) = nat_eq u v
fits_action n w (Submit r) s (action.Submitted v) = int_eq r v
fits_action n w (Peek u r) s (action.Peeked c) = same_completion (scaled_peek n w u r) c
fits_action n w (CqeSeen u) s (action.Reaped v) = nat_eq u v
fits_action n w (Put mark) s action.ItemsPut = is_put_into mark.pool s
fits_action n w (Take mark) s (action.Branched true) = is_take_from mark.pool s
fits_action n w _ s _ = false

-- A call on the ring comes after a mutex was locked; marks of puts and takes are no calls.
abbrev pub may_come : Noted → Call → Bool
may_come n (Put mark) = true
may_come n (Take mark) = true
may_come n _ = not n.alone

abbrev pub fits_event : Noted → World → ℕ → Call → Stmt → Event → Bool
fits_event n w i call s (ByThread j line a) = nat_eq i j && may_come n call && fits_action n w call s a
fits_event n w i call s (ByKernel c) = false

abbrev pub fits : Noted → World → ℕ → Call → Option Line → Event → Bool
fits n w i call None e = false
fits n w i call (Some l) e = fits_event n w i call l.stmt e

-- Of the buffer that a mark of a pool names, if it names one, a share is among these items.
abbrev pub has_named : Option ℕ → Items → Bool
has_named None items = true
has_named (Some b) items = list_any (λ (s : Share). nat_eq s.buffer b) items.shares

-- It is among those that the thread's statement puts or takes.
abbrev pub moves_named : Program → ℕ → Call → Stmt → Bool
moves_named P i (Put mark) (stmt.Put pool k) = has_named mark.buffer (items_at (lists_of P i) k)
moves_named P i (Take mark) (stmt.If (test.Take pool k)) = has_named mark.buffer (items_at (lists_of P i) k)
moves_named P i _ s = true

abbrev pub names_right : Program → ℕ → Call → Option Line → Bool
names_right P i call None = true
names_right P i call (Some l) = moves_named P i call l.stmt

-- A step of the thread is the call.
abbrev pub Calls : Noted → World → ℕ → Call → World → Type 0
Calls n w i call after =
    (e : Event) × IsWeakStep w e after × (fits n w i call (next_line w.program w.controls i) e ≡ true)
    × (names_right w.program i call (next_line w.program w.controls i) ≡ true)

-- ---- lines that change nothing in the world

abbrev pub sq_alone : Locks
sq_alone = record { sq = true; cq = false }

abbrev pub cq_alone : Locks
cq_alone = record { sq = false; cq = true }

-- the thread has none of these locks of the text
abbrev pub holds_none : World → ℕ → Locks → Bool
holds_none w i released = not (released.sq && is_holder w.controls.holders.sq i) && not (released.cq && is_holder w.controls.holders.cq i)

-- how many requests submits took whose completions aren't taken away
abbrev pub requests_out : World → ℕ
requests_out w = length w.pending + length w.completions

abbrev pub Asks : Program → Noted → World → ℕ → Call → Type 0
Asks P n w i PeekNone = (has_mutexes n i cq_alone ≡ true)
Asks P n w i (SqReady k) = (has_mutexes n i sq_alone ≡ true) × (used_entries w ≡ k)
Asks P n w i SqSpaceLeft = (has_mutexes n i sq_alone ≡ true)
Asks P n w i (Exit k) = requests_out w ≡ k
Asks P n w i (Submit r) = (has_mutexes n i sq_alone ≡ true) × (r ≡ pos 0) × (w.queued ≡ [])
Asks P n w i (Lock wanted) = (are_free wanted n.mutexes ≡ true)
Asks P n w i (Unlock released) = (has_mutexes n i released ≡ true) × (holds_none w i released ≡ true)
Asks P n w i (Reads b) = HasShares P w i b 1
Asks P n w i (Writes b) = HasShares P w i b (shares_at P.buffers b)
Asks P n w i Ends = next_line w.program w.controls i ≡ None
Asks P n w i _ = ⊥

-- ---- a log

-- The line is a step of its thread, or asks.
abbrev pub Says : Program → Noted → World → ℕ → Call → World → Type 0
Says P n w i call after = Calls n w i call after ⊎ (Asks P n w i call × (w ≡ after))

-- The line is this thread's. A ring may also be ended by a thread that the program hasn't.
abbrev pub is_exit : Call → Bool
is_exit (Exit k) = true
is_exit _ = false

abbrev pub IsBy : Said → ℕ → Type 0
IsBy l i = (l.thread ≡ Some i) ⊎ (is_exit l.call ≡ true)

-- The lines, one after another, with hidden steps before and after each.
abbrev pub Goes : Program → Noted → World → List Said → World → Type 0
Goes P n w [] after = (es : List Event) × Hides n w es after
Goes P n w (l ∷ ls) after =
    (es : List Event) × (before : World) × Hides n w es before
    × (i : ℕ) × IsBy l i × (next : World) × Says P n before i l.call next
    × Goes P (noted_line P n l) next ls after

-- Such lines are followed in the program.
abbrev pub IsFollowed : Program → List Said → Type 0
IsFollowed P ls = (after : World) × Goes P (start_noted P) (start_world P) ls after
