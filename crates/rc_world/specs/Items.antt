-- The items of a schedule: which are enabled, and which step each names.
use Rattle.std.specs.Prelude.{ℕ, Bool, true, false, ◌&&◌, ◌||◌, if◌then◌else◌, List, [], ◌++◌, drop, length, replicate, take, Option, Some, None, nat_eq, position, slice_get, ℤ, pos}
use Rattle.rc_lang.specs.declared.lines.Line.{Line}
use Rattle.rc_lang.specs.declared.lines.Op.TheVariants.{Submit, SubmitAndWait}
use Rattle.rc_lang.specs.declared.lines.Stmt.{Stmt}
use Rattle.rc_lang.specs.declared.lines.Stmt.TheVariants.{Do, If, Lock, Else, EndIf, Case, Other, Nothing, EndArm, EndPeek}
use Rattle.rc_lang.specs.declared.lines.Test.TheVariants.{Any}
use Rattle.rc_lang.specs.Program.{Program}
use Rattle.rc_lang.specs.Requests.{may_complete}
use Rattle.rc_world.specs.declared.controls.Holders.{Holders}
use Rattle.rc_world.specs.declared.controls.Next.{Next}
use Rattle.rc_world.specs.declared.controls.Next.TheVariants.{Ready, TakenLock, Ended}
use Rattle.rc_world.specs.declared.event.Event.{Event}
use Rattle.rc_world.specs.declared.event.Item.{Item}
use Rattle.rc_world.specs.declared.event.Item.TheVariants.{Thread, Kernel}
use Rattle.rc_world.specs.Controls.{Controls, are_free, next_line}
use Rattle.rc_world.specs.Faults.{has_data}
use Rattle.rc_world.specs.Machine.{Pending, World, count_in, is_read, kernel_step, may_be_given, thread_step}

-- What a thread has next: a lock is taken where somebody holds one of those that it wants. Lines that are no events are
-- nothing to have next, and no thread of a run is at one (the law NoHiddenHarm).
abbrev pub ready_or_taken : Holders → Line → Stmt → Next
ready_or_taken h l (Else o) = Ended
ready_or_taken h l (EndIf o) = Ended
ready_or_taken h l (Case o u) = Ended
ready_or_taken h l (Other o) = Ended
ready_or_taken h l (Nothing o) = Ended
ready_or_taken h l (EndArm o) = Ended
ready_or_taken h l (EndPeek o) = Ended
ready_or_taken h l (Lock wanted) = if are_free wanted h then Ready l else TakenLock wanted
ready_or_taken h l _ = Ready l

abbrev pub next_by : Holders → Option Line → Next
next_by h None = Ended
next_by h (Some l) = ready_or_taken h l l.stmt

abbrev pub next_of : Program → Controls → ℕ → Next
next_of program c i = next_by c.holders (next_line program c i)

-- A thread's item is enabled where it has a next that isn't a taken lock; a number comes only with a submit or a free
-- choice, and is one that these may be given.
abbrev pub is_given : Stmt → Bool
is_given (Do (Submit x)) = true
is_given (Do (SubmitAndWait x n)) = true
is_given (If Any) = true
is_given _ = false

abbrev pub takes : World → Option ℤ → Stmt → Bool
takes w None s = true
takes w (Some r) s = is_given s && may_be_given w r s

abbrev pub is_ready : World → Option ℤ → Next → Bool
is_ready w take (Ready l) = takes w take l.stmt
is_ready w take _ = false

-- the place of a user data among the pending requests
abbrev pub pending_place : World → ℕ → Option ℕ
pending_place w u = position (λ (p : Pending). has_data u p.request) w.pending

abbrev pub pending_at : World → Option ℕ → Option Pending
pending_at w None = None
pending_at w (Some k) = slice_get w.pending k

-- The kernel's item is enabled where a request with that user data is pending and may have that result. A fill byte
-- other than 0 belongs to a read.
abbrev pub kernel_may : ℤ → ℕ → Option Pending → Bool
kernel_may res fill None = false
kernel_may res fill (Some p) = may_complete p.request res && (nat_eq fill 0 || is_read p.request.kind)

abbrev pub is_enabled : World → Item → Bool
is_enabled w (Thread i take) = is_ready w take (next_of w.program w.controls i)
is_enabled w (Kernel u res fill) = kernel_may res fill (pending_at w (pending_place w u))

-- The step that an item names: a submit without an answer takes all that is queued, a free choice without a number the
-- first branch, and of a read's bytes the first that the result counts are the fill byte, and the others stay.
abbrev pub usual : World → Stmt → ℤ
usual w (If Any) = pos 1
usual w _ = pos (length w.queued)

abbrev pub given : World → Option ℤ → Stmt → ℤ
given w None s = usual w s
given w (Some r) s = r

abbrev pub given_at : World → Option ℤ → Option Line → ℤ
given_at w take None = pos 0
given_at w take (Some l) = given w take l.stmt

abbrev pub filled : (count fill len : ℕ) → Option (List ℕ) → List ℕ
filled count fill len None = []
filled count fill len (Some stood) = replicate count fill ++ drop count (take len stood)

abbrev pub item_bytes : ℤ → ℕ → Option Pending → List ℕ
item_bytes res fill None = []
item_bytes res fill (Some p) = if is_read p.request.kind then filled (count_in res) fill p.request.len p.bytes else []

abbrev pub kernel_item : World → ℤ → ℕ → Option ℕ → Option (Event × World)
kernel_item w res fill None = None
kernel_item w res fill (Some k) = kernel_step w k res (item_bytes res fill (slice_get w.pending k))

abbrev pub item_step : World → Item → Option (Event × World)
item_step w (Thread i take) = thread_step w i (given_at w take (next_line w.program w.controls i))
item_step w (Kernel u res fill) = kernel_item w res fill (pending_place w u)
