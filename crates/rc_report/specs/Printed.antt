-- The printed forms of events and faults.
use Rattle.std.specs.Prelude.{ℕ, ◌+◌, List, [], ◌∷◌, ◌++◌, codes, true, false, decimal}
use Rattle.std.specs.Fmt.{signed_decimal}
use Rattle.std.specs.List.{flat_map}
use Rattle.rc_lang.specs.Program.{Program}
use Rattle.rc_world.specs.declared.event.Action.{Action}
use Rattle.rc_world.specs.declared.event.Action.TheVariants.{VariableSet, Loaded, Stored, Filled, Printed, Locked, Released, EntryOpened, ReadPrepared, WritePrepared, FsyncPrepared, NopPrepared, OtherPrepared, DataSet, Submitted, Peeked, PeekedNone, DataGot, Reaped, ItemsPut, Branched, Looped, LoopLeft}
use Rattle.rc_world.specs.declared.event.Completion.{Completion}
use Rattle.rc_world.specs.declared.event.Event.{Event}
use Rattle.rc_world.specs.declared.event.Event.TheVariants.{ByThread, ByKernel}
use Rattle.rc_world.specs.declared.fault.Fault.{Fault}
use Rattle.rc_world.specs.declared.fault.Party.{Party}
use Rattle.rc_world.specs.declared.fault.Party.TheVariants.{At, InKernel}
pub use Rattle.rc_text.specs.Names.{buffer_name, name_of_buffer, pool_name, side_text, thread_name}
use Rattle.rc_world.specs.FaultNames.{name_of_fault, number_of_fault}

-- these pieces one after another
abbrev pub joined : List (List ℕ) → List ℕ
joined pieces = flat_map (λ piece. piece) pieces

-- a word, with its blanks, and a value
abbrev pub valued : List ℕ → List ℕ → List ℕ
valued word value = joined (word ∷ value ∷ [])

-- the user data and the result of a completion
abbrev pub completion_text : Completion → List ℕ
completion_text c = joined (decimal c.user_data ∷ codes " " ∷ signed_decimal c.res ∷ [])

-- the words of a step, after a blank
abbrev pub action_text : Action → List ℕ
action_text (VariableSet v) = valued (codes " set ") (signed_decimal v)
action_text (Loaded b) = valued (codes " load ") (decimal b)
action_text (Stored b) = valued (codes " store ") (decimal b)
action_text (Filled b) = valued (codes " fill ") (decimal b)
action_text (Printed v) = valued (codes " print ") (signed_decimal v)
action_text (Locked l) = valued (codes " lock") (side_text l)
action_text (Released l) = valued (codes " release") (side_text l)
action_text EntryOpened = codes " get_sqe"
action_text ReadPrepared = codes " prep_read"
action_text WritePrepared = codes " prep_write"
action_text FsyncPrepared = codes " prep_fsync"
action_text NopPrepared = codes " prep_nop"
action_text OtherPrepared = codes " prep_other"
action_text (DataSet u) = valued (codes " set_data64 ") (decimal u)
action_text (Submitted r) = valued (codes " submit ") (signed_decimal r)
action_text (Peeked c) = valued (codes " peek_cqe ") (completion_text c)
action_text PeekedNone = codes " peek_cqe none"
action_text (DataGot u) = valued (codes " cqe_get_data64 ") (decimal u)
action_text (Reaped u) = valued (codes " cqe_seen ") (decimal u)
action_text ItemsPut = codes " put"
action_text (Branched true) = codes " if yes"
action_text (Branched false) = codes " if no"
action_text Looped = codes " loop"
action_text LoopLeft = codes " break"

-- an event of a thread: its number, where the step is, and its words
abbrev pub thread_line : List ℕ → List ℕ → List ℕ → List ℕ → List ℕ
thread_line number name line words = joined (number ∷ codes " " ∷ name ∷ codes " " ∷ line ∷ words ∷ codes "\n" ∷ [])

-- the n-th event as a line
abbrev pub event_line : Program → ℕ → Event → List ℕ
event_line program n (ByThread i line a) = thread_line (decimal n) (thread_name program i) (decimal line) (action_text a)
event_line program n (ByKernel c) = joined (decimal n ∷ codes " kernel " ∷ completion_text c ∷ codes "\n" ∷ [])

-- events as lines, the first of which is the n-th
abbrev pub event_lines : Program → ℕ → List Event → List ℕ
event_lines program n [] = []
event_lines program n (e ∷ es) = event_line program n e ++ event_lines program (n + 1) es

-- a place in a thread, to the line's end
abbrev pub place_line : List ℕ → List ℕ → List ℕ
place_line name line = joined (name ∷ codes " line " ∷ line ∷ codes "\n" ∷ [])

-- where a fault is, to the line's end
abbrev pub party_line : Program → Party → List ℕ
party_line program (At i line) = place_line (thread_name program i) (decimal line)
party_line program InKernel = codes "kernel\n"

-- a fault: its number, its name, and where it is
abbrev pub named_line : List ℕ → List ℕ → List ℕ → List ℕ
named_line number name place = joined (codes "fault F" ∷ number ∷ codes " " ∷ name ∷ codes " " ∷ place ∷ [])

abbrev pub fault_line : Program → Fault → List ℕ
fault_line program f = named_line (decimal (number_of_fault f.kind)) (name_of_fault f.kind) (party_line program f.party)

-- the end line of a trace whose i-th item isn't enabled
abbrev pub item_line : ℕ → List ℕ
item_line i = joined (codes "item " ∷ decimal i ∷ codes " not enabled\n" ∷ [])

-- the end line of a trace of n events without a fault
abbrev pub end_line : List ℕ → ℕ → List ℕ
end_line word n = joined (word ∷ codes " after " ∷ decimal n ∷ codes " events\n" ∷ [])

-- the answer to an unreadable schedule
abbrev pub schedule_line : ℕ → List ℕ
schedule_line i = joined (codes "schedule item " ∷ decimal i ∷ codes " unreadable\n" ∷ [])
