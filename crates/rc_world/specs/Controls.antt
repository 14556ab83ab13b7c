-- Where each thread is, and what a step of it does there, given what the rings and buffers answer.
use Rattle.std.specs.Prelude.{ℕ, zero, suc, ◌+◌, ◌%◌, Bool, true, false, ◌&&◌, ◌||◌, if◌then◌else◌, List, [], length, map, replicate, Option, Some, None, nat_eq, option_map, position, unwrap_or, slice_get, slice_range, slice_set, ℤ, pos, negsuc, ◌+ℤ◌, ◌-ℤ◌, int_le}
use Rattle.std.specs.Int.{cast_unsigned, int_wrap, w64}
use Rattle.std.specs.Ordering.{int_eq}
use Rattle.rc_lang.specs.Comparisons.{compares}
use Rattle.rc_lang.specs.declared.lines.Line.{Line}
use Rattle.rc_lang.specs.declared.lines.Locks.{Locks}
use Rattle.rc_lang.specs.declared.lines.Op.{Op}
use Rattle.rc_lang.specs.declared.lines.Op.TheVariants.{Set, Assign, Add, Subtract, Load, Store, Fill, Print, GetSqe, PrepRead, PrepWrite, PrepFsync, PrepNop, PrepOther, SetData64, Submit, SubmitAndWait, CqeGetData64, CqeSeen}
use Rattle.rc_lang.specs.declared.lines.Operand.{Operand}
use Rattle.rc_lang.specs.declared.lines.Operand.TheVariants.{Variable, Number as Literal}
use Rattle.rc_lang.specs.declared.lines.Stmt.{Stmt}
use Rattle.rc_lang.specs.declared.lines.Stmt.TheVariants.{Do, Put, Lock, EndLock, If, Else, EndIf, Peek, Case, Other, Nothing, EndArm, Loop, EndLoop, Break}
use Rattle.rc_lang.specs.declared.lines.Test.{Test}
use Rattle.rc_lang.specs.declared.lines.Test.TheVariants.{Compare, ReadyZero, SpaceAtLeast, Take, Any}
use Rattle.rc_lang.specs.Program.{Program, Items, Thread, lines_of, line_at, end_at, stmt_at}
use Rattle.rc_lang.specs.Rows.{line_read_at, list_read_at, value_of}
use Rattle.rc_split.specs.Pools.{Pools, all_pooled, includes, overfills, pool_of, put_into, start_pools, taken_from}
use Rattle.rc_world.specs.declared.controls.Answer.{Answer}
use Rattle.rc_world.specs.declared.controls.Answer.TheVariants.{Plain, Number, Byte, Front}
use Rattle.rc_world.specs.declared.controls.Holders.{Holders}
use Rattle.rc_world.specs.declared.controls.Look.{Look}
use Rattle.rc_world.specs.declared.controls.Look.TheVariants.{Unseen, Peeked as InView, Got}
use Rattle.rc_world.specs.declared.event.Action.{Action}
use Rattle.rc_world.specs.declared.event.Action.TheVariants.{VariableSet, Loaded, Stored, Filled, Printed, Locked, Released, EntryOpened, ReadPrepared, WritePrepared, FsyncPrepared, NopPrepared, OtherPrepared, DataSet, Submitted, Peeked, PeekedNone, DataGot, Reaped, Branched, Looped, LoopLeft, ItemsPut}
use Rattle.rc_world.specs.declared.event.Event.{Event}
use Rattle.rc_world.specs.declared.event.Event.TheVariants.{ByThread}

-- Where a thread is: the place of its next line, and its variables.
pub record Standing : Type 0 where
  pub place : ℕ
  pub variables : List ℤ

-- Where each thread is, who holds the lock of each side of the ring, what was done with the front completion, and the
-- pools.
pub record Controls : Type 0 where
  pub threads : List Standing
  pub holders : Holders
  pub look : Look
  pub pools : Pools

-- ---- locks

-- both locks are free
abbrev pub nobody : Holders
nobody = record { sq = None; cq = None }

-- Nobody holds a lock that is wanted.
abbrev pub is_free : Bool → Option ℕ → Bool
is_free false holder = true
is_free true None = true
is_free true (Some i) = false

abbrev pub are_free : Locks → Holders → Bool
are_free wanted h = is_free wanted.sq h.sq && is_free wanted.cq h.cq

-- where these locks have another holder, or none
abbrev pub held_by : Option ℕ → Locks → Holders → Holders
held_by holder l h = record { sq = if l.sq then holder else h.sq; cq = if l.cq then holder else h.cq }

-- ---- variables

abbrev pub variable : Standing → ℕ → ℤ
variable t x = value_of t.variables x

abbrev pub operand_value : Standing → Operand → ℤ
operand_value t (Variable x) = variable t x
operand_value t (Literal n) = n

-- what sums and differences leave in 64 bits
abbrev pub wrapped : ℤ → ℤ
wrapped z = int_wrap w64 z

-- the low eight bits
abbrev pub low_byte : ℤ → ℕ
low_byte z = cast_unsigned w64 z % 256

-- ---- where a thread goes

-- The place that a line leads to which is no event and goes with the step before it: an else that is reached from
-- above, and the closing braces of an if and of an arm.
abbrev pub hop_of : Program → ℕ → ℕ → Option Stmt → Option ℕ
hop_of program i j None = None
hop_of program i j (Some (Else o)) = Some (end_at program i j + 1)
hop_of program i j (Some (EndIf o)) = Some (j + 1)
hop_of program i j (Some (EndArm o)) = Some (end_at program i o + 1)
hop_of program i j (Some _) = None

abbrev pub is_arm_end : Option Stmt → Bool
is_arm_end None = false
is_arm_end (Some (EndArm o)) = true
is_arm_end (Some _) = false

abbrev pub or_from : {A : Type 0} → A → (ℕ → A) → Option ℕ → A
or_from a f None = a
or_from a f (Some j) = f j

-- the place of the next event, over at most n such lines, and whether an arm ends on the way
abbrev pub settled : Program → ℕ → ℕ → ℕ → ℕ
settled program i zero j = j
settled program i (suc n) j = or_from j (λ k. settled program i n k) (hop_of program i j (stmt_at (lines_of program i) j))

abbrev pub ends_arm : Program → ℕ → ℕ → ℕ → Bool
ends_arm program i zero j = false
ends_arm program i (suc n) j = is_arm_end (stmt_at (lines_of program i) j) || or_from false (λ k. ends_arm program i n k) (hop_of program i j (stmt_at (lines_of program i) j))

abbrev pub rest_at : Program → ℕ → ℕ → ℕ
rest_at program i j = settled program i (length (lines_of program i)) j

abbrev pub passes_arm : Program → ℕ → ℕ → Bool
passes_arm program i j = ends_arm program i (length (lines_of program i)) j

-- The arms of the peek at place o are between it and its closing brace: the first one for this user data, else the
-- one for any other.
abbrev pub is_case : ℕ → ℕ → Stmt → Bool
is_case o u (Case p v) = nat_eq p o && nat_eq v u
is_case o u _ = false

abbrev pub is_other : ℕ → Stmt → Bool
is_other o (Other p) = nat_eq p o
is_other o _ = false

abbrev pub is_none_arm : ℕ → Stmt → Bool
is_none_arm o (Nothing p) = nat_eq p o
is_none_arm o _ = false

abbrev pub arms_of : Program → ℕ → ℕ → List Line
arms_of program i o = slice_range (lines_of program i) o (end_at program i o)

abbrev pub first_place : (Stmt → Bool) → List Line → Option ℕ
first_place test lines = position (λ (l : Line). test l.stmt) lines

abbrev pub arm_for : Program → ℕ → ℕ → ℕ → ℕ
arm_for program i o u = o + unwrap_or (first_place (is_case o u) (arms_of program i o)) (unwrap_or (first_place (is_other o) (arms_of program i o)) 0)

abbrev pub none_arm : Program → ℕ → ℕ → ℕ
none_arm program i o = o + unwrap_or (first_place (is_none_arm o) (arms_of program i o)) 0

-- ---- what a statement does

-- the items of a put or a take of a thread, by their number, read at its variables
abbrev pub list_at : Program → ℕ → Standing → ℕ → Items
list_at program i t k = list_read_at program i t.variables k

-- What the thread does, who holds the locks then, what was done with the front, the pools, where the thread goes, and
-- its variables.
pub record Move : Type 0 where
  pub action : Action
  pub holders : Holders
  pub look : Look
  pub pools : Pools
  pub place : ℕ
  pub variables : List ℤ

-- to the next line
abbrev pub goes_on : Controls → Standing → Action → Move
goes_on c t action = record { action = action; holders = c.holders; look = c.look; pools = c.pools; place = t.place + 1; variables = t.variables }

-- to the next line, with another value of a variable
abbrev pub sets_variable : Controls → Standing → ℕ → ℤ → Action → Move
sets_variable c t x v action = record { action = action; holders = c.holders; look = c.look; pools = c.pools; place = t.place + 1; variables = slice_set t.variables x v }

-- where nothing is answered
abbrev pub plainly : Move → Answer → Option Move
plainly m Plain = Some m
plainly m _ = None

abbrev pub assigns : Controls → Standing → ℕ → ℤ → Answer → Option Move
assigns c t x v a = plainly (sets_variable c t x v (VariableSet v)) a

abbrev pub loads : Controls → Standing → ℕ → Answer → Option Move
loads c t x (Byte b) = Some (sets_variable c t x (pos b) (Loaded b))
loads c t x _ = None

abbrev pub submits : Controls → Standing → ℕ → Answer → Option Move
submits c t x (Number n) = Some (sets_variable c t x n (Submitted n))
submits c t x _ = None

-- the user data of the front completion, where that is the answer
abbrev pub user_data_in : Answer → Option ℕ
user_data_in (Front cqe) = Some cqe.user_data
user_data_in _ = None

-- io_uring_cqe_get_data64(3): then the front is got.
abbrev pub gets_data : Controls → Standing → Answer → Option Move
gets_data c t a = option_map (λ u. record (goes_on c t (DataGot u)) { look = Got }) (user_data_in a)

-- io_uring_cqe_seen(3): then nothing is peeked.
abbrev pub reaps : Controls → Standing → Answer → Option Move
reaps c t a = option_map (λ u. record (goes_on c t (Reaped u)) { look = Unseen }) (user_data_in a)

abbrev pub does : Controls → Standing → Op → Answer → Option Move
does c t (Set x n) a = assigns c t x n a
does c t (Assign x y) a = assigns c t x (variable t y) a
does c t (Add x y z) a = assigns c t x (wrapped (operand_value t y +ℤ operand_value t z)) a
does c t (Subtract x y z) a = assigns c t x (wrapped (operand_value t y -ℤ operand_value t z)) a
does c t (Load x b i) a = loads c t x a
does c t (Store b i x) a = plainly (goes_on c t (Stored (low_byte (variable t x)))) a
does c t (Fill b x) a = plainly (goes_on c t (Filled (low_byte (variable t x)))) a
does c t (Print x) a = plainly (goes_on c t (Printed (variable t x))) a
does c t GetSqe a = plainly (goes_on c t EntryOpened) a
does c t (PrepRead fd b len off) a = plainly (goes_on c t ReadPrepared) a
does c t (PrepWrite fd b len off k) a = plainly (goes_on c t WritePrepared) a
does c t (PrepFsync fd datasync) a = plainly (goes_on c t FsyncPrepared) a
does c t PrepNop a = plainly (goes_on c t NopPrepared) a
does c t PrepOther a = plainly (goes_on c t OtherPrepared) a
does c t (SetData64 u) a = plainly (goes_on c t (DataSet u)) a
does c t (Submit x) a = submits c t x a
does c t (SubmitAndWait x n) a = submits c t x a
does c t CqeGetData64 a = gets_data c t a
does c t CqeSeen a = reaps c t a

-- An if whose test is false leads past its else or, without one, past its closing brace.
abbrev pub branches : Program → Controls → ℕ → Standing → Bool → Move
branches program c i t holds =
    record { action = Branched holds; holders = c.holders; look = c.look; pools = c.pools; place = (if holds then t.place else end_at program i t.place) + 1; variables = t.variables }

-- What an `if take` asks for leaves the pool that it names where that has it, and else nothing does.
abbrev pub tries_to_take : Program → Controls → ℕ → Standing → Option ℕ → Items → Move
tries_to_take program c i t pool items =
    if includes program (pool_of c.pools pool) items then record (branches program c i t true) { pools = taken_from program pool items c.pools } else branches program c i t false

-- A free choice is answered 1 for the first branch and 0 for the second.
abbrev pub is_choice : ℤ → Bool
is_choice r = int_eq r (pos 0) || int_eq r (pos 1)

abbrev pub chooses : Program → Controls → ℕ → Standing → ℤ → Option Move
chooses program c i t r = if is_choice r then Some (branches program c i t (int_eq r (pos 1))) else None

abbrev pub decides : Program → Controls → ℕ → Standing → Test → Answer → Option Move
decides program c i t (Compare x comparison n) a = plainly (branches program c i t (compares comparison (variable t x) n)) a
decides program c i t ReadyZero (Number n) = Some (branches program c i t (int_eq n (pos 0)))
decides program c i t (SpaceAtLeast m) (Number n) = Some (branches program c i t (int_le (pos m) n))
decides program c i t (Take pool k) a = plainly (tries_to_take program c i t pool (list_at program i t k)) a
decides program c i t Any (Number n) = chooses program c i t n
decides program c i t _ _ = None

-- io_uring_peek_cqe(3): without a completion the variable is -EAGAIN, else the front's result, and the front is peeked.
abbrev pub peeks : Program → Controls → ℕ → Standing → ℕ → Answer → Option Move
peeks program c i t x Plain =
    Some (record { action = PeekedNone; holders = c.holders; look = c.look; pools = c.pools; place = none_arm program i t.place + 1; variables = slice_set t.variables x (negsuc 10) })
peeks program c i t x (Front cqe) =
    Some (record { action = Peeked cqe; holders = c.holders; look = InView; pools = c.pools; place = arm_for program i t.place cqe.user_data + 1; variables = slice_set t.variables x cqe.res })
peeks program c i t x _ = None

-- The items go to the pool that is named, where all pools together have room for them.
abbrev pub puts_items : Program → Controls → Standing → Option ℕ → Items → Answer → Option Move
puts_items program c t pool items a =
    if overfills program (all_pooled program c.pools) items then None else plainly (record (goes_on c t ItemsPut) { pools = put_into program pool items c.pools }) a

-- The wanted locks are taken at once, where each of them is free.
abbrev pub takes_locks : Controls → ℕ → Standing → Locks → Move
takes_locks c i t wanted = record (goes_on c t (Locked wanted)) { holders = held_by (Some i) wanted c.holders }

abbrev pub locks : Controls → ℕ → Standing → Locks → Answer → Option Move
locks c i t wanted a = if are_free wanted c.holders then plainly (takes_locks c i t wanted) a else None

abbrev pub releases_locks : Controls → Standing → Locks → Move
releases_locks c t released = record (goes_on c t (Released released)) { holders = held_by None released c.holders }

abbrev pub releases : Controls → Standing → Locks → Answer → Option Move
releases c t released a = plainly (releases_locks c t released) a

-- back to the line after the top of the loop at place o
abbrev pub returns_to : Controls → Standing → ℕ → Move
returns_to c t o = record { action = Looped; holders = c.holders; look = c.look; pools = c.pools; place = o + 1; variables = t.variables }

-- A break leads past the end of the loop at place o. It may release locks, and leave an arm of a peek.
abbrev pub breaks : Program → Controls → ℕ → Standing → ℕ → Locks → Bool → Move
breaks program c i t o releases leaves =
    record { action = LoopLeft; holders = held_by None releases c.holders; look = if leaves then Unseen else c.look; pools = c.pools; place = end_at program i o + 1; variables = t.variables }

abbrev pub acts : Program → Controls → ℕ → Standing → Stmt → Answer → Option Move
acts program c i t (Do op) a = does c t op a
acts program c i t (Put pool k) a = puts_items program c t pool (list_at program i t k) a
acts program c i t (Lock wanted) a = locks c i t wanted a
acts program c i t (EndLock o released) a = releases c t released a
acts program c i t (If test) a = decides program c i t test a
acts program c i t (Peek x) a = peeks program c i t x a
acts program c i t (Loop k) a = plainly (goes_on c t Looped) a
acts program c i t (EndLoop o k) a = plainly (returns_to c t o) a
acts program c i t (Break o releases leaves) a = plainly (breaks program c i t o releases leaves) a
acts program c i t _ a = None

-- The controls after that: the thread comes to rest, and after the end of an arm nothing is peeked.
abbrev pub moved : Program → Controls → ℕ → Move → Controls
moved program c i m = record {
  threads = slice_set c.threads i (record { place = rest_at program i m.place; variables = m.variables });
  holders = m.holders;
  look = if passes_arm program i m.place then Unseen else m.look;
  pools = m.pools;
}

abbrev pub made : Program → Controls → ℕ → Option Move → Option (Action × Controls)
made program c i None = None
made program c i (Some m) = Some (m.action, moved program c i m)

-- ---- the step of a thread in its controls

-- the line that a thread has next, read at its variables
abbrev pub next_at : Program → ℕ → Option Standing → Option Line
next_at program i None = None
next_at program i (Some t) = line_read_at program i t.variables t.place

abbrev pub next_line : Program → Controls → ℕ → Option Line
next_line program c i = next_at program i (slice_get c.threads i)

-- the items that a put or a take of a thread names by this number, read at its variables now
abbrev pub variables_in : Option Standing → List ℤ
variables_in None = []
variables_in (Some t) = t.variables

abbrev pub list_here : Program → Controls → ℕ → ℕ → Items
list_here program c i k = list_read_at program i (variables_in (slice_get c.threads i)) k

-- the number of the line of an event: at a return to the top of a loop it is the loop's
abbrev pub line_number : Option Line → ℕ
line_number None = 0
line_number (Some l) = l.number

abbrev pub number_of_event : Program → ℕ → Line → Stmt → ℕ
number_of_event program i l (EndLoop o k) = line_number (line_at program i o)
number_of_event program i l _ = l.number

-- its event, and the controls after it
abbrev pub as_event : Program → ℕ → Line → Option (Action × Controls) → Option (Event × Controls)
as_event program i l None = None
as_event program i l (Some (action, c)) = Some (ByThread i (number_of_event program i l l.stmt) action, c)

abbrev pub acts_on : Program → Controls → ℕ → Answer → Option Standing → Option Line → Option (Event × Controls)
acts_on program c i a None l = None
acts_on program c i a (Some t) None = None
acts_on program c i a (Some t) (Some l) = as_event program i l (made program c i (acts program c i t l.stmt a))

abbrev pub controls_step : Program → Controls → ℕ → Answer → Option (Event × Controls)
controls_step program c i a = acts_on program c i a (slice_get c.threads i) (next_line program c i)

-- ---- the start

-- Every thread at its first line, its variables 0; the locks are free, nothing is peeked, and the pools have what their
-- lines say.
abbrev pub start_controls : Program → Controls
start_controls program = record { threads = map (λ (t : Thread). record { place = 0; variables = replicate 64 (pos 0) }) program.threads; holders = nobody; look = Unseen; pools = start_pools program }
