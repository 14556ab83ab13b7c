-- What the calls of `State` do.
use Rattle.std.specs.Prelude.{ℕ, ◌≡◌, ◌≤◌, ◌+◌, ◌^◌, Bool, true, false, List, [], ◌∷◌, Option, Some, None, Result, Ok, Err, cond, max, nat_eq, nat_le, slice_get, ◌||◌, All}
use Rattle.rc_lang.specs.declared.lines.Locks.{Locks}
use Rattle.rc_lang.specs.declared.lines.Op.{Op}
use Rattle.rc_lang.specs.declared.lines.Stmt.{Stmt}
use Rattle.rc_lang.specs.declared.lines.Stmt.TheVariants.{Do, If, Loop, Put}
use Rattle.rc_lang.specs.declared.lines.Test.{Test}
use Rattle.rc_lang.specs.declared.program.Token.{Token}
use Rattle.rc_lang.specs.declared.program.Share.{Share}
use Rattle.rc_lang.specs.Locks.{no_lock, without_locks}
use Rattle.rc_lang.specs.Program.{Program, Thread, Items, shares_at}
use Rattle.rc_lang.specs.Kept.{IsTokenKind}
use Rattle.rc_lang.specs.Resolved.{DeclaresToken}
use Rattle.rc_lang.specs.Views.{view_of}
use Rattle.rc_rules.specs.declared.cause.Cause.{Cause}
use Rattle.rc_rules.specs.declared.mode.Mode.{Mode}
use Rattle.rc_rules.specs.declared.mode.Peeked.{Peeked}
use Rattle.rc_rules.specs.declared.mode.Peeked.TheVariants.{Unseen, Sees, SeesOther, Got}
use Rattle.rc_rules.specs.declared.mode.Submitting.{Submitting}
use Rattle.rc_split.specs.Bags.{Part, ShareOf, TokenOf, lacking}
use Rattle.rc_split.specs.Holdings.{Holding, bag}
use Rattle.rc_rules.specs.declared.needs.Asks.{Asks}
use Rattle.rc_rules.specs.Causes.{premise_number}
use Rattle.rc_rules.specs.Kinds.{kinds_at}
use Rattle.rc_rules.specs.Labellings.{start_of}
use Rattle.rc_rules.specs.Labels.{Label, Dead, Live, IsStrongest, IsSame}
use Rattle.rc_rules.specs.Needs.{IsMetOn, line_premises}
use Rattle.rc_rules.specs.Rules.{agree, asked, asks, asks_both, entered, goes, locks_of, op_effect, peeked_of, premises_of, put_effect, stmt_needs, test_effect, top}
use Rattle.rc_rules.specs.Room.{credits_out}
use Rattle.rc_rules.specs.declared.flag.Write.{Write}
use Rattle.rc_rules.specs.Sides.{Sides, brings, forgets, gate, on, turns, write_of}
use Rattle.rc_rules.specs.Premises.{Premise, Meets, FailsFirst}

-- One side of a state: the program as its thread names it, and what is held and which locks are, unless nothing reaches
-- the point.
pub record Side : Type 0 where
  pub program : Program
  pub live : Option (Holding × Mode)

abbrev pub label_in : Option (Holding × Mode) → Label
label_in None = Dead
label_in (Some s) = Live (bag s.0) s.1

abbrev pub side_label : Side → Label
side_label s = label_in s.live

-- A need is met on a side.
abbrev pub MeetsNeed : Side → List Items → Bool → Asks → Type 0
MeetsNeed s lists z asks = IsMetOn s.program lists z (side_label s) asks

-- how many of a part are held, which is nothing where nothing reaches
abbrev pub held_at : Label → Part → ℕ
held_at Dead p = 0
held_at (Live bag m) p = bag p

-- how many of the view's tokens aren't held, none where nothing reaches
abbrev pub lacked_at : Program → Label → ℕ
lacked_at P Dead = 0
lacked_at P (Live bag m) = lacking P.tokens bag

-- how many of the credits that threads begin with aren't held: none where nothing reaches the label
abbrev pub credits_out_at : Program → Label → ℕ
credits_out_at P Dead = 0
credits_out_at P (Live bag m) = credits_out P bag

-- a side that holds this, where something reaches its point
abbrev pub live_of : Holding → Option Mode → Option (Holding × Mode)
live_of h None = None
live_of h (Some m) = Some (h, m)

abbrev pub mode_in : Option (Holding × Mode) → Option Mode
mode_in None = None
mode_in (Some s) = Some s.1

abbrev pub side_of : Holding → Option Mode → Side
side_of h mode = record { program = h.program; live = live_of h mode }

-- The flag of the thread, and what is known where it is 0, and where it isn't.
pub record State : Type 0 where
  pub flag : Option ℕ
  pub zero : Side
  pub other : Side

-- the labels of both sides, and that of one
abbrev pub sides_of : State → Sides
sides_of s = record { zero = side_label s.zero; other = side_label s.other }

abbrev pub label_of : State → Bool → Label
label_of s z = on z (sides_of s)

abbrev pub program_of : State → Program
program_of s = s.zero.program

-- what a line that needs the same on both sides is asked
abbrev pub asked_alike : State → List Items → Stmt → List (ℕ × Premise)
asked_alike s lists stmt = asks_both (label_of s) (λ z bag m. line_premises (program_of s) lists bag m stmt)

-- what any line is asked on both sides, and on one
abbrev pub asked_of : State → List Items → Stmt → List (ℕ × Premise)
asked_of s lists stmt = asked (program_of s) lists (label_of s) stmt

abbrev pub asked_on : Side → List Items → Bool → Stmt → List (ℕ × Premise)
asked_on s lists z stmt = asks (side_label s) (λ bag m. premises_of s.program lists z bag m (stmt_needs stmt))

-- Where the front completion is known to have some user data, that token is declared, and not held.
abbrev pub IsFreeFor : Program → (Part → ℕ) → Peeked → Type 0
IsFreeFor P bag Unseen = Unit {0}
IsFreeFor P bag (Sees u) = DeclaresToken P u × (bag (TokenOf u) ≡ 0)
IsFreeFor P bag SeesOther = Unit {0}
IsFreeFor P bag Got = Unit {0}

abbrev pub IsFreeIn : Program → (Part → ℕ) → Mode → Type 0
IsFreeIn P bag m = IsFreeFor P bag (peeked_of m)

abbrev pub IsFree : Program → Label → Type 0
IsFree P Dead = Unit {0}
IsFree P (Live bag m) = IsFreeIn P bag m

-- ---- what a call is handed

abbrev pub is_live : Label → Bool
is_live Dead = false
is_live (Live bag m) = true

-- Unless the label is dead, exactly these locks are held.
abbrev pub HasLocks : Locks → Label → Type 0
HasLocks locks Dead = Unit {0}
HasLocks locks (Live bag m) = locks_of m ≡ locks

-- Unless it is dead, none of these is held; or each of them is.
abbrev pub AreFree : Locks → Label → Type 0
AreFree locks Dead = Unit {0}
AreFree locks (Live bag m) = without_locks locks (locks_of m) ≡ locks

abbrev pub AreHeld : Locks → Label → Type 0
AreHeld locks Dead = Unit {0}
AreHeld locks (Live bag m) = without_locks locks (locks_of m) ≡ no_lock

-- whether something reaches one of the sides
abbrev pub is_reached : State → Bool
is_reached s = is_live (label_of s true) || is_live (label_of s false)

-- what is known of the ring on a side that something reaches, the zero one first
abbrev pub mode_or : Option Mode → Option Mode → Option Mode
mode_or None n = n
mode_or (Some m) n = Some m

abbrev pub mode_of : State → Option Mode
mode_of s = mode_or (mode_in s.zero.live) (mode_in s.other.live)

-- It is so of each side.
abbrev pub OnBoth : (Label → Type 0) → State → Type 0
OnBoth F s = (z : Bool) → F (label_of s z)

-- Unless one is dead, both have the same locks.
abbrev pub AgreeOnLocks : Label → Label → Type 0
AgreeOnLocks Dead t = Unit {0}
AgreeOnLocks (Live a m) t = HasLocks (locks_of m) t

-- No count is above 2^19.
abbrev pub IsSmall : Label → Type 0
IsSmall Dead = Unit {0}
IsSmall (Live bag m) = (p : Part) → bag p ≤ 2 ^ 19

-- ---- what a call answers

-- The state is one of the same view and thread.
pub record IsOfSame (new old : State) : Type 0 where
  pub program : program_of new ≡ program_of old
  pub flag : new.flag ≡ old.flag

-- On each side the state is the strongest that is weaker than each of these.
pub record Becomes (old new : State) (befores : Bool → List Label) : Type 0 where
  pub each : (z : Bool) → IsStrongest (label_of new z) (befores z)
  pub of : IsOfSame new old

-- Ok: the premises hold, and the state becomes these. A cause: the least premise that fails, and nothing changes.
abbrev pub Gives : {X : Type 0} → State → State → Result X Cause → List (ℕ × Premise) → (Bool → List Label) → Type 0
Gives old new (Ok x) premises befores = Meets premises × Becomes old new befores
Gives old new (Err cause) premises befores = FailsFirst (premise_number cause) premises × (new ≡ old)

-- Each side becomes this of its label; or is left where there is a way to it.
abbrev pub BecomesEach : State → State → (Label → Label) → Type 0
BecomesEach old new F = Becomes old new (λ z. F (label_of old z) ∷ [])

abbrev pub KeepsWhere : State → State → (Bool → Bool) → Type 0
KeepsWhere old new may = Becomes old new (λ z. gate (may z) (label_of old z) ∷ [])

-- The flag is written.
abbrev pub TurnsBy : State → State → Write → Type 0
TurnsBy old new write = Becomes old new (λ z. brings (λ y. turns write y z) (λ s. s) (label_of old))

-- The line is gone over, with this effect; or nothing goes on after it.
abbrev pub GoesOver : State → State → Result (Unit {0}) Cause → List Items → Stmt → (Label → Label) → Type 0
GoesOver old new result lists stmt F = Gives old new result (asked_alike old lists stmt) (λ z. F (label_of old z) ∷ [])

abbrev pub Ends : State → State → Result (Unit {0}) Cause → List Items → Stmt → Type 0
Ends old new result lists stmt = Gives old new result (asked_alike old lists stmt) (λ z. [])

-- so of a statement without a block, before its write to the flag and with it
abbrev pub done : State → Op → Label → Label
done s op l = goes l (λ bag m. op_effect (program_of s) bag m op)

abbrev pub Does : State → State → Result (Unit {0}) Cause → Op → Type 0
Does old new result op = Gives old new result (asked_alike old [] (Do op)) (λ z. brings (λ y. turns (write_of old.flag op) y z) (done old op) (label_of old))

-- so of a lock, which asks for nothing
abbrev pub EntersLock : State → State → Result (Unit {0}) Cause → Locks → Type 0
EntersLock old new result takes = Gives old new result [] (λ z. entered (program_of old) takes (label_of old z) ∷ [])

-- so of a put, of the first branch of a test, and of a loop's top
abbrev pub Puts : State → State → Result (Unit {0}) Cause → Option ℕ → Items → Type 0
Puts old new result pool items = GoesOver old new result (items ∷ []) (Put pool 0) (λ l. goes l (λ bag m. put_effect bag m items))

abbrev pub GoesInto : State → State → Result (Unit {0}) Cause → List Items → Test → Type 0
GoesInto old new result lists test = GoesOver old new result lists (If test) (λ l. goes l (λ bag m. test_effect (program_of old) lists bag m test))

abbrev pub tops : State → Items → Bool → List Label
tops s items z = brings (λ y. turns (forgets s.flag) y z) (λ l. top (program_of s) items z l) (label_of s)

abbrev pub EntersLoop : State → State → Result (Unit {0}) Cause → Items → Type 0
EntersLoop old new result items = Gives old new result (asked_of old (items ∷ []) (Loop 0)) (tops old items)

-- Of one side: Ok, the premises hold, and its label is the same as this. A cause: the least premise that fails, and
-- nothing changes.
abbrev pub GivesSide : {X : Type 0} → Side → Side → Result X Cause → List (ℕ × Premise) → Label → Type 0
GivesSide old new (Ok x) premises label = Meets premises × IsSame (side_label new) label × (new.program ≡ old.program)
GivesSide old new (Err cause) premises label = FailsFirst (premise_number cause) premises × (new ≡ old)

-- The premises of a statement hold.
abbrev pub MeetsOp : Holding → Mode → Op → Type 0
MeetsOp h m op = Meets (line_premises h.program [] (bag h) m (Do op))

-- The holding and the mode are changed to the statement's effect.
abbrev pub DoesOp : Holding → Holding → Mode → Mode → Op → Type 0
DoesOp old new m n op = IsSame (Live (bag new) n) (op_effect old.program (bag old) m op) × (new.program ≡ old.program)

-- A rule of one side changes a holding, and the mode or nothing comes after it.
abbrev pub Leaves : Holding → Holding → Option Mode → Label → Type 0
Leaves old new m effect = IsSame (label_in (live_of new m)) effect × (new.program ≡ old.program)

-- Or it names the least premise that fails.
abbrev pub Follows : Holding → Holding → Result (Option Mode) Cause → List (ℕ × Premise) → Label → Type 0
Follows old new (Ok m) premises effect = Meets premises × IsSame (label_in (live_of new m)) effect × (new.program ≡ old.program)
Follows old new (Err cause) premises effect = FailsFirst (premise_number cause) premises × (new ≡ old)

-- What a token's line says is true of the program.
abbrev pub IsLine : Program → Option Token → Type 0
IsLine P token = All (IsTokenKind P) (kinds_at token)

-- With the share, and with the token, no more is held than there is.
abbrev pub share_fits : Holding → Share → Bool
share_fits h s = nat_le (bag h (ShareOf s.buffer) + s.count) (shares_at h.program.buffers s.buffer)

abbrev pub token_fits : Holding → ℕ → Bool
token_fits h u = nat_le (bag h (TokenOf u) + 1) 1

-- ---- two states

abbrev pub same_peeked : Peeked → Peeked → Bool
same_peeked Unseen Unseen = true
same_peeked (Sees u) (Sees v) = nat_eq u v
same_peeked SeesOther SeesOther = true
same_peeked Got Got = true
same_peeked _ _ = false

-- what is known under a lock in both modes, where both have it
abbrev pub of_both : {A : Type 0} → (A → A → A) → Option A → Option A → Option A
of_both F (Some s) (Some t) = Some (F s t)
of_both F _ _ = None

-- so of the submission side, where the slots are at one stage, and of the completion side
abbrev pub both_submitting : Submitting → Submitting → Submitting
both_submitting s t = record { queued = max s.queued t.queued; slot = s.slot }

abbrev pub both_peeked : Peeked → Peeked → Peeked
both_peeked s t = cond (same_peeked s t) s Unseen

abbrev pub both : Mode → Mode → Mode
both m n = record { sq = of_both both_submitting m.sq n.sq; cq = of_both both_peeked m.cq n.cq }

-- ---- a thread's first state

-- It has the thread's flag, and is that of its header.
pub record BeginsAs (s : State) (thread : Thread) : Type 0 where
  pub flag : s.flag ≡ thread.flag
  pub each : (z : Bool) → IsSame (label_of s z) (on z (start_of thread))

abbrev pub IsStart : Program → ℕ → State → Type 0
IsStart P i s = (program_of s ≡ view_of P i) × ((thread : Thread) → slice_get P.threads i ≡ Some thread → BeginsAs s thread)

-- ---- what is kept

-- The sides are of one view. Where both are live, they have the same locks, their slots are at one stage, and the front
-- completion is got on both or on neither.
pub record IsState (s : State) : Type 0 where
  pub program : s.other.program ≡ s.zero.program
  pub lock : AgreeOnLocks (side_label s.zero) (side_label s.other)
  pub slot : agree (side_label s.zero) (side_label s.other) ≡ true
