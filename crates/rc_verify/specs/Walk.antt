-- What is kept along the lines of a thread: the state where they have come to, what goes past each open branch, what
-- is known before a peek's arms and where they join, and of each open loop what is known where its breaks join.
use Rattle.std.specs.Prelude.{ℕ, ◌≡◌, ◌+◌, ◌*◌, ◌<◌, ◌≤◌, Bool, true, false, List, [], ◌∷◌, ◌++◌, length, take, Option, Some, None, is_some, Result, Ok, Err, slice_get}
use Rattle.rc_lang.specs.declared.lines.Block.{Block}
use Rattle.rc_lang.specs.declared.lines.Block.TheVariants.{InIf, InElse, InPeek, InLoop}
use Rattle.rc_lang.specs.declared.lines.Line.{Line}
use Rattle.rc_lang.specs.declared.lines.Locks.{Locks}
use Rattle.rc_lang.specs.Nesting.{blocks_at, locks_in}
use Rattle.rc_lang.specs.Program.{Program, Thread}
use Rattle.rc_lang.specs.Kept.{IsThread}
use Rattle.rc_lang.specs.Views.{IsView}
use Rattle.rc_rules.specs.declared.cause.Cause.{Cause}
use Rattle.rc_rules.specs.declared.mode.Slot.TheVariants.{Closed}
use Rattle.rc_split.specs.Bags.{Part}
use Rattle.rc_rules.specs.Causes.{premise_number}
use Rattle.rc_rules.specs.Labels.{Label, Dead, Live, IsStrongest}
use Rattle.rc_rules.specs.Labellings.{arm_ends, break_ends, skipped, IsRefusedAt}
use Rattle.rc_rules.specs.Sides.{Sides, on}
use Rattle.rc_rules.specs.Rules.{same_slot, agree_all, is_got, locks_of, peeked_of, sq_of}
use Rattle.rc_rules.specs.States.{State, label_of, program_of, sides_of}
use Rattle.rc_verify.specs.declared.walk.Walk.{Walk}
use Rattle.rc_verify.specs.declared.arms.Arms.{Arms}
use Rattle.rc_verify.specs.Strongest.{AreStrongest}

-- ---- labels at a place

-- Where it is live, exactly these locks are held, and no count is above n.
abbrev pub Fits : Locks → ℕ → Label → Type 0
Fits locks n Dead = Unit {0}
Fits locks n (Live bag m) = (locks_of m ≡ locks) × ((p : Part) → bag p ≤ n)

-- how many of each part are held at most after j lines: a loop keeps 4,096 of one at most, and a request that is reaped
-- gives back 18 in all at most
abbrev pub most_at : ℕ → ℕ
most_at j = 4096 + 18 * j

-- Where it is live, no slot is open, and nothing is got.
abbrev pub IsClosed : Label → Type 0
IsClosed Dead = Unit {0}
IsClosed (Live bag m) = (same_slot (sq_of m).slot Closed ≡ true) × (is_got (peeked_of m) ≡ false)

-- Where it is live, the lock of the completion side is held, and nothing is got.
abbrev pub CanPeek : Label → Type 0
CanPeek Dead = Unit {0}
CanPeek (Live bag m) = (is_some m.cq ≡ true) × (is_got (peeked_of m) ≡ false)

-- ---- what is kept of the blocks that are open

-- the places of the lines before which a branch's state is kept, of the peek, and of the loops
abbrev pub branch_place : Block → List ℕ
branch_place (InIf o) = o ∷ []
branch_place (InElse o) = o ∷ []
branch_place _ = []

abbrev pub peek_place : Block → List ℕ
peek_place (InPeek o) = o ∷ []
peek_place _ = []

abbrev pub loop_place : Block → List ℕ
loop_place (InLoop o k) = o ∷ []
loop_place _ = []

abbrev pub places : (Block → List ℕ) → List Block → List ℕ
places f [] = []
places f (b ∷ bs) = f b ++ places f bs

-- For each of the places something is kept of which this is true.
abbrev pub AreKept : {X : Type 0} → (ℕ → X → Type 0) → List ℕ → List X → Type 0
AreKept R [] [] = Unit {0}
AreKept R (o ∷ os) (x ∷ xs) = R o x × AreKept R os xs
AreKept R _ _ = ⊥

-- A state is kept of which this is true.
abbrev pub OnKept : (ℕ → State → Type 0) → ℕ → Option State → Type 0
OnKept R o None = ⊥
OnKept R o (Some s) = R o s

abbrev pub listed : {X : Type 0} → Option X → List X
listed None = []
listed (Some x) = x ∷ []

-- The state is one of this thread, and of the program as the thread names it.
pub record IsOf (P : Program) (t : Thread) (s : State) : Type 0 where
  pub program : program_of s ≡ P
  pub flag : s.flag ≡ t.flag

-- The state has the labels of place o.
pub record IsSaved (P : Program) (t : Thread) (labels : List Sides) (o : ℕ) (s : State) : Type 0 where
  pub of : IsOf P t s
  pub at : slice_get labels o ≡ Some (sides_of s)

-- The state is the end of the branch that is read at the line at o, among the first j.
pub record IsBranch (P : Program) (t : Thread) (j : ℕ) (labels : List Sides) (o : ℕ) (s : State) : Type 0 where
  pub of : IsOf P t s
  pub before : o < j
  pub at : (z : Bool) → label_of s z ≡ skipped t t.lines labels o z

-- On each side the state is the strongest that is weaker than each of these ends.
pub record IsMeet (P : Program) (t : Thread) (locks : Locks) (n : ℕ) (ends : Bool → List Label) (s : State) : Type 0 where
  pub of : IsOf P t s
  pub strongest : (z : Bool) → IsStrongest (label_of s z) (ends z)
  pub fits : (z : Bool) → Fits locks n (label_of s z)

-- Of the peek at o the state before its arms is kept, whether the arms so far agree, and then their meet.
pub record IsPeeked (P : Program) (t : Thread) (j : ℕ) (labels : List Sides) (o : ℕ) (a : Arms) : Type 0 where
  pub before : IsSaved P t labels (o + 1) a.before
  pub may : (z : Bool) → CanPeek (label_of a.before z)
  pub of : IsOf P t a.ends
  pub agree : agree_all (arm_ends (take j t.lines) labels o true ++ arm_ends (take j t.lines) labels o false) ≡ a.agree
  pub ends : a.agree ≡ true → IsMeet P t (locks_in (blocks_at t.lines o)) (most_at j) (arm_ends (take j t.lines) labels o) a.ends

-- Of the loop at o the meet of its breaks so far is kept.
pub record IsLoop (P : Program) (t : Thread) (j : ℕ) (labels : List Sides) (o : ℕ) (s : State) : Type 0 where
  pub breaks : IsMeet P t (locks_in (blocks_at t.lines o)) (most_at j) (break_ends (take j t.lines) labels o) s
  pub closed : (z : Bool) → IsClosed (label_of s z)

-- ---- the place that a walk has come to

-- What is kept of the blocks that are open at place j.
pub record Keeps (P : Program) (t : Thread) (j : ℕ) (labels : List Sides) (w : Walk) : Type 0 where
  pub branches : AreKept (OnKept (IsBranch P t j labels)) (places branch_place (blocks_at t.lines j)) w.branches
  pub peek : AreKept (IsPeeked P t j labels) (places peek_place (blocks_at t.lines j)) (listed w.peek)
  pub loops : AreKept (OnKept (IsLoop P t j labels)) (places loop_place (blocks_at t.lines j)) w.loops

-- With these labels, the strongest for the lines so far, the walk is at place j.
pub record IsAt (P : Program) (t : Thread) (j : ℕ) (labels : List Sides) (w : Walk) : Type 0 where
  pub within : j ≤ length t.lines
  pub size : length labels ≡ j + 1
  pub strongest : AreStrongest P t (take j t.lines) labels
  pub here : IsSaved P t labels j w.state
  pub fits : (k : ℕ) (s : Sides) → slice_get labels k ≡ Some s → (z : Bool) → Fits (locks_in (blocks_at t.lines k)) (most_at j) (on z s)
  pub keeps : Keeps P t j labels w

-- The program is as the thread names it.
pub record Reaches (P : Program) (t : Thread) (j : ℕ) (w : Walk) : Type 0 where
  pub made : IsView P
  pub thread : IsThread P t
  pub labels : List Sides
  pub at : IsAt P t j labels w

-- The walk goes on after the line at j, or that line is refused.
abbrev pub PassesLine : {X : Type 0} → Program → Thread → ℕ → Walk → Result X Cause → Type 0
PassesLine P t j w (Ok x) = Reaches P t (j + 1) w
PassesLine P t j w (Err cause) = (l : Line) × IsRefusedAt P t j l (premise_number cause)

-- The same of the program that the walk goes over.
abbrev pub IsBefore : Thread → ℕ → Walk → Type 0
IsBefore t j w = Reaches (program_of w.state) t j w

abbrev pub Passes : {X : Type 0} → Thread → ℕ → Walk → Walk → Result X Cause → Type 0
Passes t j old new result = PassesLine (program_of old.state) t j new result
