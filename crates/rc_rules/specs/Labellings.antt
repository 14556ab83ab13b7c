-- Labellings: a label for each side of each place of a thread. Whether they obey the rules, which programs are
-- accepted, and where the others are refused.
use Rattle.std.specs.Prelude.{ℕ, Bool, true, false, ◌||◌, ◌≡◌, ◌⊎◌, ◌+◌, ◌<◌, cond, List, [], ◌∷◌, ◌++◌, Option, Some, None, is_none, nat_eq, take, drop, length, slice_get, slice_index_or}
use Rattle.rc_lang.specs.declared.lines.Line.{Line}
use Rattle.rc_lang.specs.declared.lines.Stmt.{Stmt}
use Rattle.rc_lang.specs.declared.lines.Stmt.TheVariants.{Do, Put, Lock, EndLock, If, Else, EndIf, Peek, Case, Other, Nothing, EndArm, EndPeek, Loop, EndLoop, Break}
use Rattle.rc_lang.specs.Program.{Items, Program, Stock, Thread, items_at, line_end, stmt_at}
use Rattle.rc_lang.specs.Views.{view_of}
use Rattle.rc_rules.specs.declared.cause.Cause.TheVariants.{OverShares, TokenTwice, OverCredits}
use Rattle.rc_rules.specs.declared.mode.Peeked.TheVariants.{Unseen, SeesOther}
use Rattle.rc_rules.specs.declared.flag.Write.TheVariants.{Anything}
use Rattle.rc_split.specs.Bags.{Part, ShareOf, TokenOf, Credit, bag_of, begun}
use Rattle.rc_rules.specs.Causes.{premise_number}
use Rattle.rc_rules.specs.Labels.{Label, Dead, Live, WeakerThanEach, IsSame}
use Rattle.rc_rules.specs.Sides.{Sides, on, unreached, gate, brings, turns, write_to, write_of, forgets, test_goes, may_skip}
use Rattle.rc_rules.specs.Premises.{Premise, Is, Covers, Meets, MeetsBelow}
use Rattle.rc_rules.specs.Rules.{limit, op_effect, put_effect, asked, goes, entered, released, test_effect, peek_at, case_at, joins_both, top, broken, unlocked}

-- ---- the labels that a line sees

-- Labels belong to a place, one to each side of it. Those at j are the ones before the line at j.
abbrev pub label_at : List Sides → ℕ → Bool → Label
label_at labels k z = on z (slice_index_or labels k unreached)

-- the label before the line that these lines come before
abbrev pub here : List Line → List Sides → Bool → Label
here lines known z = label_at known (length lines) z

-- the end of a branch that is read at the line at o: an else, or an if without one whose test may fail
abbrev pub skipped : Thread → List Line → List Sides → ℕ → Bool → Label
skipped thread lines known o z = gate (may_skip thread.flag z (stmt_at lines o)) (label_at known o z)

-- the ends of the arms of the peek at o; after an arm nothing is peeked any more
abbrev pub arm_end : Stmt → ℕ → Label → List Label
arm_end (EndArm p) o s = cond (nat_eq p o) (peek_at Unseen s ∷ []) []
arm_end _ o s = []

abbrev pub arm_ends : List Line → List Sides → ℕ → Bool → List Label
arm_ends [] labels o z = []
arm_ends (l ∷ lines) labels o z = arm_end l.stmt o (label_at labels 0 z) ++ arm_ends lines (drop 1 labels) o z

-- the breaks of the loop at o
abbrev pub break_end : Stmt → ℕ → Label → List Label
break_end (Break p releases leaves) o s = cond (nat_eq p o) (broken releases s ∷ []) []
break_end _ o s = []

abbrev pub break_ends : List Line → List Sides → ℕ → Bool → List Label
break_ends [] labels o z = []
break_ends (l ∷ lines) labels o z = break_end l.stmt o (label_at labels 0 z) ++ break_ends lines (drop 1 labels) o z

-- The labels that lead to a side of the place after this line of a thread, from the lines before it and the labels so
-- far; here and below the program is as the thread names it. After a peek, before its arms, is what was known before it;
-- where it writes the flag, of both sides. After an arm, and after a break, nothing comes from above.
abbrev pub befores : Program → Thread → List Line → List Sides → Stmt → Bool → List Label
befores P thread lines known (Do op) z = brings (λ y. turns (write_of thread.flag op) y z) (λ s. goes s (λ bag m. op_effect P bag m op)) (here lines known)
befores P thread lines known (Put pool k) z = goes (here lines known z) (λ bag m. put_effect bag m (items_at thread.lists k)) ∷ []
befores P thread lines known (Lock l) z = entered P l (here lines known z) ∷ []
befores P thread lines known (EndLock o l) z = released l (here lines known z) ∷ []
befores P thread lines known (If test) z = gate (test_goes thread.flag test z true) (goes (here lines known z) (λ bag m. test_effect P thread.lists bag m test)) ∷ []
befores P thread lines known (Else o) z = skipped thread lines known o z ∷ []
befores P thread lines known (EndIf o) z = here lines known z ∷ skipped thread lines known o z ∷ []
befores P thread lines known (Peek x) z = brings (λ y. turns (write_to thread.flag x Anything) y z) (λ s. s) (here lines known)
befores P thread lines known (Case o u) z = case_at u (label_at known (o + 1) z) ∷ []
befores P thread lines known (Other o) z = peek_at SeesOther (label_at known (o + 1) z) ∷ []
befores P thread lines known (Nothing o) z = peek_at Unseen (label_at known (o + 1) z) ∷ []
befores P thread lines known (EndArm o) z = []
befores P thread lines known (EndPeek o) z = arm_ends lines known o z
befores P thread lines known (Loop k) z = brings (λ y. turns (forgets thread.flag) y z) (λ s. top P (items_at thread.lists k) z s) (here lines known)
befores P thread lines known (EndLoop o k) z = break_ends lines known o z
befores P thread lines known (Break o releases leaves) z = []

-- The premises are those of what the line needs, on each side of the point before it; where ends join, they are of all
-- of those.
abbrev pub premises : Program → Thread → List Line → List Sides → Stmt → List (ℕ × Premise)
premises P thread lines known (Lock l) = []
premises P thread lines known (Else o) = []
premises P thread lines known (EndIf o) = joins_both (befores P thread lines known (EndIf o))
premises P thread lines known (Case o u) = []
premises P thread lines known (Other o) = []
premises P thread lines known (Nothing o) = []
premises P thread lines known (EndPeek o) = joins_both (befores P thread lines known (EndPeek o))
premises P thread lines known stmt = asked P thread.lists (here lines known) stmt

-- ---- labellings

-- A thread begins with its items, without a lock; its variables are 0, and so is its flag.
abbrev pub start_of : Thread → Sides
start_of thread = record { zero = Live (bag_of thread.items) unlocked; other = Dead }

-- The labelling obeys the rule of the line at j: the labels up to it meet the premises, and on each side the label
-- after it is weaker than each that leads there.
pub record IsGoodAt (P : Program) (thread : Thread) (lines : List Line) (labels : List Sides) (j : ℕ) (stmt : Stmt) : Type 0 where
  pub meets : Meets (premises P thread (take j lines) (take (j + 1) labels) stmt)
  pub after : (z : Bool) → WeakerThanEach (label_at labels (j + 1) z) (befores P thread (take j lines) (take (j + 1) labels) stmt z)

-- It does so at each of these lines of the thread, and begins as the thread does.
pub record IsGood (P : Program) (thread : Thread) (lines : List Line) (labels : List Sides) : Type 0 where
  pub begins : (z : Bool) → IsSame (label_at labels 0 z) (on z (start_of thread))
  pub each : (j : ℕ) (l : Line) → slice_get lines j ≡ Some l → IsGoodAt P thread lines labels j l.stmt

abbrev pub HasLabels : Program → Thread → List Line → Type 0
HasLabels P thread lines = (labels : List Sides) × IsGood P thread lines labels

-- ---- headers

-- what these lists name together
abbrev pub headers_bag : List Items → Part → ℕ
headers_bag [] p = 0
headers_bag (i ∷ is) p = bag_of i p + headers_bag is p

-- the parts of one sort alone
abbrev pub shares_of : (Part → ℕ) → Part → ℕ
shares_of bag (ShareOf b) = bag (ShareOf b)
shares_of bag (TokenOf u) = 0
shares_of bag Credit = 0

abbrev pub tokens_of : (Part → ℕ) → Part → ℕ
tokens_of bag (ShareOf b) = 0
tokens_of bag (TokenOf u) = bag (TokenOf u)
tokens_of bag Credit = 0

abbrev pub credits_of : (Part → ℕ) → Part → ℕ
credits_of bag (ShareOf b) = 0
credits_of bag (TokenOf u) = 0
credits_of bag Credit = bag Credit

-- A thread with a number holds no token, since each copy of it would.
abbrev pub is_empty : List ℕ → Bool
is_empty [] = true
is_empty (u ∷ us) = false

abbrev pub may_hold : Option Thread → Bool
may_hold None = true
may_hold (Some thread) = is_none thread.copy || is_empty thread.items.tokens

-- This is together at most what there is, and the line whose turn it is has no number or no token.
abbrev pub header_premises : Program → (Part → ℕ) → Bool → List (ℕ × Premise)
header_premises P bag alone = (premise_number OverShares, Covers (limit P) (shares_of bag)) ∷ (premise_number TokenTwice, Covers (limit P) (tokens_of bag)) ∷ (premise_number TokenTwice, Is alone) ∷ (premise_number OverCredits, Covers (limit P) (credits_of bag)) ∷ []

-- what the first lines of pools give, and what those of all pools and the first threads do
abbrev pub given_to_pools : Program → ℕ → Part → ℕ
given_to_pools P n = headers_bag (begun (take n P.stock) [])

abbrev pub given_to : Program → ℕ → Part → ℕ
given_to P n = headers_bag (begun P.stock (take n P.threads))

-- The lines of pools are asked this, and so is the header of a thread, with all threads up to its line, those of the line
-- included.
abbrev pub pool_asks : Program → ℕ → List (ℕ × Premise)
pool_asks P n = header_premises P (given_to_pools P n) true

abbrev pub header_asks : Program → ℕ → List (ℕ × Premise)
header_asks P i = header_premises P (given_to P (line_end P.threads i)) (may_hold (slice_get P.threads i))

-- ---- accepted programs

-- The thread's header meets its premises, and its lines have a labelling by the rules, which are over the program as the
-- thread names it.
pub record Passes (P : Program) (i : ℕ) (thread : Thread) : Type 0 where
  pub header : Meets (header_asks P i)
  pub labels : HasLabels (view_of P i) thread thread.lines

-- The lines of pools meet their premises, and each thread passes.
pub record Accepts (P : Program) : Type 0 where
  pub pools : Meets (pool_asks P (length P.stock))
  pub threads : (i : ℕ) (thread : Thread) → slice_get P.threads i ≡ Some thread → Passes P i thread

-- ---- refused programs

-- The line at j is the least line of the thread such that no labelling is good at all lines up to it, and v the least
-- number such that no labelling that is good before that line also meets its premises up to v.
pub record IsRefusedAt (P : Program) (thread : Thread) (j : ℕ) (line : Line) (v : ℕ) : Type 0 where
  pub line_is : slice_get thread.lines j ≡ Some line
  pub good_before : HasLabels P thread (take j thread.lines)
  pub none_up_to : HasLabels P thread (take (j + 1) thread.lines) → ⊥
  pub met_below : (labels : List Sides) × IsGood P thread (take j thread.lines) labels × MeetsBelow v (premises P thread (take j thread.lines) (take (j + 1) labels) line.stmt)
  pub never_met : (labels : List Sides) → IsGood P thread (take j thread.lines) labels → MeetsBelow (v + 1) (premises P thread (take j thread.lines) (take (j + 1) labels) line.stmt) → ⊥

-- A header line is refused by its own premises alone.
pub record IsHeaderRefused (P : Program) (i v : ℕ) : Type 0 where
  pub below : MeetsBelow v (header_asks P i)
  pub fails : MeetsBelow (v + 1) (header_asks P i) → ⊥

pub record IsBodyRefused (P : Program) (i : ℕ) (thread : Thread) (number v : ℕ) : Type 0 where
  pub header : Meets (header_asks P i)
  pub place : ℕ
  pub line : Line
  pub number_is : line.number ≡ number
  pub refused : IsRefusedAt (view_of P i) thread place line v

-- The line of a pool is refused, and none above it.
pub record IsPoolRefused (P : Program) (number v : ℕ) : Type 0 where
  pub index : ℕ
  pub stock : Stock
  pub stock_is : slice_get P.stock index ≡ Some stock
  pub number_is : stock.line ≡ number
  pub earlier : Meets (pool_asks P index)
  pub below : MeetsBelow v (pool_asks P (index + 1))
  pub fails : MeetsBelow (v + 1) (pool_asks P (index + 1)) → ⊥

-- The threads are judged in text order, each header before its body. What holds of the first copy of a line holds of the
-- others.
pub record IsThreadRefused (P : Program) (number v : ℕ) : Type 0 where
  pub pools : Meets (pool_asks P (length P.stock))
  pub index : ℕ
  pub thread : Thread
  pub thread_is : slice_get P.threads index ≡ Some thread
  pub earlier : (k : ℕ) (t : Thread) → k < index → slice_get P.threads k ≡ Some t → Passes P k t
  pub at : ((thread.line ≡ number) × IsHeaderRefused P index v) ⊎ IsBodyRefused P index thread number v

-- The program is refused at the line with this number, for the premise v. The lines of pools are before the threads.
abbrev pub IsRefused : Program → ℕ → ℕ → Type 0
IsRefused P number v = IsPoolRefused P number v ⊎ IsThreadRefused P number v
