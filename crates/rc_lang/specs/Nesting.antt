-- Which blocks are open at a place of a thread, and which lines may be there.
use Rattle.std.specs.Prelude.{ℕ, ◌≡◌, ◌+◌, ◌-◌, ◌≤◌, ◌⊎◌, Bool, true, false, ◌&&◌, ◌||◌, List, [], ◌∷◌, ◌++◌, length, take, Option, Some, None, slice_get}
use Rattle.std.specs.List.{list_any}
use Rattle.rc_lang.specs.declared.lines.Block.{Block}
use Rattle.rc_lang.specs.declared.lines.Block.TheVariants.{InLock, InIf, InElse, InPeek, InArm, InLoop}
use Rattle.rc_lang.specs.declared.lines.Line.{Line}
use Rattle.rc_lang.specs.declared.lines.Locks.{Locks}
use Rattle.rc_lang.specs.declared.lines.Stmt.{Stmt}
use Rattle.rc_lang.specs.declared.lines.Stmt.TheVariants.{Lock, EndLock, If, Else, EndIf, Peek, Case, Other, Nothing, EndArm, EndPeek, Loop, EndLoop, Break}
use Rattle.rc_lang.specs.Locks.{is_some_lock, no_lock, with_locks}

-- Blocks are with the innermost last.
abbrev pub innermost : List Block → Option Block
innermost blocks = slice_get blocks (length blocks - 1)

abbrev pub without_innermost : List Block → List Block
without_innermost blocks = take (length blocks - 1) blocks

-- The blocks that are open after a line at place j, from those that are open before it.
abbrev pub blocks_behind : List Block → ℕ → Stmt → List Block
blocks_behind blocks j (Lock l) = blocks ++ InLock j l ∷ []
blocks_behind blocks j (If test) = blocks ++ InIf j ∷ []
blocks_behind blocks j (Else o) = without_innermost blocks ++ InElse j ∷ []
blocks_behind blocks j (Peek x) = blocks ++ InPeek j ∷ []
blocks_behind blocks j (Case o u) = blocks ++ InArm o ∷ []
blocks_behind blocks j (Other o) = blocks ++ InArm o ∷ []
blocks_behind blocks j (Nothing o) = blocks ++ InArm o ∷ []
blocks_behind blocks j (Loop k) = blocks ++ InLoop j k ∷ []
blocks_behind blocks j (EndLock o l) = without_innermost blocks
blocks_behind blocks j (EndIf o) = without_innermost blocks
blocks_behind blocks j (EndArm o) = without_innermost blocks
blocks_behind blocks j (EndPeek o) = without_innermost blocks
blocks_behind blocks j (EndLoop o k) = without_innermost blocks
blocks_behind blocks j _ = blocks

-- The blocks that are open after these lines, the first of which is at place j.
abbrev pub blocks_after : List Block → ℕ → List Line → List Block
blocks_after blocks j [] = blocks
blocks_after blocks j (line ∷ lines) = blocks_after (blocks_behind blocks j line.stmt) (j + 1) lines

-- The blocks that are open at a place.
abbrev pub blocks_at : List Line → ℕ → List Block
blocks_at lines j = blocks_after [] 0 (take j lines)

abbrev pub takes_sq : Block → Bool
takes_sq (InLock o l) = l.sq
takes_sq _ = false

abbrev pub takes_cq : Block → Bool
takes_cq (InLock o l) = l.cq
takes_cq _ = false

-- The locks that these blocks take.
abbrev pub locks_in : List Block → Locks
locks_in blocks = record { sq = list_any takes_sq blocks; cq = list_any takes_cq blocks }

abbrev pub is_peek : Block → Bool
is_peek (InPeek o) = true
is_peek _ = false

abbrev pub in_peek : List Block → Bool
in_peek blocks = list_any is_peek blocks

-- Directly in a peek are only its arms.
abbrev pub is_some_peek : Option Block → Bool
is_some_peek None = false
is_some_peek (Some b) = is_peek b

abbrev pub directly_in_peek : List Block → Bool
directly_in_peek blocks = is_some_peek (innermost blocks)

-- Locks nest in one order, cq before sq, so that no two threads wait for each other: sq is taken where it isn't open, and
-- cq where neither a lock nor a peek is open.
abbrev pub breaks_order : List Block → Locks → Bool
breaks_order blocks l = (l.sq && (locks_in blocks).sq) || (l.cq && (is_some_lock (locks_in blocks) || in_peek blocks))

-- The way of a break out of the blocks that are open, from the outermost in: the innermost loop, which locks are taken in
-- it on the way, and whether a peek is.
pub record Way : Type 0 where
  pub loop : Option ℕ
  pub releases : Locks
  pub leaves : Bool

abbrev pub way_past : Way → Block → Way
way_past way (InLock o l) = record way { releases = with_locks way.releases l }
way_past way (InPeek o) = record way { leaves = true }
way_past way (InLoop o k) = record { loop = Some o; releases = no_lock; leaves = false }
way_past way _ = way

abbrev pub way_through : Way → List Block → Way
way_through way [] = way
way_through way (b ∷ bs) = way_through (way_past way b) bs

abbrev pub way_out : List Block → Way
way_out blocks = way_through (record { loop = None; releases = no_lock; leaves = false }) blocks

-- The line may be where these blocks are open.
abbrev pub IsNestedIn : List Block → Stmt → Type 0
IsNestedIn blocks (Lock l) = (breaks_order blocks l ≡ false) × (directly_in_peek blocks ≡ false)
IsNestedIn blocks (EndLock o l) = innermost blocks ≡ Some (InLock o l)
IsNestedIn blocks (Else o) = innermost blocks ≡ Some (InIf o)
IsNestedIn blocks (EndIf o) = (innermost blocks ≡ Some (InIf o)) ⊎ (innermost blocks ≡ Some (InElse o))
IsNestedIn blocks (Peek x) = in_peek blocks ≡ false
IsNestedIn blocks (Case o u) = innermost blocks ≡ Some (InPeek o)
IsNestedIn blocks (Other o) = innermost blocks ≡ Some (InPeek o)
IsNestedIn blocks (Nothing o) = innermost blocks ≡ Some (InPeek o)
IsNestedIn blocks (EndArm o) = innermost blocks ≡ Some (InArm o)
IsNestedIn blocks (EndPeek o) = innermost blocks ≡ Some (InPeek o)
IsNestedIn blocks (Loop k) = in_peek blocks ≡ false
IsNestedIn blocks (EndLoop o k) = innermost blocks ≡ Some (InLoop o k)
IsNestedIn blocks (Break o releases leaves) = (directly_in_peek blocks ≡ false) × (way_out blocks ≡ record { loop = Some o; releases = releases; leaves = leaves })
IsNestedIn blocks _ = directly_in_peek blocks ≡ false

-- Each line may be at its place, at most 31 blocks are open inside the thread, and at its end none is.
pub record IsNested (lines : List Line) : Type 0 where
  pub each : (j : ℕ) (l : Line) → slice_get lines j ≡ Some l → IsNestedIn (blocks_at lines j) l.stmt
  pub depth : (j : ℕ) → length (blocks_at lines j) ≤ 31
  pub closed : blocks_at lines (length lines) ≡ []
