-- Where a thread may go from a line, and which blocks are open there.
use Rattle.std.proofs.Common.{◌≡◌, ℕ, ◌+◌, ◌<◌, ◌≤◌, Bool, true, false, List, [], ◌∷◌, ◌++◌, length, Some, refl, sym, ap, ◌∙◌, slice_index, ◌⊎◌, inl, inr, arith}
use Rattle.rc_lang.specs.declared.lines.Block.{Block}
use Rattle.rc_lang.specs.declared.lines.Block.TheVariants.{InLock, InIf, InElse, InPeek, InArm, InLoop}
use Rattle.rc_lang.specs.declared.lines.Line.{Line}
use Rattle.rc_lang.specs.declared.lines.Locks.{Locks}
use Rattle.rc_lang.specs.declared.lines.Stmt.{Stmt}
use Rattle.rc_lang.specs.declared.lines.Stmt.TheVariants.{Do, Put, EndLock, If, Else, EndIf, Peek, Case, Other, Nothing, EndArm, EndPeek, Loop, EndLoop, Break}
use Rattle.rc_lang.specs.declared.lines.Test.{Test}
use Rattle.rc_lang.specs.Nesting.{blocks_at, blocks_behind, directly_in_peek, innermost, IsNestedIn, without_innermost}
use Rattle.rc_lang.specs.Program.{stmt_at}
use Rattle.rc_lang.specs.Resolved.{HasArms, HasEnd, IsLinked}
use Rattle.rc_lang.proofs.Closing.{OpensArm, closes_arm, closes_if, closes_loop, closes_peek, leaves_loop, opens_case, opens_nothing, opens_other, turns}
use Rattle.rc_lang.proofs.Fitting.{FitsIn, fits_in}
use Rattle.rc_lang.proofs.Lookups.{EachNested, blocks_next, directly_pushed, nested_here, not_directly, stands_within}
use Rattle.rc_lang.proofs.Placed.{placed, placed_innermost}

-- ---- the words

-- Each line may be at its place, and leads where the table says.
pub record IsLaid (lines : List Line) (ends : List ℕ) : Type 0 where
  pub each : EachNested lines
  pub linked : (j : ℕ) (s : Stmt) → stmt_at lines j ≡ Some s → IsLinked lines ends j s

-- From place j a thread goes ahead to place k, where these blocks are open.
pub record LandsAt (lines : List Line) (j k : ℕ) (bs : List Block) : Type 0 where
  pub ahead : j < k
  pub within : k ≤ length lines
  pub blocks : blocks_at lines k ≡ bs

-- A false if leads after its else, or after its closing brace where it has none.
pub record LeadsToElse (lines : List Line) (j k : ℕ) : Type 0 where
  pub stands : stmt_at lines k ≡ Some (Else j)
  pub lands : LandsAt lines j (k + 1) (blocks_at lines j ++ InElse k ∷ [])

pub record LeadsToEnd (lines : List Line) (j k : ℕ) : Type 0 where
  pub stands : stmt_at lines k ≡ Some (EndIf j)
  pub lands : LandsAt lines j (k + 1) (blocks_at lines j)

-- A break leads after the loop's closing brace, and the end of an arm after that of the peek.
pub record LeadsOut (lines : List Line) (j o k : ℕ) (s : Stmt) : Type 0 where
  pub stands : stmt_at lines k ≡ Some s
  pub lands : LandsAt lines j (k + 1) (blocks_at lines o)

-- A place that a thread may go to: what is there isn't directly in a peek.
pub record IsOpen (lines : List Line) (j : ℕ) : Type 0 where
  pub within : j ≤ length lines
  pub outside : directly_in_peek (blocks_at lines j) ≡ false

-- A thread may go after such a line: it opens no peek and ends no arm.
abbrev pub leads_open : Stmt → Bool
leads_open (Peek x) = false
leads_open (EndArm o) = false
leads_open _ = true

-- ---- the next place

module _ (lines : List Line) (each : EachNested lines) where
  popped_fits : (j : ℕ) (b : Block) → innermost (blocks_at lines j) ≡ Some b → FitsIn (without_innermost (blocks_at lines j)) b
  popped_fits j b n = fits_in lines each j (without_innermost (blocks_at lines j)) b (placed_innermost lines j (blocks_at lines j) b n (placed lines each j))

  outside_behind : (j : ℕ) (s : Stmt) → leads_open s ≡ true → IsNestedIn (blocks_at lines j) s → directly_in_peek (blocks_behind (blocks_at lines j) j s) ≡ false
  outside_behind j (Do op) g n = n
  outside_behind j (Put pool k) g n = n
  outside_behind j (EndLock o l) g n = (popped_fits j (InLock o l) n).1
  outside_behind j (EndIf o) g n = elim n [ inl h ↦ popped_fits j (InIf o) h | inr h ↦ popped_fits j (InElse o) h ]
  outside_behind j (Peek x) g n = absurd (cc)
  outside_behind j (EndArm o) g n = absurd (cc)
  outside_behind j (EndPeek o) g n = not_directly (without_innermost (blocks_at lines j)) (popped_fits j (InPeek o) n)
  outside_behind j (EndLoop o k) g n = not_directly (without_innermost (blocks_at lines j)) (popped_fits j (InLoop o k) n)
  outside_behind j (Break o releases leaves) g n = n.0
  outside_behind j _ g n = rw directly_pushed

  pub open_behind : (j : ℕ) (s : Stmt) → stmt_at lines j ≡ Some s → leads_open s ≡ true → IsOpen lines (j + 1)
  open_behind j s e g = record {
    within = let lt : j < length lines = stands_within lines j s e in omega arith;
    outside = ap directly_in_peek (blocks_next lines j s e) ∙ outside_behind j s g (nested_here lines each j s e);
  }

  pub open_start : IsOpen lines 0
  open_start = record { within = omega arith; outside = refl }

-- ---- jumps

module _ (lines : List Line) (ends : List ℕ) (laid : IsLaid lines ends) (j : ℕ) where
  lands : (k : ℕ) (s : Stmt) (bs : List Block) → j < k → stmt_at lines k ≡ Some s → blocks_at lines (k + 1) ≡ bs → LandsAt lines j (k + 1) bs
  lands k s bs lt e b = record { ahead = omega arith; within = let w : k < length lines = stands_within lines k s e in omega arith; blocks = b }

  -- a false if
  pub false_leads : (test : Test) → stmt_at lines j ≡ Some (If test) → LeadsToElse lines j (slice_index ends j) ⊎ LeadsToEnd lines j (slice_index ends j)
  false_leads test e = elim (laid.linked j (If test) e) [
    | inl h ↦ inl (record { stands = h.stands; lands = lands (slice_index ends j) (Else j) (blocks_at lines j ++ InElse (slice_index ends j) ∷ []) h.behind h.stands (turns lines laid.each (slice_index ends j) j h.stands).behind })
    | inr h ↦ inr (record { stands = h.stands; lands = lands (slice_index ends j) (EndIf j) (blocks_at lines j) h.behind h.stands (the_end h) })
  ]
    where
      the_end : HasEnd lines ends j (EndIf j) → blocks_at lines (slice_index ends j + 1) ≡ blocks_at lines j
      the_end h = elim (closes_if lines laid.each (slice_index ends j) j h.stands) [
        | inl c ↦ c.1.behind
        | inr c ↦ absurd (cc (e, c.stands))
      ]

  -- an else that is reached from above leads after the closing brace
  pub else_leads : (o : ℕ) → stmt_at lines j ≡ Some (Else o) → LeadsOut lines j o (slice_index ends j) (EndIf j)
  else_leads o e =
      let h : HasEnd lines ends j (EndIf j) = laid.linked j (Else o) e in
      record { stands = h.stands; lands = lands (slice_index ends j) (EndIf j) (blocks_at lines o) h.behind h.stands (the_end h) }
    where
      the_end : HasEnd lines ends j (EndIf j) → blocks_at lines (slice_index ends j + 1) ≡ blocks_at lines o
      the_end h = elim (closes_if lines laid.each (slice_index ends j) j h.stands) [
        | inl c ↦ absurd (cc (e, c.1.stands))
        | inr c ↦ let q : c.opener ≡ o = cc (e, c.stands) in c.behind ∙ ap (λ k. blocks_at lines k) q
      ]

  -- the end of an arm
  pub arm_leads : (o : ℕ) → stmt_at lines j ≡ Some (EndArm o) → LeadsOut lines j o (slice_index ends o) (EndPeek o)
  arm_leads o e =
      let c = closes_arm lines laid.each j o e in
      let h : HasArms lines ends o = laid.linked o (Peek c.variable) c.stands in
      let lt : j < slice_index ends o = laid.linked j (EndArm o) e in
      record { stands = h.end.stands; lands = lands (slice_index ends o) (EndPeek o) (blocks_at lines o) lt h.end.stands (closes_peek lines laid.each (slice_index ends o) o h.end.stands).1.behind }

  -- a break
  pub break_leads : (o : ℕ) (releases : Locks) (leaves : Bool) → stmt_at lines j ≡ Some (Break o releases leaves) → (k : ℕ) × LeadsOut lines j o (slice_index ends o) (EndLoop o k)
  break_leads o releases leaves e =
      let c = leaves_loop lines laid.each j o releases leaves e in
      let h : HasEnd lines ends o (EndLoop o c.number) = laid.linked o (Loop c.number) c.stands in
      let lt : j < slice_index ends o = laid.linked j (Break o releases leaves) e in
      (c.number, record { stands = h.stands; lands = lands (slice_index ends o) (EndLoop o c.number) (blocks_at lines o) lt h.stands (closes_loop lines laid.each (slice_index ends o) o c.number h.stands).behind })

  -- the end of a loop leads back after its first line
  pub back_leads : (o k : ℕ) → stmt_at lines j ≡ Some (EndLoop o k) → (o + 1 ≤ j) × (blocks_at lines (o + 1) ≡ blocks_at lines j)
  back_leads o k e =
      let c = closes_loop lines laid.each j o k e in
      let lt : o < j = c.before in
      (omega arith, blocks_next lines o (Loop k) c.stands ∙ sym c.within)

  -- a peek leads after the first line of one of its arms
  arm_lands : (k : ℕ) (s : Stmt) → stmt_at lines k ≡ Some s → OpensArm lines k j → LandsAt lines j (k + 1) (blocks_at lines j ++ InPeek j ∷ InArm j ∷ [])
  arm_lands k s e c = lands k s (blocks_at lines j ++ InPeek j ∷ InArm j ∷ []) c.before e c.behind

  pub case_lands : (k u : ℕ) → stmt_at lines k ≡ Some (Case j u) → LandsAt lines j (k + 1) (blocks_at lines j ++ InPeek j ∷ InArm j ∷ [])
  case_lands k u e = arm_lands k (Case j u) e (opens_case lines laid.each k j u e)

  pub other_lands : (k : ℕ) → stmt_at lines k ≡ Some (Other j) → LandsAt lines j (k + 1) (blocks_at lines j ++ InPeek j ∷ InArm j ∷ [])
  other_lands k e = arm_lands k (Other j) e (opens_other lines laid.each k j e)

  pub nothing_lands : (k : ℕ) → stmt_at lines k ≡ Some (Nothing j) → LandsAt lines j (k + 1) (blocks_at lines j ++ InPeek j ∷ InArm j ∷ [])
  nothing_lands k e = arm_lands k (Nothing j) e (opens_nothing lines laid.each k j e)

  -- and each of these places is open
  pub false_open : (test : Test) → stmt_at lines j ≡ Some (If test) → IsOpen lines (slice_index ends j + 1)
  false_open test e = elim (laid.linked j (If test) e) [
    | inl h ↦ open_behind lines laid.each (slice_index ends j) (Else j) h.stands refl
    | inr h ↦ open_behind lines laid.each (slice_index ends j) (EndIf j) h.stands refl
  ]

  pub else_open : (o : ℕ) → stmt_at lines j ≡ Some (Else o) → IsOpen lines (slice_index ends j + 1)
  else_open o e = open_behind lines laid.each (slice_index ends j) (EndIf j) (else_leads o e).stands refl

  pub arm_open : (o : ℕ) → stmt_at lines j ≡ Some (EndArm o) → IsOpen lines (slice_index ends o + 1)
  arm_open o e = open_behind lines laid.each (slice_index ends o) (EndPeek o) (arm_leads o e).stands refl

  pub break_open : (o : ℕ) (releases : Locks) (leaves : Bool) → stmt_at lines j ≡ Some (Break o releases leaves) → IsOpen lines (slice_index ends o + 1)
  break_open o releases leaves e = let b = break_leads o releases leaves e in open_behind lines laid.each (slice_index ends o) (EndLoop o b.0) b.1.stands refl

  pub back_open : (o k : ℕ) → stmt_at lines j ≡ Some (EndLoop o k) → IsOpen lines (o + 1)
  back_open o k e = open_behind lines laid.each o (Loop k) (closes_loop lines laid.each j o k e).stands refl
