-- What a line that closes a block, or leads out of one, says of the line that opened it.
use Rattle.std.proofs.Common.{◌≡◌, ℕ, ◌+◌, ◌<◌, Bool, true, false, not, ◌||◌, ◌&&◌, List, [], ◌∷◌, ◌++◌, append_assoc, Some, None, refl, sym, ap, ◌∙◌, ◌⊎◌, inl, inr}
use Rattle.std.proofs.Math.Bool.{or-false, or-true}
use Rattle.std.proofs.lemmas.Bool.{or_right}
use Rattle.rc_lang.specs.declared.lines.Block.{Block}
use Rattle.rc_lang.specs.declared.lines.Block.TheVariants.{InLock, InIf, InElse, InPeek, InArm, InLoop}
use Rattle.rc_lang.specs.declared.lines.Line.{Line}
use Rattle.rc_lang.specs.declared.lines.Locks.{Locks}
use Rattle.rc_lang.specs.declared.lines.Stmt.{Stmt}
use Rattle.rc_lang.specs.declared.lines.Stmt.TheVariants.{Lock, EndLock, If, Else, EndIf, Peek, Case, Other, Nothing, EndArm, EndPeek, Loop, EndLoop, Break}
use Rattle.rc_lang.specs.declared.lines.Test.{Test}
use Rattle.rc_lang.specs.Locks.{no_lock, with_locks, without_locks}
use Rattle.rc_lang.specs.Nesting.{Way, blocks_at, in_peek, innermost, locks_in, way_out, way_past, way_through, without_innermost}
use Rattle.rc_lang.specs.Program.{stmt_at}
use Rattle.rc_lang.proofs.Lookups.{EachNested, blocks_next, in_peek_more, innermost_split, locks_more, nested_here, same_sides, with_moves, with_none}
use Rattle.rc_lang.proofs.Placed.{IsPlaced, OpensAt, placed, placed_innermost}
use Rattle.rc_lang.proofs.Fitting.{cq_is_once, fits_at, placed_at, sq_is_last}

-- ---- the words

-- The line at j closes the block that the line at o opened: after it is open what was open there.
pub record Closes (lines : List Line) (j o : ℕ) (s : Stmt) (b : Block) : Type 0 where
  pub before : o < j
  pub stands : stmt_at lines o ≡ Some s
  pub within : blocks_at lines j ≡ blocks_at lines o ++ b ∷ []
  pub behind : blocks_at lines (j + 1) ≡ blocks_at lines o

-- The line at j ends the first branch of the if at o and begins the second.
pub record Turns (lines : List Line) (j o : ℕ) : Type 0 where
  pub test : Test
  pub before : o < j
  pub stands : stmt_at lines o ≡ Some (If test)
  pub within : blocks_at lines j ≡ blocks_at lines o ++ InIf o ∷ []
  pub behind : blocks_at lines (j + 1) ≡ blocks_at lines o ++ InElse j ∷ []

-- The line at j closes the second branch of an if, which the else at o began.
pub record ClosesElse (lines : List Line) (j o : ℕ) : Type 0 where
  pub opener : ℕ
  pub test : Test
  pub before : o < j
  pub stands : stmt_at lines o ≡ Some (Else opener)
  pub turned : blocks_at lines o ≡ blocks_at lines opener ++ InIf opener ∷ []
  pub within : blocks_at lines j ≡ blocks_at lines opener ++ InElse o ∷ []
  pub behind : blocks_at lines (j + 1) ≡ blocks_at lines opener

-- The line at j opens an arm of the peek at o.
pub record OpensArm (lines : List Line) (j o : ℕ) : Type 0 where
  pub variable : ℕ
  pub before : o < j
  pub stands : stmt_at lines o ≡ Some (Peek variable)
  pub within : blocks_at lines j ≡ blocks_at lines o ++ InPeek o ∷ []
  pub behind : blocks_at lines (j + 1) ≡ blocks_at lines o ++ InPeek o ∷ InArm o ∷ []

-- The line at j closes an arm of the peek at o.
pub record ClosesArm (lines : List Line) (j o : ℕ) : Type 0 where
  pub variable : ℕ
  pub before : o < j
  pub stands : stmt_at lines o ≡ Some (Peek variable)
  pub within : blocks_at lines j ≡ blocks_at lines o ++ InPeek o ∷ InArm o ∷ []
  pub behind : blocks_at lines (j + 1) ≡ blocks_at lines o ++ InPeek o ∷ []

abbrev pub is_loop : Block → Bool
is_loop (InLoop o k) = true
is_loop _ = false

abbrev pub in_loop : List Block → Bool
in_loop [] = false
in_loop (b ∷ bs) = is_loop b || in_loop bs

-- The loop at o is the innermost of these blocks, with these locks in it, and with a peek exactly where that is said.
pub record IsWayOut (bs : List Block) (o : ℕ) (releases : Locks) (leaves : Bool) : Type 0 where
  pub number : ℕ
  pub outer : List Block
  pub inner : List Block
  pub split : bs ≡ outer ++ InLoop o number ∷ inner
  pub locks : locks_in inner ≡ releases
  pub peek : in_peek inner ≡ leaves
  pub no_loop : in_loop inner ≡ false

-- Each of these locks is among those.
pub record AreAmong (l m : Locks) : Type 0 where
  pub sq : l.sq ≡ true → m.sq ≡ true
  pub cq : l.cq ≡ true → m.cq ≡ true

-- The break at j leads out of the loop at o.
pub record LeavesLoop (lines : List Line) (j o : ℕ) (releases : Locks) (leaves : Bool) : Type 0 where
  pub number : ℕ
  pub inner : List Block
  pub before : o < j
  pub stands : stmt_at lines o ≡ Some (Loop number)
  pub within : blocks_at lines j ≡ blocks_at lines o ++ InLoop o number ∷ inner
  pub no_loop_between : in_loop inner ≡ false
  pub locks_outside : locks_in (blocks_at lines o) ≡ without_locks (locks_in (blocks_at lines j)) releases
  pub locked : AreAmong releases (locks_in (blocks_at lines j))
  pub peeked : in_peek (blocks_at lines j) ≡ leaves
  pub behind : blocks_at lines (j + 1) ≡ blocks_at lines j

-- ---- the way out

-- where no loop was passed
pub record IsWayPast (way : Way) (bs : List Block) (o : ℕ) (releases : Locks) (leaves : Bool) : Type 0 where
  pub loop : way.loop ≡ Some o
  pub locks : releases ≡ with_locks way.releases (locks_in bs)
  pub peek : leaves ≡ (way.leaves || in_peek bs)
  pub no_loop : in_loop bs ≡ false

module _ (o : ℕ) (releases : Locks) (leaves : Bool) where
  behind_more : (b : Block) (bs : List Block) → IsWayOut bs o releases leaves → IsWayOut (b ∷ bs) o releases leaves
  behind_more b bs w = record { number = w.number; outer = b ∷ w.outer; inner = w.inner; split = ap (λ xs. b ∷ xs) w.split; locks = w.locks; peek = w.peek; no_loop = w.no_loop }

  -- one more block on the way
  passed : (way : Way) (b : Block) (bs : List Block) → IsWayPast (way_past way b) bs o releases leaves → IsWayPast way (b ∷ bs) o releases leaves ⊎ IsWayOut (b ∷ bs) o releases leaves
  passed way (InLock p l) bs h = inl (record { loop = h.loop; locks = h.locks ∙ with_moves way.releases l (locks_in bs); peek = h.peek; no_loop = h.no_loop })
  passed way (InPeek p) bs h = inl (record { loop = h.loop; locks = h.locks; peek = h.peek ∙ sym (or-true way.leaves); no_loop = h.no_loop })
  passed way (InLoop p k) bs h = let q : p ≡ o = cc (h.loop) in inr (record { number = k; outer = []; inner = bs; split = ap (λ n. InLoop n k ∷ bs) q; locks = sym h.locks; peek = sym h.peek; no_loop = h.no_loop })
  passed way _ bs h = inl (record { loop = h.loop; locks = h.locks; peek = h.peek; no_loop = h.no_loop })

  pub way_found : (way : Way) (bs : List Block) → way_through way bs ≡ record { loop = Some o; releases = releases; leaves = leaves } → IsWayPast way bs o releases leaves ⊎ IsWayOut bs o releases leaves
  way_found way [] e = inl (record {
    loop = ap (λ (w : Way). w.loop) e;
    locks = sym (ap (λ (w : Way). w.releases) e) ∙ sym (with_none way.releases);
    peek = sym (ap (λ (w : Way). w.leaves) e) ∙ sym (or-false way.leaves);
    no_loop = refl;
  })
  way_found way (b ∷ bs) e = elim (way_found (way_past way b) bs e) [
    | inl h ↦ passed way b bs h
    | inr w ↦ inr (behind_more b bs w)
  ]

  pub way_out_found : (bs : List Block) → way_out bs ≡ record { loop = Some o; releases = releases; leaves = leaves } → IsWayOut bs o releases leaves
  way_out_found bs e = elim (way_found (record { loop = None; releases = no_lock; leaves = false }) bs e) [
    | inl h ↦ absurd (cc (h.loop))
    | inr w ↦ w
  ]

-- ---- what each line says

pub given_back : (a r : Bool) → (a ≡ true → r ≡ false) → a ≡ ((a || r) && not r)
given_back true true h = h refl
given_back true false h = refl
given_back false true h = refl
given_back false false h = refl

module _ (lines : List Line) (each : EachNested lines) (j : ℕ) where
  innermost_placed : (b : Block) → innermost (blocks_at lines j) ≡ Some b → IsPlaced lines j (without_innermost (blocks_at lines j)) b
  innermost_placed b e = placed_innermost lines j (blocks_at lines j) b e (placed lines each j)

  closes : (o : ℕ) (s : Stmt) (b : Block) → innermost (blocks_at lines j) ≡ Some b → OpensAt lines j o s (without_innermost (blocks_at lines j)) → blocks_at lines (j + 1) ≡ without_innermost (blocks_at lines j) → Closes lines j o s b
  closes o s b n h e = record {
    before = h.before;
    stands = h.stands;
    within = innermost_split (blocks_at lines j) b n ∙ ap (λ x. x ++ b ∷ []) (sym h.blocks);
    behind = e ∙ sym h.blocks;
  }

  pub closes_lock : (o : ℕ) (l : Locks) → stmt_at lines j ≡ Some (EndLock o l) → Closes lines j o (Lock l) (InLock o l)
  closes_lock o l e = let n = nested_here lines each j (EndLock o l) e in closes o (Lock l) (InLock o l) n (innermost_placed (InLock o l) n) (blocks_next lines j (EndLock o l) e)

  pub closes_peek : (o : ℕ) → stmt_at lines j ≡ Some (EndPeek o) → (x : ℕ) × Closes lines j o (Peek x) (InPeek o)
  closes_peek o e = let n = nested_here lines each j (EndPeek o) e in let h = innermost_placed (InPeek o) n in (h.0, closes o (Peek h.0) (InPeek o) n h.1 (blocks_next lines j (EndPeek o) e))

  pub closes_loop : (o k : ℕ) → stmt_at lines j ≡ Some (EndLoop o k) → Closes lines j o (Loop k) (InLoop o k)
  closes_loop o k e = let n = nested_here lines each j (EndLoop o k) e in closes o (Loop k) (InLoop o k) n (innermost_placed (InLoop o k) n) (blocks_next lines j (EndLoop o k) e)

  pub turns : (o : ℕ) → stmt_at lines j ≡ Some (Else o) → Turns lines j o
  turns o e =
      let n = nested_here lines each j (Else o) e in
      let h = innermost_placed (InIf o) n in
      record {
        test = h.0;
        before = h.1.before;
        stands = h.1.stands;
        within = innermost_split (blocks_at lines j) (InIf o) n ∙ ap (λ x. x ++ InIf o ∷ []) (sym h.1.blocks);
        behind = blocks_next lines j (Else o) e ∙ ap (λ x. x ++ InElse j ∷ []) (sym h.1.blocks);
      }

  pub closes_if : (o : ℕ) → stmt_at lines j ≡ Some (EndIf o) → ((test : Test) × Closes lines j o (If test) (InIf o)) ⊎ ClosesElse lines j o
  closes_if o e = elim (nested_here lines each j (EndIf o) e) [
    | inl n ↦ let h = innermost_placed (InIf o) n in inl (h.0, closes o (If h.0) (InIf o) n h.1 (blocks_next lines j (EndIf o) e))
    | inr n ↦ let h = innermost_placed (InElse o) n in inr (record {
      opener = h.opener;
      test = h.test;
      before = h.turns.before;
      stands = h.turns.stands;
      turned = h.turns.blocks ∙ ap (λ x. x ++ InIf h.opener ∷ []) (sym h.opens.blocks);
      within = innermost_split (blocks_at lines j) (InElse o) n ∙ ap (λ x. x ++ InElse o ∷ []) (sym h.opens.blocks);
      behind = blocks_next lines j (EndIf o) e ∙ sym h.opens.blocks;
    })
  ]

  opens_arm : (o : ℕ) → innermost (blocks_at lines j) ≡ Some (InPeek o) → blocks_at lines (j + 1) ≡ blocks_at lines j ++ InArm o ∷ [] → OpensArm lines j o
  opens_arm o n e =
      let h = innermost_placed (InPeek o) n in
      let w : blocks_at lines j ≡ blocks_at lines o ++ InPeek o ∷ [] = innermost_split (blocks_at lines j) (InPeek o) n ∙ ap (λ x. x ++ InPeek o ∷ []) (sym h.1.blocks) in
      record {
        variable = h.0;
        before = h.1.before;
        stands = h.1.stands;
        within = w;
        behind = e ∙ ap (λ x. x ++ InArm o ∷ []) w ∙ append_assoc (blocks_at lines o) (InPeek o ∷ []) (InArm o ∷ []);
      }

  pub opens_case : (o u : ℕ) → stmt_at lines j ≡ Some (Case o u) → OpensArm lines j o
  opens_case o u e = opens_arm o (nested_here lines each j (Case o u) e) (blocks_next lines j (Case o u) e)

  pub opens_other : (o : ℕ) → stmt_at lines j ≡ Some (Other o) → OpensArm lines j o
  opens_other o e = opens_arm o (nested_here lines each j (Other o) e) (blocks_next lines j (Other o) e)

  pub opens_nothing : (o : ℕ) → stmt_at lines j ≡ Some (Nothing o) → OpensArm lines j o
  opens_nothing o e = opens_arm o (nested_here lines each j (Nothing o) e) (blocks_next lines j (Nothing o) e)

  pub closes_arm : (o : ℕ) → stmt_at lines j ≡ Some (EndArm o) → ClosesArm lines j o
  closes_arm o e =
      let n = nested_here lines each j (EndArm o) e in
      let h = innermost_placed (InArm o) n in
      record {
        variable = h.variable;
        before = h.opens.before;
        stands = h.opens.stands;
        within = innermost_split (blocks_at lines j) (InArm o) n ∙ ap (λ x. x ++ InArm o ∷ []) h.within ∙ append_assoc (blocks_at lines o) (InPeek o ∷ []) (InArm o ∷ []);
        behind = blocks_next lines j (EndArm o) e ∙ h.within;
      }

  pub leaves_loop : (o : ℕ) (releases : Locks) (leaves : Bool) → stmt_at lines j ≡ Some (Break o releases leaves) → LeavesLoop lines j o releases leaves
  leaves_loop o releases leaves e =
      let n = nested_here lines each j (Break o releases leaves) e in
      let w = way_out_found o releases leaves (blocks_at lines j) n.1 in
      let h = placed_at lines each j w.outer (InLoop o w.number) w.inner w.split in
      let s : blocks_at lines j ≡ blocks_at lines o ++ InLoop o w.number ∷ w.inner = w.split ∙ ap (λ x. x ++ InLoop o w.number ∷ w.inner) (sym h.blocks) in
      let f : in_peek (blocks_at lines o) ≡ false = ap in_peek h.blocks ∙ fits_at lines each j w.outer (InLoop o w.number) w.inner w.split in
      let l : locks_in (blocks_at lines j) ≡ with_locks (locks_in (blocks_at lines o)) releases = ap locks_in s ∙ locks_more (blocks_at lines o) (InLoop o w.number ∷ w.inner) ∙ ap (with_locks (locks_in (blocks_at lines o))) w.locks in
      let sq = given_back (locks_in (blocks_at lines o)).sq releases.sq (λ t. ap (λ (m : Locks). m.sq) (sym w.locks ∙ sq_is_last lines each j (blocks_at lines o) (InLoop o w.number ∷ w.inner) s t)) in
      let cq = given_back (locks_in (blocks_at lines o)).cq releases.cq (λ t. ap (λ (m : Locks). m.cq) (sym w.locks) ∙ cq_is_once lines each j (blocks_at lines o) (InLoop o w.number ∷ w.inner) s t) in
      let p : in_peek (blocks_at lines j) ≡ (in_peek (blocks_at lines o) || leaves) = ap in_peek s ∙ in_peek_more (blocks_at lines o) (InLoop o w.number ∷ w.inner) ∙ ap (λ x. in_peek (blocks_at lines o) || x) w.peek in
      record {
        number = w.number;
        inner = w.inner;
        before = h.before;
        stands = h.stands;
        within = s;
        no_loop_between = w.no_loop;
        locks_outside = same_sides sq cq ∙ ap (λ x. without_locks x releases) (sym l);
        locked = record {
          sq = λ t. ap (λ (m : Locks). m.sq) l ∙ or_right (locks_in (blocks_at lines o)).sq releases.sq t;
          cq = λ t. ap (λ (m : Locks). m.cq) l ∙ or_right (locks_in (blocks_at lines o)).cq releases.cq t;
        };
        peeked = p ∙ ap (λ x. x || leaves) f;
        behind = blocks_next lines j (Break o releases leaves) e;
      }
