-- Where the jumps of a made program lead.
use Rattle.std.proofs.Common.{ℕ, suc, ◌≡◌, ◌<◌, ◌≤◌, ◌⊎◌, inl, inr, List, [], ◌∷◌, length, Option, Some, None, slice_get, slice_index, refl, ap, lit≤, arith}
use Rattle.rc_lang.specs.declared.lines.Block.{Block}
use Rattle.rc_lang.specs.declared.lines.Block.TheVariants.{InArm, InLoop}
use Rattle.rc_lang.specs.declared.lines.Line.{Line}
use Rattle.rc_lang.specs.declared.lines.Stmt.{Stmt}
use Rattle.rc_lang.specs.declared.lines.Stmt.TheVariants.{Put, If, Else, EndIf, Peek, EndArm, EndPeek, Loop, EndLoop}
use Rattle.rc_lang.specs.declared.lines.Test.{Test}
use Rattle.rc_lang.specs.declared.lines.Test.TheVariants.{Take}
use Rattle.rc_lang.specs.Nesting.{Way, blocks_at, way_out, way_past, way_through}
use Rattle.rc_lang.specs.Program.{Program, Thread, ends_in, items_at, lines_in, lines_of, lists_in, lists_of, no_items, stmt_at}
use Rattle.rc_lang.specs.Kept.{IsItems, IsProgram, IsThread}
use Rattle.rc_lang.specs.Resolved.{HasArms, HasEnd, IsLinked, IsResolved}
use Rattle.rc_lang.proofs.Lookups.{EachNested, nested_here, stands_within}
use Rattle.rc_lang.proofs.Placed.{placed, placed_innermost}

-- What is kept of the lines of a made program's thread.
pub record IsLaid (lines : List Line) (ends : List ℕ) : Type 0 where
  pub each : EachNested lines
  pub linked : (j : ℕ) (s : Stmt) → stmt_at lines j ≡ Some s → IsLinked lines ends j s
  pub few : length lines ≤ 4096

pub laid : (P : Program) → IsProgram P → (i : ℕ) → IsLaid (lines_of P i) (ends_in (slice_get P.threads i))
laid P made i = go (slice_get P.threads i) refl
  where
    go : (o : Option Thread) → slice_get P.threads i ≡ o → IsLaid (lines_in o) (ends_in o)
    go None e = record { each = λ j l h. absurd (cc); linked = λ j s h. absurd (cc); few = lit≤ tt }
    go (Some t) e = let is = made.each i t e in record { each = is.nested.each; linked = is.linked; few = is.few_lines }

-- the thread that has a line
pub in_thread : (P : Program) → IsProgram P → (i j : ℕ) (s : Stmt) → stmt_at (lines_of P i) j ≡ Some s → (t : Thread) × IsThread P t × (stmt_at t.lines j ≡ Some s)
in_thread P made i j s h = go (slice_get P.threads i) refl h
  where
    go : (o : Option Thread) → slice_get P.threads i ≡ o → stmt_at (lines_in o) j ≡ Some s → (t : Thread) × IsThread P t × (stmt_at t.lines j ≡ Some s)
    go None e h = absurd (cc)
    go (Some t) e h = (t, made.each i t e, h)

-- the names of a line are resolved
pub resolved_in : (P : Program) → IsProgram P → (i j : ℕ) (s : Stmt) → stmt_at (lines_of P i) j ≡ Some s → (n lists : ℕ) × (n ≤ 64) × IsResolved P n lists s
resolved_in P made i j s h = let t = in_thread P made i j s h in (length t.0.variables, length t.0.lists, t.1.few_variables, t.1.resolved j s t.2)

-- A made program's line with a number of items names one of its thread's lists.
abbrev pub NamesList : ℕ → Stmt → Type 0
NamesList lists (Put pool k) = k < lists
NamesList lists (If (Take pool k)) = k < lists
NamesList lists _ = Unit {0}

names_list : (P : Program) (n lists : ℕ) (s : Stmt) → IsResolved P n lists s → NamesList lists s
names_list P n lists (Put pool k) h = h.1
names_list P n lists (If (Take pool k)) h = h.1
names_list P n lists _ h = tt

pub listed_in : (P : Program) → IsProgram P → (i j : ℕ) (s : Stmt) → stmt_at (lines_of P i) j ≡ Some s → NamesList (length (lists_of P i)) s
listed_in P made i j s h = go (slice_get P.threads i) refl h
  where
    go : (o : Option Thread) → slice_get P.threads i ≡ o → stmt_at (lines_in o) j ≡ Some s → NamesList (length (lists_in o)) s
    go None e h = absurd (cc)
    go (Some t) e h = names_list P (length t.variables) (length t.lists) s ((made.each i t e).resolved j s h)

-- The lists of a made program's thread are its items.
pub list_is_items : (P : Program) → IsProgram P → (i k : ℕ) → k < length (lists_of P i) → IsItems P (items_at (lists_of P i) k)
list_is_items P made i k lt = go (slice_get P.threads i) refl lt
  where
    go : (o : Option Thread) → slice_get P.threads i ≡ o → k < length (lists_in o) → IsItems P (items_at (lists_in o) k)
    go None e lt = absurd (omega arith)
    go (Some t) e lt = ((made.each i t e).lists k no_items lt).first

-- The place e is below place j, and a line is there.
pub record IsBelow (lines : List Line) (j e : ℕ) : Type 0 where
  pub below : j < e
  pub within : e < length lines
  pub few : e ≤ 4096

-- the innermost loop on the way out of blocks is one of them
pub loop_among : (way : Way) (bs : List Block) (o : ℕ) → (way_through way bs).loop ≡ Some o → (way.loop ≡ Some o) ⊎ ((d : ℕ) × (k : ℕ) × (slice_get bs d ≡ Some (InLoop o k)))
loop_among way [] o e = inl e
loop_among way (b ∷ bs) o e = elim (loop_among (way_past way b) bs o e) [
  | inl h ↦ here b h
  | inr h ↦ inr (suc h.0, h.1, h.2)
]
  where
    here : (b : Block) → (way_past way b).loop ≡ Some o → (way.loop ≡ Some o) ⊎ ((d : ℕ) × (k : ℕ) × (slice_get (b ∷ bs) d ≡ Some (InLoop o k)))
    here (InLoop p k) h = let q : p ≡ o = cc in inr (0, k, ap (λ x. Some (InLoop x k)) q)
    here _ h = inl h

module _ (lines : List Line) (ends : List ℕ) (l : IsLaid lines ends) where
  below : (j k : ℕ) (s : Stmt) → HasEnd lines ends k s → j < slice_index ends k → IsBelow lines j (slice_index ends k)
  below j k s h lt =
      let n : slice_index ends k < length lines = stands_within lines (slice_index ends k) s h.stands in
      let few : length lines ≤ 4096 = l.few in
      record { below = lt; within = n; few = omega arith }

  pub if_end : (j : ℕ) (test : Test) → stmt_at lines j ≡ Some (If test) → HasEnd lines ends j (Else j) ⊎ HasEnd lines ends j (EndIf j)
  if_end j test e = l.linked j (If test) e

  pub if_leads : (j : ℕ) (test : Test) → stmt_at lines j ≡ Some (If test) → IsBelow lines j (slice_index ends j)
  if_leads j test e = elim (if_end j test e) [
    | inl h ↦ below j j (Else j) h h.behind
    | inr h ↦ below j j (EndIf j) h h.behind
  ]

  pub else_end : (j o : ℕ) → stmt_at lines j ≡ Some (Else o) → HasEnd lines ends j (EndIf j)
  else_end j o e = l.linked j (Else o) e

  pub else_leads : (j o : ℕ) → stmt_at lines j ≡ Some (Else o) → IsBelow lines j (slice_index ends j)
  else_leads j o e = let h = else_end j o e in below j j (EndIf j) h h.behind

  pub peek_arms : (j x : ℕ) → stmt_at lines j ≡ Some (Peek x) → HasArms lines ends j
  peek_arms j x e = l.linked j (Peek x) e

  pub peek_leads : (j x : ℕ) → stmt_at lines j ≡ Some (Peek x) → IsBelow lines j (slice_index ends j)
  peek_leads j x e = let h = (peek_arms j x e).end in below j j (EndPeek j) h h.behind

  -- the peek that an arm's closing brace belongs to
  pub arm_peek : (j o : ℕ) → stmt_at lines j ≡ Some (EndArm o) → (x : ℕ) × (stmt_at lines o ≡ Some (Peek x))
  arm_peek j o e =
      let p = placed_innermost lines j (blocks_at lines j) (InArm o) (nested_here lines l.each j (EndArm o) e) (placed lines l.each j) in
      (p.variable, p.opens.stands)

  pub arm_leads : (j o : ℕ) → stmt_at lines j ≡ Some (EndArm o) → IsBelow lines j (slice_index ends o)
  arm_leads j o e =
      let p = arm_peek j o e in
      below j o (EndPeek o) (peek_arms o p.0 p.1).end (l.linked j (EndArm o) e)

  -- the loop that a closing brace belongs to, and the one that a break leaves
  pub loop_top : (j o k : ℕ) → stmt_at lines j ≡ Some (EndLoop o k) → (o < j) × (stmt_at lines o ≡ Some (Loop k))
  loop_top j o k e =
      let p = placed_innermost lines j (blocks_at lines j) (InLoop o k) (nested_here lines l.each j (EndLoop o k) e) (placed lines l.each j) in
      (p.before, p.stands)

  pub loop_end : (o k : ℕ) → stmt_at lines o ≡ Some (Loop k) → HasEnd lines ends o (EndLoop o k)
  loop_end o k e = l.linked o (Loop k) e

  pub loop_leads : (o k : ℕ) → stmt_at lines o ≡ Some (Loop k) → IsBelow lines o (slice_index ends o)
  loop_leads o k e = let h = loop_end o k e in below o o (EndLoop o k) h h.behind

  pub break_loop : (j o : ℕ) → (way_out (blocks_at lines j)).loop ≡ Some o → (k : ℕ) × (stmt_at lines o ≡ Some (Loop k))
  break_loop j o e = elim (loop_among _ (blocks_at lines j) o e) [
    | inl h ↦ absurd (cc)
    | inr h ↦ let p = placed lines l.each j h.0 (InLoop o h.1) h.2 in (h.1, p.stands)
  ]
