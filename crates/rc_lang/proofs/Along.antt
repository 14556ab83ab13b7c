-- Which locks are open, from a line to the next.
use Rattle.std.proofs.Common.{◌≡◌, ℕ, ◌+◌, List, [], ◌∷◌, ◌++◌, append_assoc, Some, refl, sym, ap, ◌∙◌, inl, inr}
use Rattle.rc_lang.specs.declared.lines.Block.{Block}
use Rattle.rc_lang.specs.declared.lines.Block.TheVariants.{InLock, InIf, InElse, InPeek, InArm, InLoop}
use Rattle.rc_lang.specs.declared.lines.Line.{Line}
use Rattle.rc_lang.specs.declared.lines.Locks.{Locks}
use Rattle.rc_lang.specs.declared.lines.Stmt.{Stmt}
use Rattle.rc_lang.specs.declared.lines.Stmt.TheVariants.{Do, Put, Lock, EndLock, Else, EndIf, EndArm, EndPeek, EndLoop, Break}
use Rattle.rc_lang.specs.Locks.{no_lock, with_locks, without_locks}
use Rattle.rc_lang.specs.Nesting.{blocks_at, locks_in}
use Rattle.rc_lang.specs.Program.{stmt_at}
use Rattle.rc_lang.proofs.Closing.{closes_arm, closes_if, closes_lock, closes_loop, closes_peek, given_back, turns}
use Rattle.rc_lang.proofs.Fitting.{no_cq_in_cq, none_in_sq}
use Rattle.rc_lang.proofs.Lookups.{EachNested, blocks_next, locks_more, nested_here, same_sides, with_none}

abbrev pub locks_behind : Locks → Stmt → Locks
locks_behind l (Lock m) = with_locks l m
locks_behind l (EndLock o m) = without_locks l m
locks_behind l _ = l

-- ---- one block more or less

pub same_locks : (bs : List Block) (b : Block) → locks_in (b ∷ []) ≡ no_lock → locks_in (bs ++ b ∷ []) ≡ locks_in bs
same_locks bs b e = locks_more bs (b ∷ []) ∙ ap (with_locks (locks_in bs)) e ∙ with_none (locks_in bs)

pub locks_pushed : (bs : List Block) (o : ℕ) (l : Locks) → locks_in (bs ++ InLock o l ∷ []) ≡ with_locks (locks_in bs) l
locks_pushed bs o l = locks_more bs (InLock o l ∷ []) ∙ ap (with_locks (locks_in bs)) (with_none l)

-- ---- from a line to the next

module _ (lines : List Line) (each : EachNested lines) (j : ℕ) where
  plain_pushed : (b : Block) → blocks_at lines (j + 1) ≡ blocks_at lines j ++ b ∷ [] → locks_in (b ∷ []) ≡ no_lock → locks_in (blocks_at lines (j + 1)) ≡ locks_in (blocks_at lines j)
  plain_pushed b n f = ap locks_in n ∙ same_locks (blocks_at lines j) b f

  plain_popped : (bs : List Block) (b c : Block) → blocks_at lines j ≡ bs ++ b ∷ [] → blocks_at lines (j + 1) ≡ bs ++ c ∷ [] → locks_in (b ∷ []) ≡ no_lock → locks_in (c ∷ []) ≡ no_lock → locks_in (blocks_at lines (j + 1)) ≡ locks_in (blocks_at lines j)
  plain_popped bs b c n m f g = ap locks_in m ∙ same_locks bs c g ∙ sym (same_locks bs b f) ∙ sym (ap locks_in n)

  plain_closed : (bs : List Block) (b : Block) → blocks_at lines j ≡ bs ++ b ∷ [] → blocks_at lines (j + 1) ≡ bs → locks_in (b ∷ []) ≡ no_lock → locks_in (blocks_at lines (j + 1)) ≡ locks_in (blocks_at lines j)
  plain_closed bs b n m f = ap locks_in m ∙ sym (same_locks bs b f) ∙ sym (ap locks_in n)

  lock_closed : (o : ℕ) (l : Locks) → stmt_at lines j ≡ Some (EndLock o l) → locks_in (blocks_at lines (j + 1)) ≡ without_locks (locks_in (blocks_at lines j)) l
  lock_closed o l e =
      let c = closes_lock lines each j o l e in
      let bs = blocks_at lines o in
      let order = (nested_here lines each o (Lock l) c.stands).0 in
      let sq = given_back (locks_in bs).sq l.sq (λ t. ap (λ (m : Locks). m.sq) (none_in_sq bs l order t)) in
      let cq = given_back (locks_in bs).cq l.cq (λ t. no_cq_in_cq bs l order t) in
      ap locks_in c.behind ∙ same_sides sq cq ∙ ap (λ m. without_locks m l) (sym (ap locks_in c.within ∙ locks_pushed bs o l))

  -- After a line those locks are open that were, with the ones that it takes or without those that it releases.
  pub locks_next : (s : Stmt) → stmt_at lines j ≡ Some s → locks_in (blocks_at lines (j + 1)) ≡ locks_behind (locks_in (blocks_at lines j)) s
  locks_next (Do op) e = ap locks_in (blocks_next lines j (Do op) e)
  locks_next (Put pool k) e = ap locks_in (blocks_next lines j (Put pool k) e)
  locks_next (Lock l) e = ap locks_in (blocks_next lines j (Lock l) e) ∙ locks_pushed (blocks_at lines j) j l
  locks_next (EndLock o l) e = lock_closed o l e
  locks_next (Else o) e = let c = turns lines each j o e in plain_popped (blocks_at lines o) (InIf o) (InElse j) c.within c.behind refl refl
  locks_next (EndIf o) e = elim (closes_if lines each j o e) [
    | inl c ↦ plain_closed (blocks_at lines o) (InIf o) c.1.within c.1.behind refl
    | inr c ↦ plain_closed (blocks_at lines c.opener) (InElse o) c.within c.behind refl
  ]
  locks_next (EndArm o) e = let c = closes_arm lines each j o e in plain_closed (blocks_at lines o ++ InPeek o ∷ []) (InArm o) (c.within ∙ sym (append_assoc (blocks_at lines o) (InPeek o ∷ []) (InArm o ∷ []))) c.behind refl
  locks_next (EndPeek o) e = let c = closes_peek lines each j o e in plain_closed (blocks_at lines o) (InPeek o) c.1.within c.1.behind refl
  locks_next (EndLoop o k) e = let c = closes_loop lines each j o k e in plain_closed (blocks_at lines o) (InLoop o k) c.within c.behind refl
  locks_next (Break o releases leaves) e = ap locks_in (blocks_next lines j (Break o releases leaves) e)
  locks_next s e = plain_pushed _ (blocks_next lines j s e) refl
