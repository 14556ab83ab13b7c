-- Which blocks are in which: each lock is open at most once, that of the completion side before that of the submission
-- side, and at most one peek.
use Rattle.std.proofs.Common.{◌≡◌, ℕ, Bool, true, false, ◌||◌, ◌&&◌, List, [], ◌∷◌, ◌++◌, append_assoc, Some, refl, sym, ap, ◌∙◌, subst}
use Rattle.std.proofs.lemmas.Bool.{or_left, or_parts, or_right}
use Rattle.rc_lang.specs.declared.lines.Block.{Block}
use Rattle.rc_lang.specs.declared.lines.Block.TheVariants.{InLock, InIf, InElse, InPeek, InArm, InLoop}
use Rattle.rc_lang.specs.declared.lines.Line.{Line}
use Rattle.rc_lang.specs.declared.lines.Locks.{Locks}
use Rattle.rc_lang.specs.declared.lines.Stmt.{Stmt}
use Rattle.rc_lang.specs.declared.lines.Stmt.TheVariants.{Lock, If, Peek, Loop}
use Rattle.rc_lang.specs.Locks.{is_some_lock, no_lock}
use Rattle.rc_lang.specs.Nesting.{blocks_at, breaks_order, directly_in_peek, in_peek, innermost, is_peek, IsNestedIn, locks_in, takes_cq}
use Rattle.rc_lang.proofs.Lookups.{EachNested, in_peek_pushed, innermost_pushed, locks_more, nested_here, same_sides}
use Rattle.rc_lang.proofs.Placed.{ArePlaced, EachPlaced, IsPlaced, OpensAt, each_placed, placed, placed_between}

-- Locks are nested in their order, a peek and a loop are in no peek; directly in a peek are only its arms.
abbrev pub FitsIn : List Block → Block → Type 0
FitsIn outer (InLock o l) = (breaks_order outer l ≡ false) × (directly_in_peek outer ≡ false)
FitsIn outer (InIf o) = directly_in_peek outer ≡ false
FitsIn outer (InElse o) = directly_in_peek outer ≡ false
FitsIn outer (InPeek o) = in_peek outer ≡ false
FitsIn outer (InArm o) = innermost outer ≡ Some (InPeek o)
FitsIn outer (InLoop o k) = in_peek outer ≡ false

-- ---- the order of locks

not_first : (a b : Bool) → (a && b) ≡ false → b ≡ true → a ≡ false
not_first false b e f = refl
not_first true b e f = absurd (cc)

-- what a lock doesn't take, where another or a peek is open
module _ (outer : List Block) (l : Locks) (kept : breaks_order outer l ≡ false) where
  parts : ((l.sq && (locks_in outer).sq) ≡ false) × ((l.cq && (is_some_lock (locks_in outer) || in_peek outer)) ≡ false)
  parts = or_parts (l.sq && (locks_in outer).sq) (l.cq && (is_some_lock (locks_in outer) || in_peek outer)) kept

  not_cq : (is_some_lock (locks_in outer) || in_peek outer) ≡ true → l.cq ≡ false
  not_cq e = not_first l.cq (is_some_lock (locks_in outer) || in_peek outer) parts.1 e

  pub none_in_sq : (locks_in outer).sq ≡ true → l ≡ no_lock
  none_in_sq e = same_sides (not_first l.sq (locks_in outer).sq parts.0 e) (not_cq (or_left (is_some_lock (locks_in outer)) (in_peek outer) (or_left (locks_in outer).sq (locks_in outer).cq e)))

  pub no_cq_in_cq : (locks_in outer).cq ≡ true → l.cq ≡ false
  no_cq_in_cq e = not_cq (or_left (is_some_lock (locks_in outer)) (in_peek outer) (or_right (locks_in outer).sq (locks_in outer).cq e))

  pub no_cq_in_peek : in_peek outer ≡ true → l.cq ≡ false
  no_cq_in_peek e = not_cq (or_right (is_some_lock (locks_in outer)) (in_peek outer) e)

-- ---- lists

pub peek_found : (bs : List Block) → in_peek bs ≡ true → (outer : List Block) × (o : ℕ) × (inner : List Block) × (bs ≡ outer ++ InPeek o ∷ inner)
peek_found [] e = absurd (cc)
peek_found (InPeek o ∷ bs) e = ([], o, bs, refl)
peek_found (b ∷ bs) e = let h = peek_found bs e in (b ∷ h.0, h.1, h.2, ap (λ xs. b ∷ xs) h.3)

module _ (lines : List Line) (each : EachNested lines) where
  nested_in : (j o : ℕ) (s : Stmt) (outer : List Block) → OpensAt lines j o s outer → IsNestedIn outer s
  nested_in j o s outer h = subst (λ bs. IsNestedIn bs s) h.blocks (nested_here lines each o s h.stands)

  pub fits_in : (j : ℕ) (outer : List Block) (b : Block) → IsPlaced lines j outer b → FitsIn outer b
  fits_in j outer (InLock o l) h = nested_in j o (Lock l) outer h
  fits_in j outer (InIf o) h = nested_in j o (If h.0) outer h.1
  fits_in j outer (InElse o) h = nested_in o h.opener (If h.test) outer h.opens
  fits_in j outer (InPeek o) h = nested_in j o (Peek h.0) outer h.1
  fits_in j outer (InArm o) h = ap innermost h.within ∙ innermost_pushed (blocks_at lines o) (InPeek o)
  fits_in j outer (InLoop o k) h = nested_in j o (Loop k) outer h

  outer_sq : (outer : List Block) (b : Block) → (locks_in outer).sq ≡ true → (locks_in (outer ++ b ∷ [])).sq ≡ true
  outer_sq outer b e = ap (λ (l : Locks). l.sq) (locks_more outer (b ∷ [])) ∙ or_left (locks_in outer).sq (locks_in (b ∷ [])).sq e

  outer_cq : (outer : List Block) (b : Block) → (locks_in outer).cq ≡ true → (locks_in (outer ++ b ∷ [])).cq ≡ true
  outer_cq outer b e = ap (λ (l : Locks). l.cq) (locks_more outer (b ∷ [])) ∙ or_left (locks_in outer).cq (locks_in (b ∷ [])).cq e

  -- in a lock of the submission side is none, in one of the completion side none of that side
  none_within_sq : (j : ℕ) (outer bs : List Block) → EachPlaced lines j outer bs → (locks_in outer).sq ≡ true → locks_in bs ≡ no_lock
  none_within_sq j outer [] all e = refl
  none_within_sq j outer (b ∷ bs) all e = go b (fits_in j outer b all.0) (none_within_sq j (outer ++ b ∷ []) bs all.1 (outer_sq outer b e))
    where
      go : (c : Block) → FitsIn outer c → locks_in bs ≡ no_lock → locks_in (c ∷ bs) ≡ no_lock
      go (InLock o l) f h =
          let none = none_in_sq outer l f.0 e in
          same_sides (ap (λ (m : Locks). m.sq || (locks_in bs).sq) none ∙ ap (λ (m : Locks). m.sq) h) (ap (λ (m : Locks). m.cq || (locks_in bs).cq) none ∙ ap (λ (m : Locks). m.cq) h)
      go _ f h = h

  no_cq_within : (j : ℕ) (outer bs : List Block) → EachPlaced lines j outer bs → (locks_in outer).cq ≡ true → (locks_in bs).cq ≡ false
  no_cq_within j outer [] all e = refl
  no_cq_within j outer (b ∷ bs) all e = go b (fits_in j outer b all.0) (no_cq_within j (outer ++ b ∷ []) bs all.1 (outer_cq outer b e))
    where
      go : (c : Block) → FitsIn outer c → (locks_in bs).cq ≡ false → (takes_cq c || (locks_in bs).cq) ≡ false
      go (InLock o l) f h = ap (λ x. x || (locks_in bs).cq) (no_cq_in_cq outer l f.0 e) ∙ h
      go _ f h = h

  -- in a peek are neither a lock of the completion side nor another peek
  none_within_peek : (j : ℕ) (outer bs : List Block) → EachPlaced lines j outer bs → in_peek outer ≡ true → ((locks_in bs).cq ≡ false) × (in_peek bs ≡ false)
  none_within_peek j outer [] all e = (refl, refl)
  none_within_peek j outer (b ∷ bs) all e = go b (fits_in j outer b all.0) (none_within_peek j (outer ++ b ∷ []) bs all.1 (in_peek_pushed outer b ∙ or_left (in_peek outer) (is_peek b) e))
    where
      go : (c : Block) → FitsIn outer c → ((locks_in bs).cq ≡ false) × (in_peek bs ≡ false) → ((takes_cq c || (locks_in bs).cq) ≡ false) × ((is_peek c || in_peek bs) ≡ false)
      go (InLock o l) f h = (ap (λ x. x || (locks_in bs).cq) (no_cq_in_peek outer l f.0 e) ∙ h.0, h.1)
      go (InPeek o) f h = absurd (cc (f, e))
      go (InLoop o k) f h = absurd (cc (f, e))
      go _ f h = h

  -- A block that is open at a place, in these and around those.
  pub placed_at : (j : ℕ) (outer : List Block) (b : Block) (inner : List Block) → blocks_at lines j ≡ outer ++ b ∷ inner → IsPlaced lines j outer b
  placed_at j outer b inner e = placed_between lines j outer b inner (subst (λ x. ArePlaced lines j x) e (placed lines each j))

  pub fits_at : (j : ℕ) (outer : List Block) (b : Block) (inner : List Block) → blocks_at lines j ≡ outer ++ b ∷ inner → FitsIn outer b
  fits_at j outer b inner e = fits_in j outer b (placed_at j outer b inner e)

  inner_placed : (j : ℕ) (outer : List Block) (b : Block) (inner : List Block) → blocks_at lines j ≡ outer ++ b ∷ inner → EachPlaced lines j (outer ++ b ∷ []) inner
  inner_placed j outer b inner e = each_placed lines j (outer ++ b ∷ []) inner (subst (λ x. ArePlaced lines j x) (e ∙ sym (append_assoc outer (b ∷ []) inner)) (placed lines each j))

  -- At most one peek is open at a place, and no lock of the completion side is in it.
  pub one_peek : (j : ℕ) (outer : List Block) (o : ℕ) (inner : List Block) → blocks_at lines j ≡ outer ++ InPeek o ∷ inner → (in_peek outer ≡ false) × (in_peek inner ≡ false) × ((locks_in inner).cq ≡ false)
  one_peek j outer o inner e =
      let g = none_within_peek j (outer ++ InPeek o ∷ []) inner (inner_placed j outer (InPeek o) inner e) (in_peek_pushed outer (InPeek o) ∙ or_right (in_peek outer) true refl) in
      (fits_at j outer (InPeek o) inner e, g.1, g.0)

  -- What is open at a place, in two parts: where the outer has the lock of the submission side the inner has none, and
  -- where it has that of the completion side the inner hasn't that one.
  module _ (j : ℕ) (outer inner : List Block) (parted : blocks_at lines j ≡ outer ++ inner) where
    inner_each : EachPlaced lines j outer inner
    inner_each = each_placed lines j outer inner (subst (λ x. ArePlaced lines j x) parted (placed lines each j))

    pub sq_is_last : (locks_in outer).sq ≡ true → locks_in inner ≡ no_lock
    sq_is_last h = none_within_sq j outer inner inner_each h

    pub cq_is_once : (locks_in outer).cq ≡ true → (locks_in inner).cq ≡ false
    cq_is_once h = no_cq_within j outer inner inner_each h
