-- Which lines opened the blocks that are open at a place, and what was open there.
use Rattle.std.proofs.Common.{◌≡◌, ℕ, zero, suc, ◌<◌, ◌≤◌, List, [], ◌∷◌, ◌++◌, append_assoc, length, take, Some, refl, sym, ap, ◌∙◌, subst, slice_get, inl, inr, arith}
use Rattle.std.proofs.lemmas.Bool.{cases_lt}
use Rattle.std.proofs.lemmas.List.{take-append-le}
use Rattle.std.proofs.lemmas.Option.{slice_get_within}
use Rattle.rc_lang.specs.declared.lines.Block.{Block}
use Rattle.rc_lang.specs.declared.lines.Block.TheVariants.{InLock, InIf, InElse, InPeek, InArm, InLoop}
use Rattle.rc_lang.specs.declared.lines.Line.{Line}
use Rattle.rc_lang.specs.declared.lines.Stmt.{Stmt}
use Rattle.rc_lang.specs.declared.lines.Stmt.TheVariants.{Do, Put, Lock, If, Else, EndIf, Peek, Case, Other, Nothing, Loop, Break}
use Rattle.rc_lang.specs.declared.lines.Test.{Test}
use Rattle.rc_lang.specs.Nesting.{blocks_at, blocks_behind, innermost, IsNestedIn, without_innermost}
use Rattle.rc_lang.specs.Program.{stmt_at}
use Rattle.rc_lang.proofs.Lookups.{EachNested, blocks_past, blocks_suc, get_new, get_old, get_push, innermost_split, nested_here, stands_at, take_front}

-- ---- the words

-- This is at a place before j, where these blocks are open.
pub record OpensAt (lines : List Line) (j o : ℕ) (s : Stmt) (outer : List Block) : Type 0 where
  pub before : o < j
  pub stands : stmt_at lines o ≡ Some s
  pub blocks : blocks_at lines o ≡ outer

-- The second branch of an if: the else that begins it, and the if.
pub record IsElsePlaced (lines : List Line) (j o : ℕ) (outer : List Block) : Type 0 where
  pub opener : ℕ
  pub test : Test
  pub turns : OpensAt lines j o (Else opener) (outer ++ InIf opener ∷ [])
  pub opens : OpensAt lines o opener (If test) outer

-- An arm, directly in its peek.
pub record IsArmPlaced (lines : List Line) (j o : ℕ) (outer : List Block) : Type 0 where
  pub variable : ℕ
  pub opens : OpensAt lines j o (Peek variable) (blocks_at lines o)
  pub within : outer ≡ blocks_at lines o ++ InPeek o ∷ []

-- A block that is open at place j, directly in these blocks: what opened it, and that these were open there.
abbrev pub IsPlaced : List Line → ℕ → List Block → Block → Type 0
IsPlaced lines j outer (InLock o l) = OpensAt lines j o (Lock l) outer
IsPlaced lines j outer (InIf o) = (test : Test) × OpensAt lines j o (If test) outer
IsPlaced lines j outer (InElse o) = IsElsePlaced lines j o outer
IsPlaced lines j outer (InPeek o) = (x : ℕ) × OpensAt lines j o (Peek x) outer
IsPlaced lines j outer (InArm o) = IsArmPlaced lines j o outer
IsPlaced lines j outer (InLoop o k) = OpensAt lines j o (Loop k) outer

-- Each of the blocks is placed so.
abbrev pub ArePlaced : List Line → ℕ → List Block → Type 0
ArePlaced lines j bs = (d : ℕ) (b : Block) → slice_get bs d ≡ Some b → IsPlaced lines j (take d bs) b

-- the same, by recursion from the outermost in, after outer blocks
abbrev pub EachPlaced : List Line → ℕ → List Block → List Block → Type 0
EachPlaced lines j outer [] = Unit {0}
EachPlaced lines j outer (b ∷ bs) = IsPlaced lines j outer b × EachPlaced lines j (outer ++ b ∷ []) bs

-- ---- later places, and blocks pushed and popped

opens_later : (lines : List Line) (j k o : ℕ) (s : Stmt) (outer : List Block) → j ≤ k → OpensAt lines j o s outer → OpensAt lines k o s outer
opens_later lines j k o s outer le h = let lt : o < j = h.before in record { before = omega arith; stands = h.stands; blocks = h.blocks }

pub placed_later : (lines : List Line) (j k : ℕ) (outer : List Block) (b : Block) → j ≤ k → IsPlaced lines j outer b → IsPlaced lines k outer b
placed_later lines j k outer (InLock o l) le h = opens_later lines j k o (Lock l) outer le h
placed_later lines j k outer (InIf o) le h = (h.0, opens_later lines j k o (If h.0) outer le h.1)
placed_later lines j k outer (InElse o) le h = record { opener = h.opener; test = h.test; turns = opens_later lines j k o (Else h.opener) (outer ++ InIf h.opener ∷ []) le h.turns; opens = h.opens }
placed_later lines j k outer (InPeek o) le h = (h.0, opens_later lines j k o (Peek h.0) outer le h.1)
placed_later lines j k outer (InArm o) le h = record { variable = h.variable; opens = opens_later lines j k o (Peek h.variable) (blocks_at lines o) le h.opens; within = h.within }
placed_later lines j k outer (InLoop o n) le h = opens_later lines j k o (Loop n) outer le h

all_later : (lines : List Line) (j k : ℕ) (bs : List Block) → j ≤ k → ArePlaced lines j bs → ArePlaced lines k bs
all_later lines j k bs le h d b e = placed_later lines j k (take d bs) b le (h d b e)

all_pushed : (lines : List Line) (j : ℕ) (bs : List Block) (b : Block) → ArePlaced lines j bs → IsPlaced lines j bs b → ArePlaced lines j (bs ++ b ∷ [])
all_pushed lines j bs b all new d c e = elim (get_push bs b d c e) [
  | inl h ↦ let lt : d < length bs = slice_get_within bs d c h in subst (λ x. IsPlaced lines j x c) (sym (take-append-le d bs (b ∷ []) (omega arith))) (all d c h)
  | inr h ↦ let t : take d (bs ++ b ∷ []) ≡ bs = ap (λ n. take n (bs ++ b ∷ [])) h.0 ∙ take_front bs (b ∷ []) in
      subst (λ x. IsPlaced lines j x c) (sym t) (subst (λ x. IsPlaced lines j bs x) h.1 new)
]

all_outer : (lines : List Line) (j : ℕ) (bs cs : List Block) → ArePlaced lines j (bs ++ cs) → ArePlaced lines j bs
all_outer lines j bs cs all d b e =
    let lt : d < length bs = slice_get_within bs d b e in
    subst (λ x. IsPlaced lines j x b) (take-append-le d bs cs (omega arith)) (all d b (get_old bs cs d b e))

-- the block after the first ones
pub placed_between : (lines : List Line) (j : ℕ) (bs : List Block) (b : Block) (cs : List Block) → ArePlaced lines j (bs ++ b ∷ cs) → IsPlaced lines j bs b
placed_between lines j bs b cs all = subst (λ x. IsPlaced lines j x b) (take_front bs (b ∷ cs)) (all (length bs) b (get_new bs b cs))

pub placed_innermost : (lines : List Line) (j : ℕ) (bs : List Block) (b : Block) → innermost bs ≡ Some b → ArePlaced lines j bs → IsPlaced lines j (without_innermost bs) b
placed_innermost lines j bs b e all = placed_between lines j (without_innermost bs) b [] (subst (λ x. ArePlaced lines j x) (innermost_split bs b e) all)

placed_without : (lines : List Line) (j : ℕ) (bs : List Block) (b : Block) → innermost bs ≡ Some b → ArePlaced lines j bs → ArePlaced lines j (without_innermost bs)
placed_without lines j bs b e all = all_outer lines j (without_innermost bs) (b ∷ []) (subst (λ x. ArePlaced lines j x) (innermost_split bs b e) all)

-- ---- each block that is open is placed

module _ (lines : List Line) (j : ℕ) (bs : List Block) (here : blocks_at lines j ≡ bs) (all : ArePlaced lines j bs) where
  kept : ArePlaced lines (suc j) bs
  kept = all_later lines j (suc j) bs (omega arith) all

  popped : (b : Block) → innermost bs ≡ Some b → ArePlaced lines (suc j) (without_innermost bs)
  popped b e = placed_without lines (suc j) bs b e kept

  opened : (s : Stmt) → stmt_at lines j ≡ Some s → OpensAt lines (suc j) j s bs
  opened s e = record { before = omega arith; stands = e; blocks = here }

  pushed : (b : Block) → IsPlaced lines (suc j) bs b → ArePlaced lines (suc j) (bs ++ b ∷ [])
  pushed b h = all_pushed lines (suc j) bs b kept h

  turned : (o : ℕ) → stmt_at lines j ≡ Some (Else o) → innermost bs ≡ Some (InIf o) → ArePlaced lines (suc j) (without_innermost bs ++ InElse j ∷ [])
  turned o e n =
      let h = placed_innermost lines j bs (InIf o) n all in
      all_pushed lines (suc j) (without_innermost bs) (InElse j) (popped (InIf o) n) (record {
        opener = o;
        test = h.0;
        turns = subst (λ x. OpensAt lines (suc j) j (Else o) x) (innermost_split bs (InIf o) n) (opened (Else o) e);
        opens = h.1;
      })

  armed : (o : ℕ) → innermost bs ≡ Some (InPeek o) → ArePlaced lines (suc j) (bs ++ InArm o ∷ [])
  armed o n =
      let h = placed_innermost lines (suc j) bs (InPeek o) n kept in
      let b : blocks_at lines o ≡ without_innermost bs = h.1.blocks in
      pushed (InArm o) (record {
        variable = h.0;
        opens = record { before = h.1.before; stands = h.1.stands; blocks = refl };
        within = innermost_split bs (InPeek o) n ∙ ap (λ x. x ++ InPeek o ∷ []) (sym b);
      })

  placed_behind : (s : Stmt) → stmt_at lines j ≡ Some s → IsNestedIn bs s → ArePlaced lines (suc j) (blocks_behind bs j s)
  placed_behind (Do op) e n = kept
  placed_behind (Put pool k) e n = kept
  placed_behind (Lock l) e n = pushed (InLock j l) (opened (Lock l) e)
  placed_behind (If test) e n = pushed (InIf j) (test, opened (If test) e)
  placed_behind (Else o) e n = turned o e n
  placed_behind (EndIf o) e n = elim n [ inl h ↦ popped (InIf o) h | inr h ↦ popped (InElse o) h ]
  placed_behind (Peek x) e n = pushed (InPeek j) (x, opened (Peek x) e)
  placed_behind (Case o u) e n = armed o n
  placed_behind (Other o) e n = armed o n
  placed_behind (Nothing o) e n = armed o n
  placed_behind (Loop k) e n = pushed (InLoop j k) (opened (Loop k) e)
  placed_behind (Break o releases leaves) e n = kept
  placed_behind _ e n = popped _ n

module _ (lines : List Line) (each : EachNested lines) where
  -- The blocks that are open at a place are placed.
  pub placed : (j : ℕ) → ArePlaced lines j (blocks_at lines j)
  placed zero = λ d b e. absurd (cc)
  placed (suc j) = elim (cases_lt j (length lines)) [
    | inl lt ↦ let s = stands_at lines j lt in subst (λ x. ArePlaced lines (suc j) x) (sym (blocks_suc lines j s.0 s.1)) (placed_behind lines j (blocks_at lines j) refl (placed j) s.0 s.1 (nested_here lines each j s.0 s.1))
    | inr le ↦ let e : blocks_at lines (suc j) ≡ blocks_at lines j = blocks_past lines (suc j) (omega arith) ∙ sym (blocks_past lines j le) in subst (λ x. ArePlaced lines (suc j) x) (sym e) (all_later lines j (suc j) (blocks_at lines j) (omega arith) (placed j))
  ]

pub each_placed : (lines : List Line) (j : ℕ) (outer bs : List Block) → ArePlaced lines j (outer ++ bs) → EachPlaced lines j outer bs
each_placed lines j outer [] all = tt
each_placed lines j outer (b ∷ bs) all = (placed_between lines j outer b bs all, each_placed lines j (outer ++ b ∷ []) bs (subst (λ x. ArePlaced lines j x) (sym (append_assoc outer (b ∷ []) bs)) all))
