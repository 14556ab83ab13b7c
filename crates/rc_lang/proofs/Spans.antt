-- From where to where a block is open, and that the arms of a peek are before its end.
use Rattle.std.proofs.Common.{◌≡◌, ℕ, zero, suc, ◌+◌, ◌-◌, ◌<◌, ◌≤◌, List, [], ◌∷◌, ◌++◌, length, take, Option, Some, None, sym, ap, ◌∙◌, subst, slice_get, slice_index, ◌⊎◌, inl, inr, arith}
use Rattle.std.proofs.lemmas.Bool.{cases_lt}
use Rattle.std.proofs.lemmas.Option.{slice_get_within}
use Rattle.rc_lang.specs.declared.lines.Block.{Block}
use Rattle.rc_lang.specs.declared.lines.Block.TheVariants.{InLock, InIf, InElse, InPeek, InArm, InLoop}
use Rattle.rc_lang.specs.declared.lines.Line.{Line}
use Rattle.rc_lang.specs.declared.lines.Stmt.{Stmt}
use Rattle.rc_lang.specs.declared.lines.Stmt.TheVariants.{Do, Put, Lock, EndLock, If, Else, EndIf, Peek, Case, Other, Nothing, EndArm, EndPeek, Loop, EndLoop, Break}
use Rattle.rc_lang.specs.Nesting.{blocks_at, blocks_behind, without_innermost}
use Rattle.rc_lang.specs.Program.{stmt_at}
use Rattle.rc_lang.specs.Resolved.{HasArms}
use Rattle.rc_lang.proofs.Closing.{OpensArm, closes_peek, opens_case, opens_nothing, opens_other}
use Rattle.rc_lang.proofs.Jumps.{IsLaid}
use Rattle.rc_lang.proofs.Lookups.{EachNested, blocks_past, blocks_suc, get_new, get_push, stands_at}

-- the block that a line at place j opens
abbrev pub opened_by : ℕ → Stmt → Option Block
opened_by j (Lock l) = Some (InLock j l)
opened_by j (If test) = Some (InIf j)
opened_by j (Else o) = Some (InElse j)
opened_by j (Peek x) = Some (InPeek j)
opened_by j (Case o u) = Some (InArm o)
opened_by j (Other o) = Some (InArm o)
opened_by j (Nothing o) = Some (InArm o)
opened_by j (Loop k) = Some (InLoop j k)
opened_by j _ = None

get_taken : {A : Type 0} (xs : List A) (n d : ℕ) (x : A) → slice_get (take n xs) d ≡ Some x → slice_get xs d ≡ Some x
get_taken xs zero d x e = absurd (cc)
get_taken [] (suc n) d x e = absurd (cc)
get_taken (y ∷ xs) (suc n) zero x e = e
get_taken (y ∷ xs) (suc n) (suc d) x e = get_taken xs n d x e

-- a block that is open after a line was open before it, or the line opens it
module _ (bs : List Block) (j d : ℕ) (b : Block) where
  old_or_new : (c : Block) → slice_get (bs ++ c ∷ []) d ≡ Some b → (slice_get bs d ≡ Some b) ⊎ (Some c ≡ Some b)
  old_or_new c e = elim (get_push bs c d b e) [ inl h ↦ inl h | inr h ↦ inr (ap Some h.1) ]

  older : (n : ℕ) → slice_get (take n bs) d ≡ Some b → slice_get bs d ≡ Some b
  older n e = get_taken bs n d b e

  pub open_before : (s : Stmt) → slice_get (blocks_behind bs j s) d ≡ Some b → (slice_get bs d ≡ Some b) ⊎ (opened_by j s ≡ Some b)
  open_before (Do op) e = inl e
  open_before (Put pool k) e = inl e
  open_before (EndLock o l) e = inl (older (length bs - 1) e)
  open_before (Else o) e = elim (get_push (without_innermost bs) (InElse j) d b e) [ inl h ↦ inl (older (length bs - 1) h) | inr h ↦ inr (ap Some h.1) ]
  open_before (EndIf o) e = inl (older (length bs - 1) e)
  open_before (EndArm o) e = inl (older (length bs - 1) e)
  open_before (EndPeek o) e = inl (older (length bs - 1) e)
  open_before (EndLoop o k) e = inl (older (length bs - 1) e)
  open_before (Break o releases leaves) e = inl e
  open_before _ e = old_or_new _ e

-- Only the line at o opens the block.
abbrev pub OpenedAt : ℕ → Block → Type 0
OpenedAt o b = (j : ℕ) (s : Stmt) → opened_by j s ≡ Some b → j ≡ o

pub peek_opened_at : (o : ℕ) → OpenedAt o (InPeek o)
peek_opened_at o j (Peek x) e = cc
peek_opened_at o j _ e = absurd (cc)

module _ (lines : List Line) (o : ℕ) (b : Block) (opened : OpenedAt o b) where
  -- A block that is open at a place was open at each place from after the line that opened it.
  pub open_since : (d m p : ℕ) → o < m → m ≤ p → slice_get (blocks_at lines p) d ≡ Some b → slice_get (blocks_at lines m) d ≡ Some b
  open_since d m zero lt le e = absurd (omega arith)
  open_since d m (suc p) lt le e = elim (cases_lt p m) [
    | inl at_it ↦ let q : suc p ≡ m = omega arith in subst (λ k. slice_get (blocks_at lines k) d ≡ Some b) q e
    | inr earlier ↦ open_since d m p lt earlier (elim (cases_lt p (length lines)) [
      | inl within ↦ let s = stands_at lines p within in
          elim (open_before (blocks_at lines p) p d b s.0 (ap (λ bs. slice_get bs d) (sym (blocks_suc lines p s.0 s.1)) ∙ e)) [
            | inl h ↦ h
            | inr h ↦ let q : p ≡ o = opened p s.0 h in absurd (omega arith)
          ]
      | inr past ↦ ap (λ bs. slice_get bs d) (blocks_past lines p past ∙ sym (blocks_past lines (suc p) (omega arith))) ∙ e
    ])
  ]

-- ---- arms

module _ (lines : List Line) (each : EachNested lines) (o p : ℕ) where
  -- A place directly in a peek isn't after its closing brace.
  pub peek_until : (e : ℕ) → blocks_at lines p ≡ blocks_at lines o ++ InPeek o ∷ [] → stmt_at lines e ≡ Some (EndPeek o) → p ≤ e
  peek_until e w s = elim (cases_lt e p) [
    | inl lt ↦
        let c = closes_peek lines each e o s in
        let b : o < e = c.1.before in
        let here : slice_get (blocks_at lines p) (length (blocks_at lines o)) ≡ Some (InPeek o) = ap (λ bs. slice_get bs (length (blocks_at lines o))) w ∙ get_new (blocks_at lines o) (InPeek o) [] in
        let there = open_since lines o (InPeek o) (peek_opened_at o) (length (blocks_at lines o)) (e + 1) p (omega arith) (omega arith) here in
        let bad : length (blocks_at lines o) < length (blocks_at lines o) = slice_get_within (blocks_at lines o) (length (blocks_at lines o)) (InPeek o) (ap (λ bs. slice_get bs (length (blocks_at lines o))) (sym c.1.behind) ∙ there) in
        absurd (omega arith)
    | inr le ↦ le
  ]

module _ (lines : List Line) (ends : List ℕ) (laid : IsLaid lines ends) (o p : ℕ) where
  arm_between : (s : Stmt) → stmt_at lines p ≡ Some s → (s ≡ EndPeek o → ⊥) → OpensArm lines p o → (o < p) × (p < slice_index ends o)
  arm_between s e other a =
      let h : HasArms lines ends o = laid.linked o (Peek a.variable) a.stands in
      let le : p ≤ slice_index ends o = peek_until lines laid.each o p (slice_index ends o) a.within h.end.stands in
      elim (cases_lt p (slice_index ends o)) [
        | inl lt ↦ (a.before, lt)
        | inr ge ↦ let q : p ≡ slice_index ends o = omega arith in absurd (other (some_same s (EndPeek o) (sym e ∙ ap (λ k. stmt_at lines k) q ∙ h.end.stands)))
      ]
    where
      some_same : (x y : Stmt) → Some x ≡ Some y → x ≡ y
      some_same x y e = cc

  -- The arms of a peek are between it and its closing brace.
  pub case_between : (u : ℕ) → stmt_at lines p ≡ Some (Case o u) → (o < p) × (p < slice_index ends o)
  case_between u e = arm_between (Case o u) e (λ h. absurd (cc)) (opens_case lines laid.each p o u e)

  pub other_between : stmt_at lines p ≡ Some (Other o) → (o < p) × (p < slice_index ends o)
  other_between e = arm_between (Other o) e (λ h. absurd (cc)) (opens_other lines laid.each p o e)

  pub nothing_between : stmt_at lines p ≡ Some (Nothing o) → (o < p) × (p < slice_index ends o)
  nothing_between e = arm_between (Nothing o) e (λ h. absurd (cc)) (opens_nothing lines laid.each p o e)
