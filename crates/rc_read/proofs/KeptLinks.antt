-- Which lines of the open thread lead where: those whose block is open wait for it to be closed, and all others are
-- linked. What one more line does to that.
use Rattle.std.proofs.Common.{◌≡◌, ℕ, zero, suc, ◌+◌, ◌<◌, List, [], ◌∷◌, ◌++◌, length, length-append, get_or-set_same, get_or-set_other, length-set, Option, Some, None, refl, sym, ap, ◌∙◌, subst, slice_set, slice_index, ◌⊎◌, inl, inr, arith, Contains}
use Rattle.std.proofs.lemmas.Bool.{cases_eq}
use Rattle.std.proofs.lemmas.List.Elements.{Contains-append_left, Contains-append_right, Contains-push, Contains-push_cases}
use Rattle.rc_lang.specs.declared.lines.Block.{Block}
use Rattle.rc_lang.specs.declared.lines.Block.TheVariants.{InLock, InIf, InElse, InPeek, InArm, InLoop}
use Rattle.rc_lang.specs.declared.lines.Line.{Line}
use Rattle.rc_lang.specs.declared.lines.Stmt.{Stmt}
use Rattle.rc_lang.specs.declared.lines.Stmt.TheVariants.{Do, Put, Lock, EndLock, If, Else, EndIf, Peek, Case, Other, Nothing, EndArm, EndPeek, Loop, EndLoop, Break}
use Rattle.rc_lang.specs.Nesting.{blocks_behind, innermost, IsNestedIn, without_innermost}
use Rattle.rc_lang.specs.Program.{stmt_at}
use Rattle.rc_lang.specs.Resolved.{HasEnd, IsAhead, IsFirst, IsLinked}
use Rattle.rc_lang.proofs.Closing.{way_out_found}
use Rattle.rc_lang.proofs.Lookups.{innermost_split, stands_within, stmt_new, stmt_old, stmt_push}
use Rattle.rc_lang.proofs.Placed.{ArePlaced, placed_innermost}
use Rattle.rc_read.specs.Adds.{closed_by, ends_behind, ends_marked}

-- ---- what waits

-- The place whose end is known once the block is closed.
abbrev pub marks : Block → Option ℕ
marks (InLock o l) = None
marks (InIf o) = Some o
marks (InElse o) = Some o
marks (InPeek o) = Some o
marks (InArm o) = None
marks (InLoop o k) = Some o

-- A block is open whose closing says the end of place o.
abbrev pub IsOpenAt : List Block → ℕ → Type 0
IsOpenAt bs o = (b : Block) × Contains bs b × (marks b ≡ Some o)

-- The place whose end the line at j waits for.
abbrev pub waits_for : ℕ → Stmt → Option ℕ
waits_for j (If test) = Some j
waits_for j (Else o) = Some j
waits_for j (Peek x) = Some j
waits_for j (EndArm o) = Some o
waits_for j (Loop k) = Some j
waits_for j (Break o releases leaves) = Some o
waits_for j s = None

abbrev pub IsWaiting : List Block → Option ℕ → Type 0
IsWaiting bs None = ⊥
IsWaiting bs (Some o) = IsOpenAt bs o

-- What is kept of a line while the thread isn't complete.
abbrev pub IsKeptAt : List Block → List Line → List ℕ → ℕ → Stmt → Type 0
IsKeptAt bs lines ends j s = IsWaiting bs (waits_for j s) ⊎ IsLinked lines ends j s

abbrev pub AreKept : List Block → List Line → List ℕ → Type 0
AreKept bs lines ends = (j : ℕ) (s : Stmt) → stmt_at lines j ≡ Some s → IsKeptAt bs lines ends j s

-- where no block is open all is linked
pub all_linked : (lines : List Line) (ends : List ℕ) → AreKept [] lines ends → (j : ℕ) (s : Stmt) → stmt_at lines j ≡ Some s → IsLinked lines ends j s
all_linked lines ends k j s e = elim (k j s e) [ inl h ↦ absurd (nothing (waits_for j s) h) | inr h ↦ h ]
  where
    nothing : (o : Option ℕ) → IsWaiting [] o → ⊥
    nothing None h = h
    nothing (Some o) h = let lt : h.1.0 < 0 = h.1.1 in absurd (omega arith)

-- No line says this.
abbrev pub IsAbsent : List Line → Stmt → Type 0
IsAbsent lines s = (k : ℕ) → stmt_at lines k ≡ Some s → ⊥

-- What an arm and a closing brace of a peek need of the lines before.
abbrev pub MayStand : List Line → Stmt → Type 0
MayStand lines (Case o u) = IsAbsent lines (Case o u)
MayStand lines (Other o) = IsAbsent lines (Other o)
MayStand lines (Nothing o) = IsAbsent lines (Nothing o)
MayStand lines (EndPeek o) = IsAhead lines o (Other o) × IsAhead lines o (Nothing o)
MayStand lines s = Unit {0}

-- ---- blocks

module _ (bs : List Block) (n o : ℕ) where
  pushed : (b : Block) → IsOpenAt bs o → IsOpenAt (bs ++ b ∷ []) o
  pushed b h = (h.0, Contains-append_left bs (b ∷ []) h.0 h.1, h.2)

  popped : (b : Block) → innermost bs ≡ Some b → IsOpenAt bs o → (marks b ≡ Some o) ⊎ IsOpenAt (without_innermost bs) o
  popped b e h = elim (Contains-push_cases (without_innermost bs) b h.0 (subst (λ x. Contains x h.0) (innermost_split bs b e) h.1)) [
    | inl c ↦ inr (h.0, c, h.2)
    | inr q ↦ inl (ap marks q ∙ h.2)
  ]

  -- a block that is open stays so, unless the line closes it
  stays : (s : Stmt) → IsNestedIn bs s → IsOpenAt bs o → (closed_by s ≡ Some o) ⊎ IsOpenAt (blocks_behind bs n s) o
  stays (Do op) e h = inr h
  stays (Put pool k) e h = inr h
  stays (Lock l) e h = inr (pushed (InLock n l) h)
  stays (EndLock p l) e h = popped (InLock p l) e h
  stays (If test) e h = inr (pushed (InIf n) h)
  stays (Else p) e h = elim (popped (InIf p) e h) [
    | inl q ↦ inl q
    | inr k ↦ inr (k.0, Contains-append_left (without_innermost bs) (InElse n ∷ []) k.0 k.1, k.2)
  ]
  stays (EndIf p) e h = elim e [ inl i ↦ popped (InIf p) i h | inr i ↦ popped (InElse p) i h ]
  stays (Peek x) e h = inr (pushed (InPeek n) h)
  stays (Case p u) e h = inr (pushed (InArm p) h)
  stays (Other p) e h = inr (pushed (InArm p) h)
  stays (Nothing p) e h = inr (pushed (InArm p) h)
  stays (EndArm p) e h = popped (InArm p) e h
  stays (EndPeek p) e h = popped (InPeek p) e h
  stays (Loop k) e h = inr (pushed (InLoop n k) h)
  stays (EndLoop p k) e h = popped (InLoop p k) e h
  stays (Break p releases leaves) e h = inr h

-- ---- the table of ends

end_kept : (ends : List ℕ) (k : ℕ) → slice_index (ends ++ 0 ∷ []) k ≡ slice_index ends k
end_kept [] zero = refl
end_kept [] (suc k) = refl
end_kept (e ∷ ends) zero = refl
end_kept (e ∷ ends) (suc k) = end_kept ends k

end_other : (ends : List ℕ) (n : ℕ) (c : Option ℕ) (o : ℕ) → (c ≡ Some o → ⊥) → slice_index (ends_marked (ends ++ 0 ∷ []) n c) o ≡ slice_index ends o
end_other ends n None o ne = end_kept ends o
end_other ends n (Some p) o ne = get_or-set_other (ends ++ 0 ∷ []) p o n 0 (λ q. ne (ap Some (sym q))) ∙ end_kept ends o

end_here : (ends : List ℕ) (n : ℕ) (c : Option ℕ) (o : ℕ) → c ≡ Some o → o < length ends → slice_index (ends_marked (ends ++ 0 ∷ []) n c) o ≡ n
end_here ends n None o e lt = absurd (cc)
end_here ends n (Some p) o e lt =
    let q : p ≡ o = cc in
    let a : length (ends ++ 0 ∷ []) ≡ length ends + 1 = length-append ends (0 ∷ []) in
    subst (λ x. slice_index (slice_set (ends ++ 0 ∷ []) x n) o ≡ n) (sym q) (get_or-set_same (ends ++ 0 ∷ []) o n 0 (omega arith))

pub as_long : (ends : List ℕ) (n : ℕ) (s : Stmt) → length (ends_behind ends n s) ≡ length ends + 1
as_long ends n s = go (closed_by s)
  where
    go : (c : Option ℕ) → length (ends_marked (ends ++ 0 ∷ []) n c) ≡ length ends + 1
    go None = length-append ends (0 ∷ [])
    go (Some o) = length-set (ends ++ 0 ∷ []) o n ∙ length-append ends (0 ∷ [])

-- ---- one more line

module _ (lines : List Line) (l : Line) (fins : List ℕ) where
  ahead_old : (j : ℕ) (s : Stmt) → IsAhead lines j s → IsAhead (lines ++ l ∷ []) j s
  ahead_old j s a = record { place = a.place; behind = a.behind; stands = stmt_old lines l a.place s a.stands }

  first_old : (j : ℕ) (s t : Stmt) → stmt_at lines j ≡ Some t → IsFirst lines j s → IsFirst (lines ++ l ∷ []) j s
  first_old j s t at f k lt e = elim (stmt_push lines l k s e) [
    | inl h ↦ f k lt h
    | inr h ↦ let q : k ≡ length lines = h.0 in let b : j < length lines = stands_within lines j t at in absurd (omega arith)
  ]

  -- a line that is linked stays so, where the end that it waited for stays
  module _ (ends : List ℕ) (j : ℕ) where
    end_on : (s : Stmt) → slice_index fins j ≡ slice_index ends j → HasEnd lines ends j s → HasEnd (lines ++ l ∷ []) fins j s
    end_on s same h = record {
      behind = subst (λ n. j < n) (sym same) h.behind;
      stands = subst (λ n. stmt_at (lines ++ l ∷ []) n ≡ Some s) (sym same) (stmt_old lines l (slice_index ends j) s h.stands);
    }

    linked_on : (s : Stmt) → stmt_at lines j ≡ Some s → ((o : ℕ) → waits_for j s ≡ Some o → slice_index fins o ≡ slice_index ends o) → IsLinked lines ends j s → IsLinked (lines ++ l ∷ []) fins j s
    linked_on (If test) at same h = elim h [ inl a ↦ inl (end_on (Else j) (same j refl) a) | inr a ↦ inr (end_on (EndIf j) (same j refl) a) ]
    linked_on (Else o) at same h = end_on (EndIf j) (same j refl) h
    linked_on (Peek x) at same h = record { end = end_on (EndPeek j) (same j refl) h.end; other = ahead_old j (Other j) h.other; none = ahead_old j (Nothing j) h.none }
    linked_on (Case o u) at same h = first_old j (Case o u) (Case o u) at h
    linked_on (Other o) at same h = first_old j (Other o) (Other o) at h
    linked_on (Nothing o) at same h = first_old j (Nothing o) (Nothing o) at h
    linked_on (EndArm o) at same h = subst (λ n. j < n) (sym (same o refl)) h
    linked_on (Loop k) at same h = end_on (EndLoop j k) (same j refl) h
    linked_on (Break o releases leaves) at same h = subst (λ n. j < n) (sym (same o refl)) h
    linked_on s at same h = tt

  -- the lines that wait for the place whose block the new line closes
  module _ (o : ℕ) (opener : Stmt) (stands : stmt_at lines o ≡ Some opener) (linked : IsLinked (lines ++ l ∷ []) fins o opener) (end : slice_index fins o ≡ length lines) where
    settled : (j : ℕ) (s : Stmt) → stmt_at lines j ≡ Some s → waits_for j s ≡ Some o → IsLinked (lines ++ l ∷ []) fins j s
    settled j s at e = go s at e
      where
        here : (t : Stmt) → stmt_at lines j ≡ Some t → j ≡ o → IsLinked (lines ++ l ∷ []) fins j t
        here t a q = let p : opener ≡ t = cc (stands, a, ap (λ i. stmt_at lines i) q) in subst (λ i. IsLinked (lines ++ l ∷ []) fins i t) (sym q) (subst (λ x. IsLinked (lines ++ l ∷ []) fins o x) p linked)

        behind : (t : Stmt) (p : ℕ) → stmt_at lines j ≡ Some t → p ≡ o → j < slice_index fins p
        behind t p a q = let lt : j < length lines = stands_within lines j t a in subst (λ n. j < n) (sym (ap (λ i. slice_index fins i) q ∙ end)) lt

        go : (t : Stmt) → stmt_at lines j ≡ Some t → waits_for j t ≡ Some o → IsLinked (lines ++ l ∷ []) fins j t
        go (If test) a f = here (If test) a (cc)
        go (Else p) a f = here (Else p) a (cc)
        go (Peek x) a f = here (Peek x) a (cc)
        go (EndArm p) a f = behind (EndArm p) p a (cc)
        go (Loop k) a f = here (Loop k) a (cc)
        go (Break p releases leaves) a f = behind (Break p releases leaves) p a (cc)
        go t a f = absurd (cc)

module _ (lines : List Line) (l : Line) (ends : List ℕ) (bs : List Block) (places : ArePlaced lines (length lines) bs) (long : length ends ≡ length lines) where
  -- The line that opened a block which the new line closes, and that it is linked now.
  record IsClosed (s : Stmt) (o : ℕ) : Type 0 where
    pub opener : Stmt
    pub stands : stmt_at lines o ≡ Some opener
    pub linked : IsLinked (lines ++ l ∷ []) (ends_behind ends (length lines) s) o opener
    pub end : slice_index (ends_behind ends (length lines) s) o ≡ length lines

  ended : (s : Stmt) (o : ℕ) → l.stmt ≡ s → closed_by s ≡ Some o → o < length lines → HasEnd (lines ++ l ∷ []) (ends_behind ends (length lines) s) o s
  ended s o says e lt =
      let h = end_here ends (length lines) (closed_by s) o e (omega arith) in
      record {
        behind = subst (λ n. o < n) (sym h) lt;
        stands = subst (λ n. stmt_at (lines ++ l ∷ []) n ≡ Some s) (sym h) (stmt_new lines l ∙ ap Some says);
      }

  closed : (s : Stmt) (o : ℕ) → l.stmt ≡ s → closed_by s ≡ Some o → (opener : Stmt) → stmt_at lines o ≡ Some opener → o < length lines → (HasEnd (lines ++ l ∷ []) (ends_behind ends (length lines) s) o s → IsLinked (lines ++ l ∷ []) (ends_behind ends (length lines) s) o opener) → IsClosed s o
  closed s o says e opener stands lt f = record { opener = opener; stands = stands; linked = f (ended s o says e lt); end = end_here ends (length lines) (closed_by s) o e (omega arith) }

  closes : (s : Stmt) → l.stmt ≡ s → IsNestedIn bs s → MayStand lines s → (o : ℕ) → closed_by s ≡ Some o → IsClosed s o
  closes (Else p) says e m o c =
      let q : p ≡ o = cc in
      let h = placed_innermost lines (length lines) bs (InIf p) e places in
      subst (λ x. IsClosed (Else p) x) q (closed (Else p) p says refl (If h.0) h.1.stands h.1.before (λ a. inl a))
  closes (EndIf p) says e m o c =
      let q : p ≡ o = cc in
      elim e [
        | inl i ↦ let h = placed_innermost lines (length lines) bs (InIf p) i places in subst (λ x. IsClosed (EndIf p) x) q (closed (EndIf p) p says refl (If h.0) h.1.stands h.1.before (λ a. inr a))
        | inr i ↦ let h = placed_innermost lines (length lines) bs (InElse p) i places in subst (λ x. IsClosed (EndIf p) x) q (closed (EndIf p) p says refl (Else h.opener) h.turns.stands h.turns.before (λ a. a))
      ]
  closes (EndPeek p) says e m o c =
      let q : p ≡ o = cc in
      let h = placed_innermost lines (length lines) bs (InPeek p) e places in
      let fins = ends_behind ends (length lines) (EndPeek p) in
      subst (λ x. IsClosed (EndPeek p) x) q (closed (EndPeek p) p says refl (Peek h.0) h.1.stands h.1.before (λ a. record { end = a; other = ahead_old lines l fins p (Other p) m.0; none = ahead_old lines l fins p (Nothing p) m.1 }))
  closes (EndLoop p k) says e m o c =
      let q : p ≡ o = cc in
      let h = placed_innermost lines (length lines) bs (InLoop p k) e places in
      subst (λ x. IsClosed (EndLoop p k) x) q (closed (EndLoop p k) p says refl (Loop k) h.stands h.before (λ a. a))
  closes s says e m o c = absurd (cc)

  first_new : (s : Stmt) → IsAbsent lines s → IsFirst (lines ++ l ∷ []) (length lines) s
  first_new s none k lt e = elim (stmt_push lines l k s e) [
    | inl h ↦ none k h
    | inr h ↦ let q : k ≡ length lines = h.0 in absurd (omega arith)
  ]

  -- the new line
  new_kept : (s : Stmt) → IsNestedIn bs s → MayStand lines s → IsKeptAt (blocks_behind bs (length lines) s) (lines ++ l ∷ []) (ends_behind ends (length lines) s) (length lines) s
  new_kept (If test) e m = inl (InIf (length lines), Contains-push bs (InIf (length lines)), refl)
  new_kept (Else o) e m = inl (InElse (length lines), Contains-push (without_innermost bs) (InElse (length lines)), refl)
  new_kept (Peek x) e m = inl (InPeek (length lines), Contains-push bs (InPeek (length lines)), refl)
  new_kept (Case o u) e m = inr (first_new (Case o u) m)
  new_kept (Other o) e m = inr (first_new (Other o) m)
  new_kept (Nothing o) e m = inr (first_new (Nothing o) m)
  new_kept (EndArm o) e m = let h = placed_innermost lines (length lines) bs (InArm o) e places in inl (InPeek o, subst (λ x. Contains x (InPeek o)) (sym h.within) (Contains-push _ (InPeek o)), refl)
  new_kept (Loop k) e m = inl (InLoop (length lines) k, Contains-push bs (InLoop (length lines) k), refl)
  new_kept (Break o releases leaves) e m =
      let w = way_out_found o releases leaves bs e.1 in
      let first : Contains (InLoop o w.number ∷ w.inner) (InLoop o w.number) = (0, omega arith, refl) in
      inl (InLoop o w.number, subst (λ x. Contains x (InLoop o w.number)) (sym w.split) (Contains-append_right w.outer (InLoop o w.number ∷ w.inner) (InLoop o w.number) first), refl)
  new_kept s e m = inr tt

  module _ (s : Stmt) (says : l.stmt ≡ s) (nested : IsNestedIn bs s) (may : MayStand lines s) where
    old_kept : (j : ℕ) (t : Stmt) → stmt_at lines j ≡ Some t → IsKeptAt bs lines ends j t → IsKeptAt (blocks_behind bs (length lines) s) (lines ++ l ∷ []) (ends_behind ends (length lines) s) j t
    old_kept j t at h = go (waits_for j t) refl h
      where
        settle : (o : ℕ) → closed_by s ≡ Some o → waits_for j t ≡ Some o → IsLinked (lines ++ l ∷ []) (ends_behind ends (length lines) s) j t
        settle o c w = let k = closes s says nested may o c in settled lines l (ends_behind ends (length lines) s) o k.opener k.stands k.linked k.end j t at w

        on : ((o : ℕ) → waits_for j t ≡ Some o → closed_by s ≡ Some o → ⊥) → IsLinked lines ends j t → IsLinked (lines ++ l ∷ []) (ends_behind ends (length lines) s) j t
        on other k = linked_on lines l (ends_behind ends (length lines) s) ends j t at (λ o w. end_other ends (length lines) (closed_by s) o (other o w)) k

        closing : (o : ℕ) (c : Option ℕ) → (c ≡ Some o) ⊎ (c ≡ Some o → ⊥)
        closing o None = inr (λ e. absurd (cc))
        closing o (Some p) = elim (cases_eq p o) [ inl q ↦ inl (ap Some q) | inr ne ↦ inr (λ e. ne (cc)) ]

        waiting : (o : ℕ) → waits_for j t ≡ Some o → (closed_by s ≡ Some o → ⊥) → IsOpenAt bs o → IsWaiting (blocks_behind bs (length lines) s) (waits_for j t)
        waiting o w ne k = subst (λ x. IsWaiting (blocks_behind bs (length lines) s) x) (sym w) (elim (stays bs (length lines) o s nested k) [ inl q ↦ absurd (ne q) | inr y ↦ y ])

        go : (w : Option ℕ) → waits_for j t ≡ w → IsWaiting bs w ⊎ IsLinked lines ends j t → IsKeptAt (blocks_behind bs (length lines) s) (lines ++ l ∷ []) (ends_behind ends (length lines) s) j t
        go None e k = elim k [ inl x ↦ absurd x | inr x ↦ inr (on (λ o w c. absurd (cc)) x) ]
        go (Some o) e k = elim (closing o (closed_by s)) [
          | inl c ↦ inr (settle o c e)
          | inr ne ↦ elim k [ inl x ↦ inl (waiting o e ne x) | inr x ↦ inr (on (λ p w c. ne (cc)) x) ]
        ]

    pub kept_more : AreKept bs lines ends → AreKept (blocks_behind bs (length lines) s) (lines ++ l ∷ []) (ends_behind ends (length lines) s)
    kept_more k j t e = elim (stmt_push lines l j t e) [
      | inl h ↦ old_kept j t h (k j t h)
      | inr h ↦ let q : s ≡ t = sym says ∙ h.1 in subst (λ i. IsKeptAt (blocks_behind bs (length lines) s) (lines ++ l ∷ []) (ends_behind ends (length lines) s) i t) (sym h.0) (subst (λ x. IsKeptAt (blocks_behind bs (length lines) s) (lines ++ l ∷ []) (ends_behind ends (length lines) s) (length lines) x) q (new_kept s nested may))
    ]
