-- Where a thread comes to rest: past the lines that are no events.
use Rattle.std.proofs.Common.{◌≡◌, ℕ, zero, suc, ◌+◌, ◌<◌, ◌≤◌, Bool, true, false, List, length, Option, Some, None, refl, ap, ◌∙◌, subst, slice_get, slice_index, inl, inr, arith}
use Rattle.rc_lang.specs.declared.lines.Block.TheVariants.{InPeek}
use Rattle.rc_lang.specs.declared.lines.Line.{Line}
use Rattle.rc_lang.specs.declared.lines.Stmt.{Stmt}
use Rattle.rc_lang.specs.declared.lines.Stmt.TheVariants.{Else, EndIf, Case, Other, Nothing, EndArm, EndPeek}
use Rattle.rc_lang.specs.Nesting.{blocks_at, directly_in_peek, innermost, is_some_peek}
use Rattle.rc_lang.specs.Program.{Program, Thread, ends_in, lines_in, lines_of, stmt_at}
use Rattle.rc_lang.specs.Kept.{IsProgram, IsThread}
use Rattle.rc_lang.proofs.Closing.{closes_arm, closes_if, turns}
use Rattle.rc_lang.proofs.Jumps.{IsLaid, IsOpen, arm_leads, arm_open, else_leads, else_open, open_behind, open_start}
use Rattle.rc_lang.proofs.Lookups.{nested_here, past_the_end}

-- Where a thread goes on from a line that is no event: from an else after the end of its if, from the end of an if to
-- the next line, from the end of an arm after its peek.
abbrev pub passed_to : List ℕ → ℕ → Option Stmt → Option ℕ
passed_to ends j (Some (Else o)) = Some (slice_index ends j + 1)
passed_to ends j (Some (EndIf o)) = Some (j + 1)
passed_to ends j (Some (EndArm o)) = Some (slice_index ends o + 1)
passed_to ends j _ = None

-- The line is an event, or there is none.
abbrev pub may_rest : Option Stmt → Bool
may_rest (Some (Else o)) = false
may_rest (Some (EndIf o)) = false
may_rest (Some (Case o u)) = false
may_rest (Some (Other o)) = false
may_rest (Some (Nothing o)) = false
may_rest (Some (EndArm o)) = false
may_rest (Some (EndPeek o)) = false
may_rest _ = true

-- A thread that is at this place has an event next, or is at the end.
pub record IsRest (lines : List Line) (j : ℕ) : Type 0 where
  pub within : j ≤ length lines
  pub outside : directly_in_peek (blocks_at lines j) ≡ false
  pub rests : may_rest (stmt_at lines j) ≡ true

-- A thread passes the line at j and goes on to place k.
pub record Passes (lines : List Line) (j k : ℕ) : Type 0 where
  pub ahead : j < k
  pub goes_on : IsOpen lines k

-- the first place from j on, past at most n lines, that isn't passed
abbrev pub or_on : (ℕ → ℕ) → ℕ → Option ℕ → ℕ
or_on f j None = j
or_on f j (Some k) = f k

abbrev pub settled : List Line → List ℕ → ℕ → ℕ → ℕ
settled lines ends zero j = j
settled lines ends (suc n) j = or_on (λ k. settled lines ends n k) j (passed_to ends j (stmt_at lines j))

-- Functions that go on in the same way come to the same.
or_on_same : (f g : ℕ → ℕ) (j : ℕ) → ((k : ℕ) → f k ≡ g k) → (x : Option ℕ) → or_on f j x ≡ or_on g j x
or_on_same f g j e None = refl
or_on_same f g j e (Some k) = e k

pub same_settled : (lines : List Line) (ends : List ℕ) (f : ℕ → ℕ → ℕ) → ((j : ℕ) → f zero j ≡ j) → ((n j : ℕ) → f (suc n) j ≡ or_on (λ k. f n k) j (passed_to ends j (stmt_at lines j))) → (n j : ℕ) → f n j ≡ settled lines ends n j
same_settled lines ends f at_zero at_suc zero j = at_zero j
same_settled lines ends f at_zero at_suc (suc n) j = at_suc n j ∙ or_on_same (λ k. f n k) (λ k. settled lines ends n k) j (λ k. same_settled lines ends f at_zero at_suc n k) (passed_to ends j (stmt_at lines j))

module _ (lines : List Line) (ends : List ℕ) (laid : IsLaid lines ends) where
  -- a line that is passed
  pub passes : (j k : ℕ) (x : Option Stmt) → stmt_at lines j ≡ x → passed_to ends j x ≡ Some k → Passes lines j k
  passes j k (Some (Else o)) e h = let q : slice_index ends j + 1 ≡ k = cc in subst (Passes lines j) q (record { ahead = (else_leads lines ends laid j o e).lands.ahead; goes_on = else_open lines ends laid j o e })
  passes j k (Some (EndIf o)) e h = let q : j + 1 ≡ k = cc in subst (Passes lines j) q (record { ahead = omega arith; goes_on = open_behind lines laid.each j (EndIf o) e refl })
  passes j k (Some (EndArm o)) e h = let q : slice_index ends o + 1 ≡ k = cc in subst (Passes lines j) q (record { ahead = (arm_leads lines ends laid j o e).lands.ahead; goes_on = arm_open lines ends laid j o e })
  passes j k _ e h = absurd (cc)

  -- what is directly in a peek is none that a thread goes to
  not_here : (j o : ℕ) → IsOpen lines j → innermost (blocks_at lines j) ≡ Some (InPeek o) → ⊥
  not_here j o h e = let d : directly_in_peek (blocks_at lines j) ≡ true = ap is_some_peek e in absurd (cc (d, h.outside))

  -- a line that a thread goes to is an event, or passed
  pub rests_here : (j : ℕ) (x : Option Stmt) → stmt_at lines j ≡ x → IsOpen lines j → passed_to ends j x ≡ None → may_rest x ≡ true
  rests_here j (Some (Else p)) e o n = absurd (cc)
  rests_here j (Some (EndIf p)) e o n = absurd (cc)
  rests_here j (Some (Case p u)) e o n = absurd (not_here j p o (nested_here lines laid.each j (Case p u) e))
  rests_here j (Some (Other p)) e o n = absurd (not_here j p o (nested_here lines laid.each j (Other p) e))
  rests_here j (Some (Nothing p)) e o n = absurd (not_here j p o (nested_here lines laid.each j (Nothing p) e))
  rests_here j (Some (EndArm p)) e o n = absurd (cc)
  rests_here j (Some (EndPeek p)) e o n = absurd (not_here j p o (nested_here lines laid.each j (EndPeek p) e))
  rests_here j _ e o n = refl

  rest : (j : ℕ) → IsOpen lines j → passed_to ends j (stmt_at lines j) ≡ None → IsRest lines j
  rest j o n = record { within = o.within; outside = o.outside; rests = rests_here j (stmt_at lines j) refl o n }

  -- A thread that goes to a place where it may go comes to rest.
  pub settles : (n j : ℕ) → IsOpen lines j → length lines ≤ n + j → IsRest lines (settled lines ends n j)
  settles zero j o le = let past : stmt_at lines j ≡ None = past_the_end lines j (let f : length lines ≤ 0 + j = le in omega arith) in rest j o (ap (λ x. passed_to ends j x) past)
  settles (suc n) j o le = go (λ k lt q. let f : length lines ≤ suc n + j = le in settles n k q (omega arith)) (passed_to ends j (stmt_at lines j)) refl
    where
      go : ((k : ℕ) → j < k → IsOpen lines k → IsRest lines (settled lines ends n k)) → (x : Option ℕ) → passed_to ends j (stmt_at lines j) ≡ x → IsRest lines (or_on (λ k. settled lines ends n k) j x)
      go on None e = rest j o e
      go on (Some k) e = let p = passes j k (stmt_at lines j) refl e in on k p.ahead p.goes_on

  -- No line is passed at the start.
  pub start_rests : IsRest lines 0
  start_rests = rest 0 (open_start lines laid.each) (stands (stmt_at lines 0) refl)
    where
      before_none : (o : ℕ) → o < 0 → ⊥
      before_none o lt = omega arith

      stands : (x : Option Stmt) → stmt_at lines 0 ≡ x → passed_to ends 0 x ≡ None
      stands (Some (Else o)) e = absurd (before_none o (turns lines laid.each 0 o e).before)
      stands (Some (EndIf o)) e = elim (closes_if lines laid.each 0 o e) [ inl c ↦ absurd (before_none o c.1.before) | inr c ↦ absurd (before_none o c.before) ]
      stands (Some (EndArm o)) e = absurd (before_none o (closes_arm lines laid.each 0 o e).before)
      stands _ e = refl

-- The lines of a thread of a made program are laid so.
pub laid_in : (program : Program) → IsProgram program → (i : ℕ) → IsLaid (lines_of program i) (ends_in (slice_get program.threads i))
laid_in program p i = go (slice_get program.threads i) refl
  where
    go : (x : Option Thread) → slice_get program.threads i ≡ x → IsLaid (lines_in x) (ends_in x)
    go None e = record { each = λ j l h. absurd (cc); linked = λ j s h. absurd (cc) }
    go (Some t) e = let h : IsThread program t = p.each i t e in record { each = h.nested.each; linked = h.linked }
