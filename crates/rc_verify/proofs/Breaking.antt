-- Breaks out of loops.
use Rattle.std.proofs.Common.{◌≡◌, ℕ, ◌+◌, ◌<◌, Bool, true, false, List, [], ◌∷◌, ◌++◌, take, Option, Some, Result, Ok, Err, refl, sym, ap, subst, ◌∙◌, arith, slice_get}
use Rattle.std.specs.Prelude.{IsSome, OnOk}
use Rattle.rc_lang.specs.declared.lines.Block.TheVariants.{InLoop}
use Rattle.rc_lang.specs.declared.lines.Locks.{Locks}
use Rattle.rc_lang.specs.declared.lines.Stmt.TheVariants.{Break}
use Rattle.rc_lang.specs.Nesting.{blocks_at, locks_in}
use Rattle.rc_lang.specs.Program.{Program, Thread, stmt_at}
use Rattle.rc_lang.proofs.Closing.{LeavesLoop, leaves_loop}
use Rattle.rc_lang.proofs.Placed.{each_placed, placed}
use Rattle.rc_rules.specs.declared.cause.Cause.{Cause}
use Rattle.rc_rules.specs.Labels.{Label, IsStrongest}
use Rattle.rc_rules.specs.Labellings.{break_end, break_ends}
use Rattle.rc_rules.specs.Premises.{Meets, Premise}
use Rattle.rc_rules.specs.Needs.{line_premises}
use Rattle.rc_rules.specs.Rules.{asks, asks_both}
use Rattle.rc_rules.specs.Sides.{Sides, on}
use Rattle.rc_rules.specs.States.{asked_alike, State, Gives, label_of, program_of, sides_of}
use Rattle.rc_rules.proofs.Rising.{leave_asked}
use Rattle.rc_verify.specs.declared.walk.Walk.{Walk}
use Rattle.rc_verify.specs.Stack.{last_of, rest_of}
use Rattle.rc_verify.specs.Arms.{two}
use Rattle.rc_verify.specs.Loops.{Breaks, MayBreak, taken}
use Rattle.rc_verify.specs.Walk.{AreKept, Fits, IsClosed, IsLoop, OnKept, PassesLine, Reaches, branch_place, loop_place, most_at, peek_place, places}
use Rattle.rc_verify.proofs.Agreeing.{closed_agree}
use Rattle.rc_verify.proofs.Branching.{on_ok}
use Rattle.rc_verify.proofs.Ends.{other_break, own_break, strongest_more}
use Rattle.rc_verify.proofs.Fit.{broken_closed, broken_fits, fits_alike, fits_more, strongest_closed, strongest_fits}
use Rattle.rc_verify.proofs.Joining.{each_meets}
use Rattle.rc_verify.proofs.Keeping.{KeepsLast, keep_more, kept_too, last_kept, nothing_more, places_more, same_last, some_last}
use Rattle.rc_verify.proofs.Looping.{loops_before, no_loop_places}
use Rattle.rc_verify.proofs.Plainly.{branches_same, fits_behind, peek_same}
use Rattle.rc_verify.proofs.Standing.{Gave, breaks_next, fits_here, here_is, loop_on, of_same, passes, same_of, seen_at, took}

module _ (P : Program) (t : Thread) (j : ℕ) (w : Walk) (r : Reaches P t j w) (o : ℕ) (releases : Locks) (leaves : Bool) (e : stmt_at t.lines j ≡ Some (Break o releases leaves)) where
  out : LeavesLoop t.lines j o releases leaves
  out = leaves_loop t.lines r.thread.nested.each j o releases leaves e

  loops_here : places loop_place (blocks_at t.lines j) ≡ places loop_place (blocks_at t.lines o) ++ o ∷ []
  loops_here = ap (places loop_place) out.within ∙ places_more loop_place (blocks_at t.lines o) (InLoop o out.number ∷ out.inner) ∙ ap (λ os. places loop_place (blocks_at t.lines o) ++ (o ∷ os)) (no_loop_places out.inner out.no_loop_between)

  loop_kept : KeepsLast (IsLoop P t j r.labels) (places loop_place (blocks_at t.lines o)) o w.loops
  loop_kept = last_kept (IsLoop P t j r.labels) (places loop_place (blocks_at t.lines o)) o w.loops (subst (λ os. AreKept (OnKept (IsLoop P t j r.labels)) os w.loops) loops_here r.at.keeps.loops)

  pub break_some : IsSome (last_of w.loops)
  break_some = some_last (IsLoop P t j r.labels) _ o w.loops loop_kept

  loop_last : (s : State) → last_of w.loops ≡ Some s → IsLoop P t j r.labels o s
  loop_last s q = same_last (IsLoop P t j r.labels) _ o w.loops s loop_kept q

  taken_fits : (z : Bool) → Fits (locks_in (blocks_at t.lines o)) (most_at j) (taken releases w.state z)
  taken_fits z = broken_fits releases (locks_in (blocks_at t.lines j)) (locks_in (blocks_at t.lines o)) (most_at j) (label_of w.state z) out.locks_outside (fits_here P t j w r (Break o releases leaves) e z)

  -- what both sides are asked
  abbrev Asked : List (ℕ × Premise)
  Asked = asked_alike w.state [] (Break 0 releases false)

  taken_closed : Meets Asked → (z : Bool) → IsClosed (taken releases w.state z)
  taken_closed m z = broken_closed (program_of w.state) releases (label_of w.state z) (each_meets (label_of w.state) (λ s. asks s (λ bag m. line_premises (program_of w.state) [] bag m (Break 0 releases false))) m z)

  pub may_leave : (s : State) → last_of w.loops ≡ Some s → MayBreak s w.state releases
  may_leave s q =
      let h = loop_last s q in
      record {
        of = same_of P t w.state s r.at.here.of h.breaks.of;
        alike = λ y z. fits_alike (locks_in (blocks_at t.lines o)) (most_at j) (most_at j) (label_of s y) (taken releases w.state z) (h.breaks.fits y) (taken_fits z);
        agree = λ m. let c = taken_closed m in (closed_agree (two (label_of s) (taken releases w.state) true ++ two (label_of s) (taken releases w.state) false) (h.closed true, (c true, (h.closed false, (c false, tt)))), tt);
      }

  -- ---- after it

  joined : (s : State) (new : Sides) (kept : List (Option State)) → Meets Asked → last_of w.loops ≡ Some s → (b : Breaks s (taken releases w.state) w.loops kept) → IsLoop P t (j + 1) (r.labels ++ new ∷ []) o b.keeps.state
  joined s new kept m q b =
      let h = loop_last s q in
      let held = locks_in (blocks_at t.lines o) in
      let now = b.keeps.state in
      let xs : Bool → List Label = λ z. break_ends (take j t.lines) r.labels o z in
      let y : Bool → Label = taken releases w.state in
      let n : (z : Bool) → break_ends (take (j + 1) t.lines) (r.labels ++ new ∷ []) o z ≡ xs z ++ y z ∷ [] = λ z. breaks_next P t j w r (Break o releases leaves) e new o z ∙ ap (λ ys. xs z ++ ys) (own_break o releases leaves (label_of w.state z)) in
      let carried : (z : Bool) → Fits held (most_at j) (b.carried z) = λ z. strongest_fits held (most_at j) (b.carried z) (y z ∷ []) (taken_fits z, tt) (b.carries z) in
      record {
        breaks = record {
          of = of_same P t now s h.breaks.of b.keeps.meet.of;
          strongest = λ z. subst (λ zs. IsStrongest (label_of now z) zs) (sym (n z)) (strongest_more (label_of now z) (label_of s z) (b.carried z) (y z) (xs z) (h.breaks.strongest z) (b.carries z) (b.keeps.meet.each z));
          fits = λ z. fits_more held (most_at j) (most_at (j + 1)) (label_of now z) (omega arith) (strongest_fits held (most_at j) (label_of now z) (label_of s z ∷ b.carried z ∷ []) (h.breaks.fits z, (carried z, tt)) (b.keeps.meet.each z));
        };
        closed = λ z. strongest_closed (label_of now z) (label_of s z ∷ b.carried z ∷ []) (h.closed z, (strongest_closed (b.carried z) (y z ∷ []) (taken_closed m z, tt) (b.carries z), tt)) (b.keeps.meet.each z);
      }

  -- the loops around it
  others : (new : Sides) (xs : List (Option State)) → AreKept (OnKept (IsLoop P t j r.labels)) (places loop_place (blocks_at t.lines o)) xs → AreKept (OnKept (IsLoop P t (j + 1) (r.labels ++ new ∷ []))) (places loop_place (blocks_at t.lines o)) xs
  others new xs h = kept_too (OnKept (IsLoop P t j r.labels)) (OnKept (IsLoop P t (j + 1) (r.labels ++ new ∷ []))) (places loop_place (blocks_at t.lines o)) xs on_each h
    where
      on_each : (k p : ℕ) (x : Option State) → slice_get (places loop_place (blocks_at t.lines o)) k ≡ Some p → OnKept (IsLoop P t j r.labels) p x → OnKept (IsLoop P t (j + 1) (r.labels ++ new ∷ [])) p x
      on_each k p x i h =
          let lt : p < o = loops_before t.lines o [] (blocks_at t.lines o) (each_placed t.lines o [] (blocks_at t.lines o) (placed t.lines r.thread.nested.each o)) k p i in
          let none : (z : Bool) → break_end (Break o releases leaves) p (label_of w.state z) ≡ [] = λ z. other_break o p releases leaves (label_of w.state z) (λ q. omega (arith, lt, q)) in
          loop_on P t j r.labels new p x (λ z. breaks_next P t j w r (Break o releases leaves) e new p z ∙ ap (λ ys. break_ends (take j t.lines) r.labels p z ++ ys) (none z) ∙ nothing_more (break_ends (take j t.lines) r.labels p z)) h

  -- what is kept after the line
  abbrev KeepsBreak : List (Option State) → Type 0
  KeepsBreak kept = (s : State) → last_of w.loops ≡ Some s → Breaks s (taken releases w.state) w.loops kept

  pub break_passes : {X : Type 0} (new : State) (kept : List (Option State)) (x : Result X Cause) → Gives w.state new x Asked (λ z. []) → OnOk x (KeepsBreak kept) → PassesLine P t j (record { state = new; branches = w.branches; peek = w.peek; loops = kept }) x
  break_passes new kept x g k =
      let w' : Walk = record { state = new; branches = w.branches; peek = w.peek; loops = kept } in
      let F : Program → Option ℕ → Sides → List (ℕ × Premise) = λ p f l. asks_both (λ z. on z l) (λ z bag m. line_premises p [] bag m (Break 0 releases false)) in
      let gave = subst (λ ps. Gave P t new x ps (λ z. [])) (sym (leave_asked P t.lists (λ z. on z (seen_at t j r.labels)) o releases leaves)) (took P t w.state new (seen_at t j r.labels) x F (λ p f l z. []) r.at.here.of (here_is P t j w r (Break o releases leaves) e) g) in
      passes P t j w r (Break o releases leaves) e w' x gave
      (λ b z. fits_behind P t j w r (Break o releases leaves) e (label_of new z) (strongest_fits (locks_in (blocks_at t.lines j)) (most_at j + 18) (label_of new z) [] tt (b z)))
      (λ y q. record {
        branches = branches_same P t j w r (Break o releases leaves) e (sides_of new) (ap (places branch_place) out.behind);
        peek = peek_same P t j w r (Break o releases leaves) e (sides_of new) (λ p z. refl) (ap (places peek_place) out.behind);
        loops = grown (sides_of new) (met x y q g) (on_ok (KeepsBreak kept) x y k q);
      })
    where
      met : {X : Type 0} (x : Result X Cause) (y : X) → x ≡ Ok y → Gives w.state new x Asked (λ z. []) → Meets Asked
      met (Ok z) y q g = g.0
      met (Err c) y q g = absurd (cc)

      grown : (l : Sides) → Meets Asked → KeepsBreak kept → AreKept (OnKept (IsLoop P t (j + 1) (r.labels ++ l ∷ []))) (places loop_place (blocks_at t.lines (j + 1))) kept
      grown l m k =
          let R = OnKept (IsLoop P t (j + 1) (r.labels ++ l ∷ [])) in
          let b = k loop_kept.state loop_kept.is in
          let more = keep_more R (places loop_place (blocks_at t.lines o)) (rest_of w.loops) o (Some b.keeps.state) (others l (rest_of w.loops) loop_kept.rest) (joined loop_kept.state l kept m loop_kept.is b) in
          subst (λ os. AreKept R os kept) (sym (ap (places loop_place) out.behind ∙ loops_here)) (subst (λ xs. AreKept R (places loop_place (blocks_at t.lines o) ++ o ∷ []) xs) (sym b.keeps.kept) more)
