-- Worlds that differ only in variables on which nothing depends.
use Rattle.std.proofs.Common.{◌≡◌, ℕ, ℤ, ◌+◌, ◌-◌, ◌||◌, Bool, true, false, if◌then◌else◌, List, [], ◌∷◌, ◌++◌, drop, take, length, length-drop, Option, Some, None, nat_lt, slice_get, slice_set, refl, sym, ap, subst, ◌∙◌, arith, ◌&&◌}
use Rattle.std.proofs.lemmas.Bool.{ltb-false}
use Rattle.std.proofs.lemmas.List.{nil_from_length}
use Rattle.std.proofs.Math.Seq.{drop-nil, take-nil}
use Rattle.rc_lang.specs.declared.lines.Line.{Line}
use Rattle.rc_lang.specs.declared.lines.Op.{Op}
use Rattle.rc_lang.specs.declared.lines.Op.TheVariants.{Set, Assign, Add, Subtract, Load, Store, Fill, Print, GetSqe, PrepRead, PrepWrite, PrepFsync, PrepNop, PrepOther, SetData64, Submit, SubmitAndWait, CqeGetData64, CqeSeen}
use Rattle.rc_lang.specs.declared.lines.Stmt.{Stmt}
use Rattle.rc_lang.specs.declared.lines.Stmt.TheVariants.{Do, Put, Lock, EndLock, If, Else, EndIf, Peek, Case, Other, Nothing, EndArm, EndPeek, Loop, EndLoop, Break}
use Rattle.rc_lang.specs.declared.lines.Test.TheVariants.{Take}
use Rattle.rc_lang.specs.Program.{line_at}
use Rattle.rc_lang.specs.Kept.{IsProgram}
use Rattle.rc_world.specs.declared.controls.Answer.{Answer}
use Rattle.rc_world.specs.declared.controls.Look.TheVariants.{Unseen}
use Rattle.rc_world.specs.declared.event.Completion.{Completion}
use Rattle.rc_world.specs.declared.event.Event.{Event}
use Rattle.rc_world.specs.declared.world.Slot.{Slot}
use Rattle.rc_world.specs.declared.world.Slot.TheVariants.{Closed, Vacant, Prepared}
use Rattle.rc_lang.specs.declared.request.Request.{Request}
use Rattle.rc_world.specs.declared.fault.FaultKind.{FaultKind}
use Rattle.rc_world.specs.declared.fault.Party.TheVariants.{At}
use Rattle.rc_world.specs.declared.fault.FaultKind.TheVariants.{WriteOfPending, ReadOfFilling, KernelClash, ThreadRace, RingFull, Overflow, AmbiguousData, UnknownReap, NoLock, RawEntry, OutOfBuffer, DoublePut}
use Rattle.rc_world.specs.Controls.{Controls, Move, Standing, acts, as_event, made, moved, next_at, next_line, passes_arm, rest_at, variables_in}
use Rattle.rc_world.specs.Faults.{Access, access_at, access_of, all_kinds, conflicts, fault_at, fault_of, faults_by, faults_from, has_fault, kernel_faults, races_from, is_double_at, may_put}
use Rattle.rc_world.specs.Machine.{World, all_begin, count_in, fits_buffer, gets_front, hands_over, in_rings, is_take, op_in_rings, opens_entry, prepares, stmt_answer, submits_by, thread_step, thread_step_at, with_controls}
use Rattle.rc_runs.specs.Closing.{AreLikeStandings, IfBoth, IsLike, Pairwise, line_follows, op_follows, stmt_follows, with_threads}
use Rattle.rc_runs.specs.Stuck.{line_moves, op_moves, stmt_moves}
use Rattle.rc_runs.proofs.Still.{step_is}
use Rattle.rc_runs.proofs.AlikeMoves.{AreMovesAlike, acts_like, pairs_many, pairs_set}
use Rattle.rc_lang.proofs.Reading.{line_alone, list_alone}
use Rattle.rc_split.specs.Pools.{all_pooled, includes, overfills, pool_of}

-- ---- the world

module _ (kept : List Bool) (w : World) (ts : List Standing) (threads : Pairwise (AreLikeStandings kept) ts w.controls.threads) (program_made : IsProgram w.program) where
  place_like : (i : ℕ) (o p : Option Standing) → IfBoth (AreLikeStandings kept i) o p → next_at w.program i o ≡ next_at w.program i p
  place_like i None None h = refl
  place_like i None (Some u) h = absurd h
  place_like i (Some t) None h = absurd h
  place_like i (Some t) (Some u) h = line_alone w.program program_made i t.variables t.place ∙ ap (line_at w.program i) h.place ∙ sym (line_alone w.program program_made i u.variables u.place)

  pub line_like : (i : ℕ) → next_line w.program (record w.controls { threads = ts }) i ≡ next_line w.program w.controls i
  line_like i = place_like i (slice_get ts i) (slice_get w.controls.threads i) (threads i)

  races_like : (a : Option Access) (j : ℕ) (xs ys : List Standing) → length xs ≡ length ys → races_from (with_threads w ts) a j xs ≡ races_from w a j ys
  races_like a j [] [] many = refl
  races_like a j [] (y ∷ ys) many = absurd (cc)
  races_like a j (x ∷ xs) [] many = absurd (cc)
  races_like a j (x ∷ xs) (y ∷ ys) many =
      ap (λ o. conflicts a (access_at o) || races_from (with_threads w ts) a (j + 1) xs) (line_like j)
      ∙ ap (λ b. conflicts a (access_at (next_line w.program w.controls j)) || b) (races_like a (j + 1) xs ys (omega (arith, many)))

  many_like : length ts ≡ length w.controls.threads
  many_like = pairs_many (AreLikeStandings kept) ts w.controls.threads threads

  double_like : (i : ℕ) (s : Stmt) → is_double_at (with_threads w ts) i s ≡ is_double_at w i s
  double_like i (Put pool k) =
      let read = λ (o : Option Standing). list_alone w.program program_made i (variables_in o) k in
      ap (λ items. may_put w i pool && overfills w.program (all_pooled w.program w.controls.pools) items) (read (slice_get ts i) ∙ sym (read (slice_get w.controls.threads i)))
  double_like i _ = refl

  -- what a statement moves doesn't hang on variables
  stmt_moves_like : (i : ℕ) (s : Stmt) → stmt_moves (with_threads w ts) i s ≡ stmt_moves w i s
  stmt_moves_like i (If (Take pool k)) =
      let read = λ (o : Option Standing). list_alone w.program program_made i (variables_in o) k in
      ap (includes w.program (pool_of w.controls.pools pool)) (read (slice_get ts i) ∙ sym (read (slice_get w.controls.threads i)))
  stmt_moves_like i _ = refl

  pub line_moves_like : (i : ℕ) (o : Option Line) → line_moves (with_threads w ts) i o ≡ line_moves w i o
  line_moves_like i None = refl
  line_moves_like i (Some l) = stmt_moves_like i l.stmt

  has_like : (kind : FaultKind) (i : ℕ) (s : Stmt) → has_fault (with_threads w ts) kind i s ≡ has_fault w kind i s
  has_like WriteOfPending i s = refl
  has_like ReadOfFilling i s = refl
  has_like KernelClash i s = refl
  has_like ThreadRace i s = races_like (access_of s) (i + 1) (drop (i + 1) ts) (drop (i + 1) w.controls.threads) (length-drop (i + 1) ts ∙ ap (λ n. n - (i + 1)) many_like ∙ sym (length-drop (i + 1) w.controls.threads))
  has_like RingFull i s = refl
  has_like Overflow i s = refl
  has_like AmbiguousData i s = refl
  has_like UnknownReap i s = refl
  has_like NoLock i s = refl
  has_like RawEntry i s = refl
  has_like OutOfBuffer i s = refl
  has_like DoublePut i s = double_like i s

  fault_like : (kind : FaultKind) (i : ℕ) (o : Option Line) → fault_at (with_threads w ts) kind i o ≡ fault_at w kind i o
  fault_like kind i None = refl
  fault_like kind i (Some l) = ap (λ b. if b then record { kind = kind; party = At i l.number } ∷ [] else []) (has_like kind i l.stmt)

  faults_like : (kind : FaultKind) (j : ℕ) (xs ys : List Standing) → length xs ≡ length ys → faults_from (with_threads w ts) kind j xs ≡ faults_from w kind j ys
  faults_like kind j [] [] many = refl
  faults_like kind j [] (y ∷ ys) many = absurd (cc)
  faults_like kind j (x ∷ xs) [] many = absurd (cc)
  faults_like kind j (x ∷ xs) (y ∷ ys) many =
      ap (λ o. fault_at (with_threads w ts) kind j o ++ faults_from (with_threads w ts) kind (j + 1) xs) (line_like j)
      ∙ ap (λ fs. fs ++ faults_from (with_threads w ts) kind (j + 1) xs) (fault_like kind j (next_line w.program w.controls j))
      ∙ ap (λ fs. fault_at w kind j (next_line w.program w.controls j) ++ fs) (faults_like kind (j + 1) xs ys (omega (arith, many)))

  kinds_like : (kinds : List FaultKind) → faults_by (with_threads w ts) kinds ≡ faults_by w kinds
  kinds_like [] = refl
  kinds_like (kind ∷ kinds) =
      ap (λ fs. (kernel_faults w kind ++ fs) ++ faults_by (with_threads w ts) kinds) (faults_like kind 0 ts w.controls.threads many_like)
      ∙ ap (λ fs. (kernel_faults w kind ++ faults_from w kind 0 w.controls.threads) ++ fs) (kinds_like kinds)

  pub fault_same : fault_of (with_threads w ts) ≡ fault_of w
  fault_same = ap (λ fs. slice_get fs 0) (kinds_like all_kinds)

-- ---- the step of a thread

abbrev pub AreStepsAlike : List Bool → Option (Event × World) → Option (Event × World) → Type 0
AreStepsAlike kept None None = Unit {0}
AreStepsAlike kept None (Some s) = ⊥
AreStepsAlike kept (Some s) None = ⊥
AreStepsAlike kept (Some (e, a)) (Some (f, b)) = IsLike kept a b

hands_none : (w : World) (n : ℕ) → w.queued ≡ [] → hands_over w n ≡ w
hands_none w n none =
    ap (λ (q : List Request). all_begin (record w { queued = drop n q }) (take n q)) none
    ∙ ap (λ (q : List Request). all_begin (record w { queued = q }) (take n [])) (drop-nil n)
    ∙ ap (λ (q : List Request). all_begin (record w { queued = [] }) q) (take-nil n)
    ∙ ap (λ (q : List Request). record w { queued = q }) (sym none)

module _ (w : World) (ts : List Standing) where
  abbrev AreRingsAlike : Option World → Option World → Type 0
  AreRingsAlike None None = Unit {0}
  AreRingsAlike None (Some b) = ⊥
  AreRingsAlike (Some a) None = ⊥
  AreRingsAlike (Some a) (Some b) = a ≡ with_threads b ts

  if_rings : (b : Bool) (x y : World) → x ≡ with_threads y ts → AreRingsAlike (if b then Some x else None) (if b then Some y else None)
  if_rings true x y h = h
  if_rings false x y h = tt

  opens_like : (slot : Slot) → AreRingsAlike (opens_entry (with_threads w ts) slot) (opens_entry w slot)
  opens_like Closed = if_rings (nat_lt (length w.queued) w.program.entries) _ _ refl
  opens_like Vacant = tt
  opens_like (Prepared r) = tt

  prepares_like : (r : Request) (slot : Slot) → AreRingsAlike (prepares (with_threads w ts) r slot) (prepares w r slot)
  prepares_like r Closed = tt
  prepares_like r Vacant = if_rings (fits_buffer w.program r) _ _ refl
  prepares_like r (Prepared q) = tt

  gets_like : (cs : List Completion) → AreRingsAlike (gets_front (with_threads w ts) cs) (gets_front w cs)
  gets_like [] = tt
  gets_like (cqe ∷ cs) = refl

  submits_like : (r : ℤ) → nat_lt 0 (length w.queued) ≡ false → AreRingsAlike (submits_by (with_threads w ts) r) (submits_by w r)
  submits_like r h =
      let none : w.queued ≡ [] = nil_from_length w.queued (omega (arith, ltb-false 0 (length w.queued) h)) in
      if_rings (is_take w r) _ _ (hands_none (with_threads w ts) (count_in r) none ∙ ap (λ (x : World). with_threads x ts) (sym (hands_none w (count_in r) none)))

  ops_like : (kept : List Bool) (i : ℕ) (t u : Standing) (r : ℤ) (op : Op) → op_moves w op ≡ false → op_follows kept i op ≡ true → AreRingsAlike (op_in_rings (with_threads w ts) t r op) (op_in_rings w u r op)
  ops_like kept i t u r (Set x n) q p = refl
  ops_like kept i t u r (Assign x y) q p = refl
  ops_like kept i t u r (Add x y z) q p = refl
  ops_like kept i t u r (Subtract x y z) q p = refl
  ops_like kept i t u r (Load x b j) q p = refl
  ops_like kept i t u r (Store b j x) q p = absurd (cc)
  ops_like kept i t u r (Fill b x) q p = absurd (cc)
  ops_like kept i t u r (Print x) q p = refl
  ops_like kept i t u r GetSqe q p = opens_like w.slot
  ops_like kept i t u r (PrepRead fd b len off) q p = prepares_like _ w.slot
  ops_like kept i t u r (PrepWrite fd b len off k) q p = prepares_like _ w.slot
  ops_like kept i t u r (PrepFsync fd datasync) q p = prepares_like _ w.slot
  ops_like kept i t u r PrepNop q p = prepares_like _ w.slot
  ops_like kept i t u r PrepOther q p = prepares_like _ w.slot
  ops_like kept i t u r (SetData64 k) q p = absurd (cc)
  ops_like kept i t u r (Submit x) q p = submits_like r q
  ops_like kept i t u r (SubmitAndWait x n) q p = submits_like r q
  ops_like kept i t u r CqeGetData64 q p = gets_like w.completions
  ops_like kept i t u r CqeSeen q p = absurd (cc)

  rings_like : (kept : List Bool) (i : ℕ) (t u : Standing) (r : ℤ) (s : Stmt) → stmt_moves w i s ≡ false → stmt_follows kept i s ≡ true → AreRingsAlike (in_rings (with_threads w ts) t r s) (in_rings w u r s)
  rings_like kept i t u r (Do op) q p = ops_like kept i t u r op q p
  rings_like kept i t u r (Put pool k) q p = refl
  rings_like kept i t u r (Lock wanted) q p = refl
  rings_like kept i t u r (EndLock o released) q p = refl
  rings_like kept i t u r (If test) q p = refl
  rings_like kept i t u r (Else o) q p = refl
  rings_like kept i t u r (EndIf o) q p = refl
  rings_like kept i t u r (Peek x) q p = refl
  rings_like kept i t u r (Case o k) q p = refl
  rings_like kept i t u r (Other o) q p = refl
  rings_like kept i t u r (Nothing o) q p = refl
  rings_like kept i t u r (EndArm o) q p = refl
  rings_like kept i t u r (EndPeek o) q p = refl
  rings_like kept i t u r (Loop k) q p = refl
  rings_like kept i t u r (EndLoop o k) q p = refl
  rings_like kept i t u r (Break o releases leaves) q p = refl

module _ (kept : List Bool) (w : World) (ts : List Standing) (threads : Pairwise (AreLikeStandings kept) ts w.controls.threads) (program_made : IsProgram w.program) (i : ℕ) (l : Line) where
  abbrev own : Controls
  own = record w.controls { threads = ts }

  made_like : (a b : World) (m n : Move) → a ≡ with_threads b ts → AreMovesAlike kept i m n → IsLike kept (record a { controls = moved w.program own i m }) (record b { controls = moved w.program w.controls i n })
  made_like a b m n h alike =
      let new : List Standing = slice_set ts i (record { place = rest_at w.program i m.place; variables = m.variables }) in
      let other : Controls = moved w.program w.controls i n in
      record {
        rest =
            ap (λ (x : World). record x { controls = moved w.program own i m }) h
            ∙ ap (λ x. record b { controls = record { threads = new; holders = x; look = if passes_arm w.program i m.place then Unseen else m.look; pools = m.pools } }) alike.holders
            ∙ ap (λ x. record b { controls = record { threads = new; holders = n.holders; look = if passes_arm w.program i m.place then Unseen else x; pools = m.pools } }) alike.look
            ∙ ap (λ x. record b { controls = record { threads = new; holders = n.holders; look = if passes_arm w.program i x then Unseen else n.look; pools = m.pools } }) alike.place
            ∙ ap (λ x. record b { controls = record other { threads = new; pools = x } }) alike.pools;
        threads =
            pairs_set (AreLikeStandings kept) ts w.controls.threads i (record { place = rest_at w.program i m.place; variables = m.variables }) (record { place = rest_at w.program i n.place; variables = n.variables }) threads
            (record { place = ap (rest_at w.program i) alike.place; many = alike.many; same = alike.same });
      }

  ends_like : (x y : Option World) (m n : Option Move) → AreRingsAlike w ts x y → IfBoth (AreMovesAlike kept i) m n →
      AreStepsAlike kept (with_controls x (as_event w.program i l (made w.program own i m))) (with_controls y (as_event w.program i l (made w.program w.controls i n)))
  ends_like None None m n h k = tt
  ends_like None (Some b) m n h k = absurd h
  ends_like (Some a) None m n h k = absurd h
  ends_like (Some a) (Some b) None None h k = tt
  ends_like (Some a) (Some b) None (Some n) h k = absurd k
  ends_like (Some a) (Some b) (Some m) None h k = absurd k
  ends_like (Some a) (Some b) (Some m) (Some n) h k = made_like a b m n h k

  at_line_like : (t u : Standing) (r : ℤ) → slice_get ts i ≡ Some t → slice_get w.controls.threads i ≡ Some u → AreLikeStandings kept i t u → next_at w.program i (Some u) ≡ Some l → stmt_moves w i l.stmt ≡ false → stmt_follows kept i l.stmt ≡ true →
      AreStepsAlike kept (thread_step (with_threads w ts) i r) (thread_step w i r)
  at_line_like t u r here there alike line q p =
      let a : Answer = stmt_answer w r l.stmt in
      let same_place : t ≡ record { place = u.place; variables = t.variables } = ap (λ (n : ℕ). record { place = n; variables = t.variables }) alike.place in
      let acted : IfBoth (AreMovesAlike kept i) (acts w.program own i t l.stmt a) (acts w.program w.controls i u l.stmt a) =
      subst (λ (x : Standing). IfBoth (AreMovesAlike kept i) (acts w.program own i x l.stmt a) (acts w.program w.controls i u l.stmt a)) (sym same_place) (acts_like kept i w.controls ts u.place t.variables u.variables alike.many alike.same w.program program_made l.stmt p a)
      in
      let ended = ends_like _ _ _ _ (rings_like w ts kept i t u r l.stmt q p) acted in
      let first = step_is (with_threads w ts) i t l here r (place_like kept w ts threads program_made i (Some t) (Some u) alike ∙ line) in
      let second = step_is w i u l there r line in
      subst (λ s. AreStepsAlike kept s (thread_step w i r)) (sym first) (subst (λ s. AreStepsAlike kept (with_controls (in_rings (with_threads w ts) t r l.stmt) (as_event w.program i l (made w.program own i (acts w.program own i t l.stmt a)))) s) (sym second) ended)

module _ (kept : List Bool) (w : World) (ts : List Standing) (threads : Pairwise (AreLikeStandings kept) ts w.controls.threads) (program_made : IsProgram w.program) where
  no_line : (v : World) (i : ℕ) (r : ℤ) → next_line v.program v.controls i ≡ None → thread_step v i r ≡ None
  no_line v i r none = go (slice_get v.controls.threads i) refl
    where
      go : (o : Option Standing) → slice_get v.controls.threads i ≡ o → thread_step v i r ≡ None
      go None here = ap (λ o. thread_step_at v i r o (next_line v.program v.controls i)) here
      go (Some t) here = ap (λ o. thread_step_at v i r o (next_line v.program v.controls i)) here ∙ ap (thread_step_at v i r (Some t)) none

  -- A step of a thread in the one is a step in the other, and leads to worlds that are alike.
  pub steps_like : (i : ℕ) (r : ℤ) → line_moves w i (next_line w.program w.controls i) ≡ false → line_follows kept i (next_line w.program w.controls i) ≡ true → AreStepsAlike kept (thread_step (with_threads w ts) i r) (thread_step w i r)
  steps_like i r q p = at_threads (slice_get ts i) (slice_get w.controls.threads i) refl refl (threads i)
    where
      none_like : next_line w.program w.controls i ≡ None → AreStepsAlike kept (thread_step (with_threads w ts) i r) (thread_step w i r)
      none_like none =
          let first : thread_step (with_threads w ts) i r ≡ None = no_line (with_threads w ts) i r (line_like kept w ts threads program_made i ∙ none) in
          let second : thread_step w i r ≡ None = no_line w i r none in
          subst (λ s. AreStepsAlike kept s (thread_step w i r)) (sym first) (subst (λ s. AreStepsAlike kept None s) (sym second) tt)

      at_lines : (t u : Standing) → slice_get ts i ≡ Some t → slice_get w.controls.threads i ≡ Some u → AreLikeStandings kept i t u → (o : Option Line) → next_at w.program i (Some u) ≡ o → AreStepsAlike kept (thread_step (with_threads w ts) i r) (thread_step w i r)
      at_lines t u here there alike None line = none_like (ap (next_at w.program i) there ∙ line)
      at_lines t u here there alike (Some l) line =
          let next_is : next_line w.program w.controls i ≡ Some l = ap (next_at w.program i) there ∙ line in
          at_line_like kept w ts threads program_made i l t u r here there alike line (sym (ap (line_moves w i) next_is) ∙ q) (sym (ap (line_follows kept i) next_is) ∙ p)

      at_threads : (o x : Option Standing) → slice_get ts i ≡ o → slice_get w.controls.threads i ≡ x → IfBoth (AreLikeStandings kept i) o x → AreStepsAlike kept (thread_step (with_threads w ts) i r) (thread_step w i r)
      at_threads None None here there alike = none_like (ap (next_at w.program i) there)
      at_threads None (Some u) here there alike = absurd alike
      at_threads (Some t) None here there alike = absurd alike
      at_threads (Some t) (Some u) here there alike = at_lines t u here there alike (next_at w.program i (Some u)) refl

-- ---- worlds that are alike

standing_same : (kept : List Bool) (i : ℕ) (o : Option Standing) → IfBoth (AreLikeStandings kept i) o o
standing_same kept i None = tt
standing_same kept i (Some t) = record { place = refl; many = refl; same = λ x m. refl }

pub like_same : (kept : List Bool) (w : World) → IsLike kept w w
like_same kept w = record { rest = refl; threads = λ j. standing_same kept j (slice_get w.controls.threads j) }

standing_on : (kept : List Bool) (i : ℕ) (a b c : Option Standing) → IfBoth (AreLikeStandings kept i) a b → IfBoth (AreLikeStandings kept i) b c → IfBoth (AreLikeStandings kept i) a c
standing_on kept i None None None f g = tt
standing_on kept i None None (Some u) f g = absurd g
standing_on kept i None (Some t) c f g = absurd f
standing_on kept i (Some t) None c f g = absurd f
standing_on kept i (Some t) (Some u) None f g = absurd g
standing_on kept i (Some t) (Some u) (Some v) f g = record { place = f.place ∙ g.place; many = f.many ∙ g.many; same = λ x m. f.same x m ∙ g.same x m }

pub like_on : (kept : List Bool) (a b c : World) → IsLike kept a b → IsLike kept b c → IsLike kept a c
like_on kept a b c f g = record {
  rest = f.rest ∙ ap (λ (x : World). with_threads x a.controls.threads) g.rest;
  threads = λ j. standing_on kept j (slice_get a.controls.threads j) (slice_get b.controls.threads j) (slice_get c.controls.threads j) (f.threads j) (g.threads j);
}
