-- What the step of a thread leaves of a world, where it moves nothing and can be compared.
use Rattle.std.proofs.Common.{◌≡◌, ℕ, ℤ, pos, Bool, true, false, if◌then◌else◌, List, [], ◌∷◌, drop, get_or, take, length, map, Option, Some, None, slice_get, slice_set, nat_lt, refl, sym, ap, subst, ◌∙◌, arith}
use Rattle.std.proofs.lemmas.Bool.{ltb-false}
use Rattle.std.proofs.lemmas.List.{length-set, nil_from_length}
use Rattle.std.proofs.lemmas.Option.{get_or_from_slice_get, same_Some}
use Rattle.std.proofs.Math.Seq.{drop-nil, map-set_same, take-nil}
use Rattle.rc_lang.specs.declared.lines.Line.{Line}
use Rattle.rc_lang.specs.declared.lines.Op.{Op}
use Rattle.rc_lang.specs.declared.lines.Op.TheVariants.{Set, Assign, Add, Subtract, Load, Store, Fill, Print, GetSqe, PrepRead, PrepWrite, PrepFsync, PrepNop, PrepOther, SetData64, Submit, SubmitAndWait, CqeGetData64, CqeSeen}
use Rattle.rc_lang.specs.declared.lines.Stmt.{Stmt}
use Rattle.rc_lang.specs.declared.lines.Stmt.TheVariants.{Do, Put, Lock, EndLock, If, Else, EndIf, Peek, Case, Other, Nothing, EndArm, EndPeek, Loop, EndLoop, Break}
use Rattle.rc_lang.specs.declared.lines.Test.{Test}
use Rattle.rc_lang.specs.declared.lines.Test.TheVariants.{Compare, ReadyZero, SpaceAtLeast, Take, Any}
use Rattle.rc_lang.specs.declared.request.Request.{Request}
use Rattle.rc_lang.specs.Program.{Program}
use Rattle.rc_split.specs.Pools.{includes, pool_of, taken_from}
use Rattle.rc_world.specs.declared.controls.Answer.{Answer}
use Rattle.rc_world.specs.declared.controls.Answer.TheVariants.{Plain, Number, Byte, Front}
use Rattle.rc_world.specs.declared.event.Completion.{Completion}
use Rattle.rc_world.specs.declared.event.Event.{Event}
use Rattle.rc_world.specs.declared.world.Slot.{Slot}
use Rattle.rc_world.specs.declared.world.Slot.TheVariants.{Closed, Vacant, Prepared}
use Rattle.rc_world.specs.Changes.{nowhere}
use Rattle.rc_world.specs.Controls as controls
use Rattle.rc_world.specs.Controls.{Controls, Move, Standing, acts, acts_on, as_event, branches, controls_step, does, goes_on, is_choice, made, moved, next_at, next_line, peeks, plainly, rest_at, sets_variable, tries_to_take, list_at, list_here, variables_in}
use Rattle.rc_world.specs.Machine.{World, all_begin, fits_buffer, gets_front, hands_over, in_rings, is_take, op_in_rings, opens_entry, prepares, stmt_answer, submits_by, thread_step, thread_step_at, with_controls}
use Rattle.rc_runs.specs.Closing.{line_follows, op_follows, still, still_controls, still_standing, still_with, stmt_follows}
use Rattle.rc_runs.specs.Stuck.{line_moves, op_moves, stmt_moves}
use Rattle.rc_lang.specs.Rows.{list_read_at}

-- ---- in the controls

module _ (c : Controls) (t : Standing) where
  -- The move leaves the pools, and as many variables.
  pub record IsMild (m : Move) : Type 0 where
    pub pools : m.pools ≡ c.pools
    pub many : length m.variables ≡ length t.variables

  abbrev pub IfMild : Option Move → Type 0
  IfMild None = Unit {0}
  IfMild (Some m) = IsMild m

  -- the pools and all variables as they were
  left : (m : Move) → m.pools ≡ c.pools → m.variables ≡ t.variables → IsMild m
  left m pools same = record { pools = pools; many = ap length same }

  sets : (m : Move) (x : ℕ) (v : ℤ) → m.pools ≡ c.pools → m.variables ≡ slice_set t.variables x v → IsMild m
  sets m x v pools same = record { pools = pools; many = ap length same ∙ length-set t.variables x v }

  plain : (m : Move) → IsMild m → (a : Answer) → IfMild (plainly m a)
  plain m h Plain = h
  plain m h (Number n) = tt
  plain m h (Byte b) = tt
  plain m h (Front cqe) = tt

  if_mild : (b : Bool) (m : Option Move) → IfMild m → IfMild (if b then m else None)
  if_mild true m h = h
  if_mild false m h = tt

  no_plain : {A : Type 0} → false ≡ true → A
  no_plain h = absurd (cc)

  does_mild : (kept : List Bool) (j : ℕ) (op : Op) → op_follows kept j op ≡ true → (a : Answer) → IfMild (does c t op a)
  does_mild kept j (Set x n) p a = plain _ (sets _ x n refl refl) a
  does_mild kept j (Assign x y) p a = plain _ (sets _ x _ refl refl) a
  does_mild kept j (Add x y z) p a = plain _ (sets _ x _ refl refl) a
  does_mild kept j (Subtract x y z) p a = plain _ (sets _ x _ refl refl) a
  does_mild kept j (Load x b y) p Plain = tt
  does_mild kept j (Load x b y) p (Number n) = tt
  does_mild kept j (Load x b y) p (Byte n) = sets _ x (pos n) refl refl
  does_mild kept j (Load x b y) p (Front cqe) = tt
  does_mild kept j (Store b y x) p a = no_plain p
  does_mild kept j (Fill b x) p a = no_plain p
  does_mild kept j (Print x) p a = plain _ (left _ refl refl) a
  does_mild kept j GetSqe p a = plain _ (left _ refl refl) a
  does_mild kept j (PrepRead fd b len off) p a = plain _ (left _ refl refl) a
  does_mild kept j (PrepWrite fd b len off k) p a = plain _ (left _ refl refl) a
  does_mild kept j (PrepFsync fd datasync) p a = plain _ (left _ refl refl) a
  does_mild kept j PrepNop p a = plain _ (left _ refl refl) a
  does_mild kept j PrepOther p a = plain _ (left _ refl refl) a
  does_mild kept j (SetData64 u) p a = plain _ (left _ refl refl) a
  does_mild kept j (Submit x) p Plain = tt
  does_mild kept j (Submit x) p (Number n) = sets _ x n refl refl
  does_mild kept j (Submit x) p (Byte n) = tt
  does_mild kept j (Submit x) p (Front cqe) = tt
  does_mild kept j (SubmitAndWait x n) p Plain = tt
  does_mild kept j (SubmitAndWait x n) p (Number m) = sets _ x m refl refl
  does_mild kept j (SubmitAndWait x n) p (Byte m) = tt
  does_mild kept j (SubmitAndWait x n) p (Front cqe) = tt
  does_mild kept j CqeGetData64 p Plain = tt
  does_mild kept j CqeGetData64 p (Number n) = tt
  does_mild kept j CqeGetData64 p (Byte n) = tt
  does_mild kept j CqeGetData64 p (Front cqe) = left _ refl refl
  does_mild kept j CqeSeen p Plain = tt
  does_mild kept j CqeSeen p (Number n) = tt
  does_mild kept j CqeSeen p (Byte n) = tt
  does_mild kept j CqeSeen p (Front cqe) = left _ refl refl

  module _ (program : Program) (i : ℕ) where
    takes_mild : (pool : Option ℕ) (k : ℕ) → includes program (pool_of c.pools pool) (list_at program i t k) ≡ false → IsMild (tries_to_take program c i t pool (list_at program i t k))
    takes_mild pool k none =
        subst
        (λ b. IsMild (if b then record (branches program c i t true) { pools = taken_from program pool (list_at program i t k) c.pools } else branches program c i t false))
        (sym none)
        (left (branches program c i t false) refl refl)

    decides_mild : (test : Test) (a : Answer) → ((pool : Option ℕ) (k : ℕ) → test ≡ Take pool k → includes program (pool_of c.pools pool) (list_at program i t k) ≡ false) → IfMild (controls.decides program c i t test a)
    decides_mild (Compare x comparison n) a none = plain _ (left _ refl refl) a
    decides_mild ReadyZero Plain none = tt
    decides_mild ReadyZero (Number n) none = left _ refl refl
    decides_mild ReadyZero (Byte b) none = tt
    decides_mild ReadyZero (Front cqe) none = tt
    decides_mild (SpaceAtLeast m) Plain none = tt
    decides_mild (SpaceAtLeast m) (Number n) none = left _ refl refl
    decides_mild (SpaceAtLeast m) (Byte b) none = tt
    decides_mild (SpaceAtLeast m) (Front cqe) none = tt
    decides_mild (Take pool k) a none = plain _ (takes_mild pool k (none pool k refl)) a
    decides_mild Any Plain none = tt
    decides_mild Any (Number n) none = if_mild (is_choice n) _ (left _ refl refl)
    decides_mild Any (Byte b) none = tt
    decides_mild Any (Front cqe) none = tt

    peeks_mild : (x : ℕ) → (a : Answer) → IfMild (peeks program c i t x a)
    peeks_mild x Plain = sets _ x _ refl refl
    peeks_mild x (Number n) = tt
    peeks_mild x (Byte b) = tt
    peeks_mild x (Front cqe) = sets _ x _ refl refl

    still_moved : (m : Move) → IsMild m → slice_get c.threads i ≡ Some t → still_controls (moved program c i m) ≡ still_controls c
    still_moved m mild here =
        let new : Standing = record { place = rest_at program i m.place; variables = m.variables } in
        let same : still_standing new ≡ still_standing t = ap (λ (n : ℕ). record { place = n; variables = [] }) mild.many in
        let there : still_standing t ≡ still_standing (get_or c.threads i nowhere) = ap still_standing (sym (get_or_from_slice_get c.threads i t nowhere here)) in
        let threads : map still_standing (slice_set c.threads i new) ≡ map still_standing c.threads = map-set_same still_standing c.threads i new nowhere (same ∙ there) in
        ap (λ (ts : List Standing). record (still_controls (moved program c i m)) { threads = ts }) threads
        ∙ ap (λ ps. record (still_controls c) { pools = ps }) mild.pools

acts_mild : (kept : List Bool) (w : World) (i : ℕ) (t : Standing) → slice_get w.controls.threads i ≡ Some t → (s : Stmt) → stmt_moves w i s ≡ false → stmt_follows kept i s ≡ true → (a : Answer) → IfMild w.controls t (acts w.program w.controls i t s a)
acts_mild kept w i t here (Do op) q p a = does_mild w.controls t kept i op p a
acts_mild kept w i t here (Put pool k) q p a = absurd (cc)
acts_mild kept w i t here (Lock wanted) q p a = if_mild w.controls t (controls.are_free wanted w.controls.holders) _ (plain w.controls t _ (left w.controls t _ refl refl) a)
acts_mild kept w i t here (EndLock o released) q p a = plain w.controls t _ (left w.controls t _ refl refl) a
acts_mild kept w i t here (If test) q p a = decides_mild w.controls t w.program i test a (taken test q)
  where
    taken : (test : Test) → stmt_moves w i (If test) ≡ false → (pool : Option ℕ) (k : ℕ) → test ≡ Take pool k → includes w.program (pool_of w.controls.pools pool) (list_at w.program i t k) ≡ false
    taken test q pool k is =
        let read : list_here w.program w.controls i k ≡ list_at w.program i t k = ap (λ (o : Option Standing). list_read_at w.program i (variables_in o) k) here in
        ap (includes w.program (pool_of w.controls.pools pool)) (sym read) ∙ subst (λ (test : Test). stmt_moves w i (If test) ≡ false) is q
acts_mild kept w i t here (Else o) q p a = tt
acts_mild kept w i t here (EndIf o) q p a = tt
acts_mild kept w i t here (Peek x) q p a = peeks_mild w.controls t w.program i x a
acts_mild kept w i t here (Case o u) q p a = tt
acts_mild kept w i t here (Other o) q p a = tt
acts_mild kept w i t here (Nothing o) q p a = tt
acts_mild kept w i t here (EndArm o) q p a = tt
acts_mild kept w i t here (EndPeek o) q p a = tt
acts_mild kept w i t here (Loop k) q p a = plain w.controls t _ (left w.controls t _ refl refl) a
acts_mild kept w i t here (EndLoop o k) q p a = plain w.controls t _ (left w.controls t _ refl refl) a
acts_mild kept w i t here (Break o releases leaves) q p a = plain w.controls t _ (left w.controls t _ refl refl) a

-- ---- in the rings

-- Whatever the controls are, the same is left.
abbrev pub LeavesStill : World → World → Type 0
LeavesStill w v = (c : Controls) → still_with c v ≡ still_with c w

abbrev pub IfLeavesStill : World → Option World → Type 0
IfLeavesStill w None = Unit {0}
IfLeavesStill w (Some v) = LeavesStill w v

module _ (w : World) where
  if_still : (b : Bool) (v : World) → LeavesStill w v → IfLeavesStill w (if b then Some v else None)
  if_still true v h = h
  if_still false v h = tt

  opens_still : (slot : Slot) → IfLeavesStill w (opens_entry w slot)
  opens_still Closed = if_still (nat_lt (length w.queued) w.program.entries) _ (λ c. refl)
  opens_still Vacant = tt
  opens_still (Prepared r) = tt

  prepares_still : (r : Request) (slot : Slot) → IfLeavesStill w (prepares w r slot)
  prepares_still r Closed = tt
  prepares_still r Vacant = if_still (fits_buffer w.program r) _ (λ c. refl)
  prepares_still r (Prepared q) = tt

  gets_still : (cs : List Completion) → IfLeavesStill w (gets_front w cs)
  gets_still [] = tt
  gets_still (cqe ∷ cs) = λ c. refl

  -- nothing is queued
  hands_still : (n : ℕ) → w.queued ≡ [] → LeavesStill w (hands_over w n)
  hands_still n none c =
      ap (λ (q : List Request). still_with c (all_begin (record w { queued = drop n q }) (take n q))) none
      ∙ ap (λ (q : List Request). still_with c (all_begin (record w { queued = q }) (take n []))) (drop-nil n)
      ∙ ap (λ (q : List Request). still_with c (all_begin (record w { queued = [] }) q)) (take-nil n)
      ∙ ap (λ (q : List Request). still_with c (record w { queued = q })) (sym none)

  none_queued : (q : List Request) → nat_lt 0 (length q) ≡ false → q ≡ []
  none_queued q h = nil_from_length q (omega (arith, ltb-false 0 (length q) h))

  submits_still : (r : ℤ) → nat_lt 0 (length w.queued) ≡ false → IfLeavesStill w (submits_by w r)
  submits_still r none = if_still (is_take w r) _ (hands_still _ (none_queued w.queued none))

  rings_still : (kept : List Bool) (j : ℕ) (t : Standing) (r : ℤ) (op : Op) → op_moves w op ≡ false → op_follows kept j op ≡ true → IfLeavesStill w (op_in_rings w t r op)
  rings_still kept j t r (Set x n) q p = λ c. refl
  rings_still kept j t r (Assign x y) q p = λ c. refl
  rings_still kept j t r (Add x y z) q p = λ c. refl
  rings_still kept j t r (Subtract x y z) q p = λ c. refl
  rings_still kept j t r (Load x b y) q p = λ c. refl
  rings_still kept j t r (Store b y x) q p = absurd (cc)
  rings_still kept j t r (Fill b x) q p = absurd (cc)
  rings_still kept j t r (Print x) q p = λ c. refl
  rings_still kept j t r GetSqe q p = opens_still w.slot
  rings_still kept j t r (PrepRead fd b len off) q p = prepares_still _ w.slot
  rings_still kept j t r (PrepWrite fd b len off k) q p = prepares_still _ w.slot
  rings_still kept j t r (PrepFsync fd datasync) q p = prepares_still _ w.slot
  rings_still kept j t r PrepNop q p = prepares_still _ w.slot
  rings_still kept j t r PrepOther q p = prepares_still _ w.slot
  rings_still kept j t r (SetData64 u) q p = absurd (cc)
  rings_still kept j t r (Submit x) q p = submits_still r q
  rings_still kept j t r (SubmitAndWait x n) q p = submits_still r q
  rings_still kept j t r CqeGetData64 q p = gets_still w.completions
  rings_still kept j t r CqeSeen q p = absurd (cc)

  all_still : (kept : List Bool) (i : ℕ) (t : Standing) (r : ℤ) (s : Stmt) → stmt_moves w i s ≡ false → stmt_follows kept i s ≡ true → IfLeavesStill w (in_rings w t r s)
  all_still kept i t r (Do op) q p = rings_still kept i t r op q p
  all_still kept i t r (Put pool k) q p = λ c. refl
  all_still kept i t r (Lock wanted) q p = λ c. refl
  all_still kept i t r (EndLock o released) q p = λ c. refl
  all_still kept i t r (If test) q p = λ c. refl
  all_still kept i t r (Else o) q p = λ c. refl
  all_still kept i t r (EndIf o) q p = λ c. refl
  all_still kept i t r (Peek x) q p = λ c. refl
  all_still kept i t r (Case o u) q p = λ c. refl
  all_still kept i t r (Other o) q p = λ c. refl
  all_still kept i t r (Nothing o) q p = λ c. refl
  all_still kept i t r (EndArm o) q p = λ c. refl
  all_still kept i t r (EndPeek o) q p = λ c. refl
  all_still kept i t r (Loop k) q p = λ c. refl
  all_still kept i t r (EndLoop o k) q p = λ c. refl
  all_still kept i t r (Break o releases leaves) q p = λ c. refl

-- ---- the step

module _ (w : World) (i : ℕ) (t : Standing) (l : Line) (here : slice_get w.controls.threads i ≡ Some t) where
  ends : (rings : Option World) (m : Option Move) (e : Event) (next : World) → IfLeavesStill w rings → IfMild w.controls t m →
      with_controls rings (as_event w.program i l (made w.program w.controls i m)) ≡ Some (e, next) → still next ≡ still w
  ends None m e next h mild is = absurd (cc)
  ends (Some v) None e next h mild is = absurd (cc)
  ends (Some v) (Some m) e next h mild is =
      let after : Controls = moved w.program w.controls i m in
      let same : record v { controls = after } ≡ next = ap (λ (p : Event × World). p.1) (same_Some _ _ is) in
      ap still (sym same) ∙ h (still_controls after) ∙ ap (λ (c : Controls). still_with c w) (still_moved w.controls t w.program i m mild here)

  pub step_is : (r : ℤ) → next_at w.program i (Some t) ≡ Some l →
      thread_step w i r ≡ with_controls (in_rings w t r l.stmt) (as_event w.program i l (made w.program w.controls i (acts w.program w.controls i t l.stmt (stmt_answer w r l.stmt))))
  step_is r line =
      let a : Answer = stmt_answer w r l.stmt in
      let next : next_line w.program w.controls i ≡ Some l = ap (next_at w.program i) here ∙ line in
      ap (λ o. thread_step_at w i r o (next_line w.program w.controls i)) here
      ∙ ap (thread_step_at w i r (Some t)) next
      ∙ ap (λ o. with_controls (in_rings w t r l.stmt) (acts_on w.program w.controls i a o (next_line w.program w.controls i))) here
      ∙ ap (λ o. with_controls (in_rings w t r l.stmt) (acts_on w.program w.controls i a (Some t) o)) next

  step_still : (kept : List Bool) (r : ℤ) (e : Event) (next : World) → next_at w.program i (Some t) ≡ Some l → stmt_moves w i l.stmt ≡ false → stmt_follows kept i l.stmt ≡ true → thread_step w i r ≡ Some (e, next) → still next ≡ still w
  step_still kept r e next line q p is =
      ends _ _ e next (all_still w kept i t r l.stmt q p) (acts_mild kept w i t here l.stmt q p (stmt_answer w r l.stmt)) (sym (step_is r line) ∙ is)

-- The thread's step that moves nothing and can be compared leaves the same of the world.
pub still_after : (kept : List Bool) (w : World) (i : ℕ) (r : ℤ) (e : Event) (next : World) → line_moves w i (next_line w.program w.controls i) ≡ false → line_follows kept i (next_line w.program w.controls i) ≡ true →
    thread_step w i r ≡ Some (e, next) → still next ≡ still w
still_after kept w i r e next q p is = at_thread (slice_get w.controls.threads i) refl
  where
    at_line : (t : Standing) → slice_get w.controls.threads i ≡ Some t → (o : Option Line) → next_at w.program i (Some t) ≡ o → still next ≡ still w
    at_line t here None line =
        let none : next_line w.program w.controls i ≡ None = ap (next_at w.program i) here ∙ line in
        let no_step : thread_step w i r ≡ None = ap (λ o. thread_step_at w i r o (next_line w.program w.controls i)) here ∙ ap (thread_step_at w i r (Some t)) none in
        absurd (cc)
    at_line t here (Some l) line =
        let next_is : next_line w.program w.controls i ≡ Some l = ap (next_at w.program i) here ∙ line in
        step_still w i t l here kept r e next line (sym (ap (line_moves w i) next_is) ∙ q) (sym (ap (line_follows kept i) next_is) ∙ p) is

    at_thread : (o : Option Standing) → slice_get w.controls.threads i ≡ o → still next ≡ still w
    at_thread None here =
        let no_step : thread_step w i r ≡ None = ap (λ o. thread_step_at w i r o (next_line w.program w.controls i)) here in
        absurd (cc)
    at_thread (Some t) here = at_line t here (next_at w.program i (Some t)) refl
