-- Where the step of a thread leads: to a place where it may go, and from there to an event or to its end.
use Rattle.std.proofs.Common.{◌≡◌, ℕ, ◌+◌, ◌-◌, ◌<◌, Bool, true, false, if◌then◌else◌, List, [], ◌∷◌, length, Option, Some, None, unwrap_or, refl, sym, ap, ◌∙◌, subst, slice_get, get_or, cond, ℤ, pos, arith, eq-eqb, lt-ltb}
use Rattle.std.specs.List.{position_or_len}
use Rattle.std.specs.Prelude.{◌+ℤ◌, ◌-ℤ◌, int_le}
use Rattle.std.specs.Ordering.{int_eq}
use Rattle.std.proofs.lemmas.List.Quantifiers.{position-Some}
use Rattle.std.proofs.lemmas.List.Sums.{fails_before_first}
use Rattle.std.proofs.lemmas.Option.{get_or_from_slice_get, same_Some, slice_get-get_or, slice_get_within}
use Rattle.rc_lang.specs.Comparisons.{compares}
use Rattle.rc_lang.specs.declared.lines.Line.{Line}
use Rattle.rc_lang.specs.declared.lines.Locks.{Locks}
use Rattle.rc_lang.specs.declared.lines.Op.{Op}
use Rattle.rc_lang.specs.declared.lines.Op.TheVariants.{Set, Assign, Add, Subtract, Load, Store, Fill, Print, GetSqe, PrepRead, PrepWrite, PrepFsync, PrepNop, PrepOther, SetData64, Submit, SubmitAndWait, CqeGetData64, CqeSeen}
use Rattle.rc_lang.specs.declared.lines.Stmt.{Stmt}
use Rattle.rc_lang.specs.declared.lines.Stmt.TheVariants.{Do, Put, Lock, EndLock, If, Else, EndIf, Peek, Case, Other, Nothing, EndArm, Loop, EndLoop, Break}
use Rattle.rc_lang.specs.declared.lines.Test.{Test}
use Rattle.rc_lang.specs.declared.lines.Test.TheVariants.{Compare, ReadyZero, SpaceAtLeast, Take, Any}
use Rattle.rc_lang.specs.Program.{Items, Program, end_at, ends_in, lines_of, rows_of, stmt_at, stmt_of}
use Rattle.rc_lang.specs.Kept.{IsProgram}
use Rattle.rc_lang.specs.Resolved.{HasArms}
use Rattle.rc_lang.specs.Rows.{read_op, read_stmt}
use Rattle.rc_lang.proofs.Jumps.{IsLaid, IsOpen, back_open, break_open, false_open, leads_open, open_behind}
use Rattle.rc_lang.proofs.Lookups.{line_with}
use Rattle.rc_lang.proofs.Rests.{IsRest, or_on, passed_to, same_settled, settled as settles_at, settles, start_rests}
use Rattle.rc_lang.proofs.Spans.{nothing_between, other_between}
use Rattle.rc_split.specs.Pools.{Pools, all_pooled, includes, overfills, pool_of, put_into, taken_from}
use Rattle.rc_world.specs.declared.controls.Answer.{Answer}
use Rattle.rc_world.specs.declared.controls.Answer.TheVariants.{Plain, Number, Byte, Front}
use Rattle.rc_world.specs.declared.event.Action.TheVariants.{VariableSet, Stored, Filled, Printed, EntryOpened, ReadPrepared, WritePrepared, FsyncPrepared, NopPrepared, OtherPrepared, DataSet, Looped, ItemsPut}
use Rattle.rc_world.specs.Controls.{Controls, Move, Standing, acts, are_free, arm_for, arms_of, assigns, branches, breaks, decides, does, first_place, gets_data, goes_on, hop_of, is_case, is_choice, is_none_arm, is_other, list_at, loads, locks, low_byte, none_arm, operand_value, or_from, peeks, plainly, puts_items, reaps, releases_locks, rest_at, returns_to, sets_variable, settled, submits, takes_locks, tries_to_take, variable, wrapped}
use Rattle.rc_world.proofs.Laid.{laid}
use Rattle.rc_world.proofs.LawLists.{get_in_range, range_has}

-- ---- the first line that passes a test

-- A line that passes the test is at this place.
pub record Passes (test : Stmt → Bool) (lines : List Line) (k : ℕ) : Type 0 where
  pub line : Line
  pub stands : slice_get lines k ≡ Some line
  pub passes : test line.stmt ≡ true

pub place_passes : (test : Stmt → Bool) (lines : List Line) (k : ℕ) → first_place test lines ≡ Some k → Passes test lines k
place_passes test [] k e = absurd (cc)
place_passes test (l ∷ lines) k e =
    let h = position-Some (λ (m : Line). test m.stmt) (l ∷ lines) k l e in
    record { line = get_or (l ∷ lines) k l; stands = slice_get-get_or (l ∷ lines) k l h.0; passes = h.1 }

place_there : (test : Stmt → Bool) (lines : List Line) (k : ℕ) (l : Line) → slice_get lines k ≡ Some l → test l.stmt ≡ true → (p : ℕ) × (first_place test lines ≡ Some p)
place_there test lines k l e t = (position_or_len by_line lines, ap (λ b. cond b (Some (position_or_len by_line lines)) None) (lt-ltb (position_or_len by_line lines) (length lines) within))
  where
    by_line : Line → Bool
    by_line m = test m.stmt

    no_first : (p n : ℕ) → k < n → (k < p → ⊥) → p < n
    no_first p n lt h = omega arith

    within : position_or_len by_line lines < length lines
    within =
        let b : test (get_or lines k l).stmt ≡ true = ap (λ (m : Line). test m.stmt) (get_or_from_slice_get lines k l l e) ∙ t in
        no_first (position_or_len by_line lines) (length lines) (slice_get_within lines k l e) (λ lt. let f = fails_before_first by_line lines k l lt in absurd (cc))

-- after the line of an arm a thread may go on
case_leads : (o u : ℕ) (s : Stmt) → is_case o u s ≡ true → leads_open s ≡ true
case_leads o u (Case p v) e = refl
case_leads o u _ e = absurd (cc)

other_leads : (o : ℕ) (s : Stmt) → is_other o s ≡ true → leads_open s ≡ true
other_leads o (Other p) e = refl
other_leads o _ e = absurd (cc)

none_leads : (o : ℕ) (s : Stmt) → is_none_arm o s ≡ true → leads_open s ≡ true
none_leads o (Nothing p) e = refl
none_leads o _ e = absurd (cc)

module _ (program : Program) (is : IsProgram program) (i : ℕ) where
  lines_laid : IsLaid (lines_of program i) (ends_in (slice_get program.threads i))
  lines_laid = let l = laid program is i in record { each = l.each; linked = l.linked }

  -- ---- where a thread comes to rest

  hop_same : (j : ℕ) (s : Option Stmt) → hop_of program i j s ≡ passed_to (ends_in (slice_get program.threads i)) j s
  hop_same j None = refl
  hop_same j (Some (Else o)) = refl
  hop_same j (Some (EndIf o)) = refl
  hop_same j (Some (EndArm o)) = refl
  hop_same j (Some _) = refl

  on_same : (f : ℕ → ℕ) (j : ℕ) (o : Option ℕ) → or_from j f o ≡ or_on f j o
  on_same f j None = refl
  on_same f j (Some k) = refl

  rest_is : (j : ℕ) → rest_at program i j ≡ settles_at (lines_of program i) (ends_in (slice_get program.threads i)) (length (lines_of program i)) j
  rest_is j = same_settled (lines_of program i) (ends_in (slice_get program.threads i)) (λ n k. settled program i n k) (λ k. refl)
      (λ n k. on_same (λ m. settled program i n m) k (hop_of program i k (stmt_at (lines_of program i) k)) ∙ ap (or_on (λ m. settled program i n m) k) (hop_same k (stmt_at (lines_of program i) k)))
      (length (lines_of program i)) j

  pub rests_from : (j : ℕ) → IsOpen (lines_of program i) j → IsRest (lines_of program i) (rest_at program i j)
  rests_from j o = subst (λ k. IsRest (lines_of program i) k) (sym (rest_is j)) (settles (lines_of program i) _ lines_laid (length (lines_of program i)) j o (omega arith))

  pub rests_at_start : IsRest (lines_of program i) 0
  rests_at_start = start_rests (lines_of program i) _ lines_laid

  -- ---- the arms of a peek

  module _ (o x : ℕ) (here : stmt_at (lines_of program i) o ≡ Some (Peek x)) where
    pub arms : HasArms (lines_of program i) (ends_in (slice_get program.threads i)) o
    arms = lines_laid.linked o (Peek x) here

    in_arm : (test : Stmt → Bool) → ((s : Stmt) → test s ≡ true → leads_open s ≡ true) → (k : ℕ) → first_place test (arms_of program i o) ≡ Some k → IsOpen (lines_of program i) (o + k + 1)
    in_arm test leads k e =
        let p = place_passes test (arms_of program i o) k e in
        open_behind (lines_of program i) lines_laid.each (o + k) p.line.stmt (ap stmt_of (get_in_range (lines_of program i) o (end_at program i o) k p.line p.stands)) (leads p.line.stmt p.passes)

    -- an arm that is between the peek and its end is found
    pub arm_found : (test : Stmt → Bool) (s : Stmt) (p : ℕ) → stmt_at (lines_of program i) p ≡ Some s → test s ≡ true → (o < p) × (p < end_at program i o) → (k : ℕ) × (first_place test (arms_of program i o) ≡ Some k)
    arm_found test s p e t b =
        let l = line_with (lines_of program i) p s e in
        let lt : o < p = b.0 in
        place_there test (arms_of program i o) (p - o) l.0 (range_has (lines_of program i) o (end_at program i o) p l.0 (omega arith) b.1 l.1) (ap test l.2 ∙ t)

    open_none_arm : IsOpen (lines_of program i) (none_arm program i o + 1)
    open_none_arm =
        let p = arm_found (is_none_arm o) (Nothing o) arms.none.place arms.none.stands (eq-eqb o o refl) (nothing_between (lines_of program i) _ lines_laid o arms.none.place arms.none.stands) in
        subst (λ k. IsOpen (lines_of program i) (o + k + 1)) (sym (ap (λ k. unwrap_or k 0) p.1)) (in_arm (is_none_arm o) (none_leads o) p.0 p.1)

    open_arm_for : (u : ℕ) → IsOpen (lines_of program i) (arm_for program i o u + 1)
    open_arm_for u = go (first_place (is_case o u) (arms_of program i o)) refl
      where
        go : (k : Option ℕ) → first_place (is_case o u) (arms_of program i o) ≡ k → IsOpen (lines_of program i) (o + unwrap_or (first_place (is_case o u) (arms_of program i o)) (unwrap_or (first_place (is_other o) (arms_of program i o)) 0) + 1)
        go (Some k) g = subst (λ n. IsOpen (lines_of program i) (o + n + 1)) (sym (ap (λ n. unwrap_or n (unwrap_or (first_place (is_other o) (arms_of program i o)) 0)) g)) (in_arm (is_case o u) (case_leads o u) k g)
        go None g =
            let p = arm_found (is_other o) (Other o) arms.other.place arms.other.stands (eq-eqb o o refl) (other_between (lines_of program i) _ lines_laid o arms.other.place arms.other.stands) in
            let q = ap (λ n. unwrap_or n (unwrap_or (first_place (is_other o) (arms_of program i o)) 0)) g ∙ ap (λ n. unwrap_or n 0) p.1 in
            subst (λ n. IsOpen (lines_of program i) (o + n + 1)) (sym q) (in_arm (is_other o) (other_leads o) p.0 p.1)

  -- ---- where a statement leads

  module _ (c : Controls) (t : Standing) (a : Answer) (m : Move) where
    same_place : (n : Move) → Some n ≡ Some m → m.place ≡ n.place
    same_place n e = ap (λ (k : Move). k.place) (sym (same_Some n m e))

    plain_place : (n : Move) (b : Answer) → plainly n b ≡ Some m → m.place ≡ n.place
    plain_place n Plain e = same_place n e
    plain_place n _ e = absurd (cc)

    load_place : (x : ℕ) (b : Answer) → loads c t x b ≡ Some m → m.place ≡ t.place + 1
    load_place x (Byte v) e = same_place _ e
    load_place x _ e = absurd (cc)

    submit_place : (x : ℕ) (b : Answer) → submits c t x b ≡ Some m → m.place ≡ t.place + 1
    submit_place x (Number v) e = same_place _ e
    submit_place x _ e = absurd (cc)

    get_place : (b : Answer) → gets_data c t b ≡ Some m → m.place ≡ t.place + 1
    get_place (Front v) e = same_place _ e
    get_place _ e = absurd (cc)

    reap_place : (b : Answer) → reaps c t b ≡ Some m → m.place ≡ t.place + 1
    reap_place (Front v) e = same_place _ e
    reap_place _ e = absurd (cc)

    assign_place : (x : ℕ) (v : ℤ) → assigns c t x v a ≡ Some m → m.place ≡ t.place + 1
    assign_place x v e = plain_place (sets_variable c t x v (VariableSet v)) a e

    pub op_place : (op : Op) → does c t op a ≡ Some m → m.place ≡ t.place + 1
    op_place (Set x n) e = assign_place x n e
    op_place (Assign x y) e = assign_place x (variable t y) e
    op_place (Add x y z) e = assign_place x (wrapped (operand_value t y +ℤ operand_value t z)) e
    op_place (Subtract x y z) e = assign_place x (wrapped (operand_value t y -ℤ operand_value t z)) e
    op_place (Load x b k) e = load_place x a e
    op_place (Store b k x) e = plain_place (goes_on c t (Stored (low_byte (variable t x)))) a e
    op_place (Fill b x) e = plain_place (goes_on c t (Filled (low_byte (variable t x)))) a e
    op_place (Print x) e = plain_place (goes_on c t (Printed (variable t x))) a e
    op_place GetSqe e = plain_place (goes_on c t EntryOpened) a e
    op_place (PrepRead fd b len off) e = plain_place (goes_on c t ReadPrepared) a e
    op_place (PrepWrite fd b len off k) e = plain_place (goes_on c t WritePrepared) a e
    op_place (PrepFsync fd datasync) e = plain_place (goes_on c t FsyncPrepared) a e
    op_place PrepNop e = plain_place (goes_on c t NopPrepared) a e
    op_place PrepOther e = plain_place (goes_on c t OtherPrepared) a e
    op_place (SetData64 u) e = plain_place (goes_on c t (DataSet u)) a e
    op_place (Submit x) e = submit_place x a e
    op_place (SubmitAndWait x n) e = submit_place x a e
    op_place CqeGetData64 e = get_place a e
    op_place CqeSeen e = reap_place a e

    goes_to : (j : ℕ) → m.place ≡ j → IsOpen (lines_of program i) j → IsOpen (lines_of program i) m.place
    goes_to j e o = subst (λ k. IsOpen (lines_of program i) k) (sym e) o

    behind : (s : Stmt) → stmt_at (lines_of program i) t.place ≡ Some s → leads_open s ≡ true → m.place ≡ t.place + 1 → IsOpen (lines_of program i) m.place
    behind s h g e = goes_to (t.place + 1) e (open_behind (lines_of program i) lines_laid.each t.place s h g)

    module _ (test : Test) (here : stmt_at (lines_of program i) t.place ≡ Some (If test)) where
      branch_open : (holds : Bool) → m.place ≡ (branches program c i t holds).place → IsOpen (lines_of program i) m.place
      branch_open true e = behind (If test) here refl e
      branch_open false e = goes_to (end_at program i t.place + 1) e (false_open (lines_of program i) _ lines_laid t.place test here)

      take_open : (pools : Pools) (holds : Bool) → m.place ≡ (if holds then record (branches program c i t true) { pools = pools } else branches program c i t false).place → IsOpen (lines_of program i) m.place
      take_open pool true e = branch_open true e
      take_open pool false e = branch_open false e

      choice_open : (may holds : Bool) → (if may then Some (branches program c i t holds) else None) ≡ Some m → IsOpen (lines_of program i) m.place
      choice_open true holds e = branch_open holds (same_place _ e)
      choice_open false holds e = absurd (cc)

      decide_open : (x : Test) (b : Answer) → decides program c i t x b ≡ Some m → IsOpen (lines_of program i) m.place
      decide_open (Compare x comparison n) b e = branch_open (compares comparison (variable t x) n) (plain_place (branches program c i t (compares comparison (variable t x) n)) b e)
      decide_open ReadyZero (Number n) e = branch_open (int_eq n (pos 0)) (same_place _ e)
      decide_open ReadyZero _ e = absurd (cc)
      decide_open (SpaceAtLeast k) (Number n) e = branch_open (int_le (pos k) n) (same_place _ e)
      decide_open (SpaceAtLeast k) _ e = absurd (cc)
      decide_open (Take pool k) b e =
          let items = list_at program i t k in
          take_open (taken_from program pool items c.pools) (includes program (pool_of c.pools pool) items) (plain_place (tries_to_take program c i t pool items) b e)
      decide_open Any (Number n) e = choice_open (is_choice n) (int_eq n (pos 1)) e
      decide_open Any _ e = absurd (cc)

    peek_open : (x : ℕ) → stmt_at (lines_of program i) t.place ≡ Some (Peek x) → (b : Answer) → peeks program c i t x b ≡ Some m → IsOpen (lines_of program i) m.place
    peek_open x h Plain e = goes_to (none_arm program i t.place + 1) (same_place _ e) (open_none_arm t.place x h)
    peek_open x h (Front cqe) e = goes_to (arm_for program i t.place cqe.user_data + 1) (same_place _ e) (open_arm_for t.place x h cqe.user_data)
    peek_open x h (Number n) e = absurd (cc)
    peek_open x h (Byte n) e = absurd (cc)

    free_place : (free : Bool) (n : Move) → (if free then plainly n a else None) ≡ Some m → m.place ≡ n.place
    free_place true n e = plain_place n a e
    free_place false n e = absurd (cc)

    lock_place : (wanted : Locks) → locks c i t wanted a ≡ Some m → m.place ≡ t.place + 1
    lock_place wanted e = free_place (are_free wanted c.holders) (takes_locks c i t wanted) e

    room_place : (full : Bool) (n : Move) → (if full then None else plainly n a) ≡ Some m → m.place ≡ n.place
    room_place true n e = absurd (cc)
    room_place false n e = plain_place n a e

    pub put_place : (pool : Option ℕ) (items : Items) → puts_items program c t pool items a ≡ Some m → m.place ≡ t.place + 1
    put_place pool items e = room_place (overfills program (all_pooled program c.pools) items) (record (goes_on c t ItemsPut) { pools = put_into program pool items c.pools }) e

    -- What a statement does leads to a place where the thread may go.
    pub acts_open : (s : Stmt) → stmt_at (lines_of program i) t.place ≡ Some s → acts program c i t (read_stmt program (rows_of program i) t.variables s) a ≡ Some m → IsOpen (lines_of program i) m.place
    acts_open (Do op) h e = behind (Do op) h refl (op_place (read_op program (rows_of program i) t.variables op) e)
    acts_open (Put pool k) h e = behind (Put pool k) h refl (put_place pool (list_at program i t k) e)
    acts_open (Lock wanted) h e = behind (Lock wanted) h refl (lock_place wanted e)
    acts_open (EndLock o released) h e = behind (EndLock o released) h refl (plain_place (releases_locks c t released) a e)
    acts_open (If test) h e = decide_open test h test a e
    acts_open (Peek x) h e = peek_open x h a e
    acts_open (Loop k) h e = behind (Loop k) h refl (plain_place (goes_on c t Looped) a e)
    acts_open (EndLoop o k) h e = goes_to (o + 1) (plain_place (returns_to c t o) a e) (back_open (lines_of program i) _ lines_laid t.place o k h)
    acts_open (Break o releases leaves) h e = goes_to (end_at program i o + 1) (plain_place (breaks program c i t o releases leaves) a e) (break_open (lines_of program i) _ lines_laid t.place o releases leaves h)
    acts_open _ h e = absurd (cc)
