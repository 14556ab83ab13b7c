-- What a turn of a thread asks of the world, and what it makes of a run.
use Rattle.std.proofs.Common.{◌≡◌, ◌≢◌, ℕ, ℤ, pos, negsuc, ◌≤ℤ◌, zero, suc, ◌≤◌, inl, inr, Bool, true, false, if◌then◌else◌, List, [], ◌∷◌, ◌++◌, length, min, nat_eq, Option, Some, None, slice_get, refl, sym, ap, subst, ◌∙◌, arith, eq-eqb}
use Rattle.std.proofs.lemmas.Bool.{le-leb, lt-ltb}
use Rattle.std.proofs.lemmas.Int.{ints}
use Rattle.std.proofs.lemmas.Option.{same_Some, slice_get_past}
use Rattle.std.specs.Ordering.{int_eq}
use Rattle.rc_lang.specs.declared.lines.Line.{Line}
use Rattle.rc_lang.specs.declared.lines.Op.TheVariants.{SetData64, Submit, SubmitAndWait}
use Rattle.rc_lang.specs.declared.lines.Stmt.{Stmt}
use Rattle.rc_lang.specs.declared.lines.Stmt.TheVariants.{Do, If, Lock, Else, EndIf, Case, Other, Nothing, EndArm, EndPeek}
use Rattle.rc_lang.specs.declared.lines.Test.TheVariants.{Any}
use Rattle.rc_lang.specs.declared.request.Request.{Request}
use Rattle.rc_lang.specs.Program.{Program, lines_of}
use Rattle.rc_world.specs.declared.controls.Holders.{Holders}
use Rattle.rc_world.specs.declared.controls.Next.TheVariants.{Ready, TakenLock}
use Rattle.rc_world.specs.declared.event.Event.{Event}
use Rattle.rc_world.specs.Controls.{are_free, is_choice, next_at, next_line}
use Rattle.rc_world.specs.Faults.{count_of, fault_of}
use Rattle.rc_world.specs.Items.{next_by, next_of, ready_or_taken}
use Rattle.rc_world.specs.Laws.{GoesOn}
use Rattle.rc_world.specs.Machine.{World, is_take, may_be_given, start_world, thread_step}
use Rattle.rc_world.specs.Runs.{IsRun, IsStep}
use Rattle.rc_run.specs.Calm.{IsCalm}
use Rattle.rc_run.specs.Held.{AreDistinct}
use Rattle.rc_run.specs.Machine.{IsClosedAt, IsFreshAt, given_by_take, submit_answer}
use Rattle.rc_run.specs.Requests.{data_of}
use Rattle.rc_world.proofs.LawFaultless.{standing_within}
use Rattle.rc_world.proofs.LawSteps.{past_lines}

-- ---- the next line

same_ready : (x l : Line) → Ready x ≡ Ready l → x ≡ l
same_ready x l e = cc

ready_same : (h : Holders) (x l : Line) (s : Stmt) → ready_or_taken h x s ≡ Ready l → x ≡ l
ready_same h x l (Lock wanted) e = taken_or (are_free wanted h) e
  where
    taken_or : (free : Bool) → (if free then Ready x else TakenLock wanted) ≡ Ready l → x ≡ l
    taken_or true q = same_ready x l q
    taken_or false q = absurd (cc)
ready_same h x l (Else o) e = absurd (cc)
ready_same h x l (EndIf o) e = absurd (cc)
ready_same h x l (Case o u) e = absurd (cc)
ready_same h x l (Other o) e = absurd (cc)
ready_same h x l (Nothing o) e = absurd (cc)
ready_same h x l (EndArm o) e = absurd (cc)
ready_same h x l (EndPeek o) e = absurd (cc)
ready_same h x l _ e = same_ready x l e

ready_by : (h : Holders) (o : Option Line) (l : Line) → next_by h o ≡ Ready l → o ≡ Some l
ready_by h None l e = absurd (cc)
ready_by h (Some x) l e = ap Some (ready_same h x l x.stmt e)

pub ready_line : (w : World) (i : ℕ) (l : Line) → next_of w.program w.controls i ≡ Ready l → next_line w.program w.controls i ≡ Some l
ready_line w i l e = ready_by w.controls.holders (next_line w.program w.controls i) l e

-- a thread that is ready has a step, whatever it may be given
pub has_step : (w : World) → IsCalm w → (i : ℕ) (l : Line) → next_of w.program w.controls i ≡ Ready l
    → (r : ℤ) → may_be_given w r l.stmt ≡ true → (s : Event × World) × (thread_step w i r ≡ Some s)
has_step w c i l e = go (c.goes_on i (standing_within w i l next))
  where
    next : next_line w.program w.controls i ≡ Some l
    next = ready_line w i l e

    go : GoesOn w i → (r : ℤ) → may_be_given w r l.stmt ≡ true → (s : Event × World) × (thread_step w i r ≡ Some s)
    go (inl z) r given =
        let none : next_line w.program w.controls i ≡ None =
        ap (next_at w.program i) z.1 ∙ past_lines w.program i z.0 (let q : z.0.place ≡ length (lines_of w.program i) = z.2 in omega arith) in
        absurd (cc)
    go (inr (inl z)) r given =
        let taken : next_of w.program w.controls i ≡ TakenLock z.1 =
        ap (next_by w.controls.holders) z.2 ∙ ap (ready_or_taken w.controls.holders z.0) z.3 ∙ ap (λ free. if free then Ready z.0 else TakenLock z.1) z.4 in
        absurd (cc)
    go (inr (inr step)) r given = step.2 r (subst (λ (x : Line). may_be_given w r x.stmt ≡ true) (same_Some l step.0 (sym next ∙ step.1)) given)

-- ---- what a step is given

take_allowed : (w : World) (t : ℤ) → negsuc 4094 ≤ℤ t → is_take w (submit_answer w t) ≡ true
take_allowed w (pos n) h = le-leb (min n (length w.queued)) (length w.queued) (omega arith)
take_allowed w (negsuc n) h = lt-ltb n 4095 (omega (arith, ints, h))

pub given_allowed : (w : World) (t : ℤ) (s : Stmt) → negsuc 4094 ≤ℤ t → may_be_given w (given_by_take w t s) s ≡ true
given_allowed w t (Do (Submit x)) h = take_allowed w t h
given_allowed w t (Do (SubmitAndWait x n)) h = take_allowed w t h
given_allowed w t (Do _) h = refl
given_allowed w t (If Any) h = either (int_eq t (pos 0))
  where
    either : (b : Bool) → is_choice (if b then pos 0 else pos 1) ≡ true
    either true = refl
    either false = refl
given_allowed w t (If _) h = refl
given_allowed w t _ h = refl

pub closed_at : (w : World) → IsCalm w → (i : ℕ) (l : Line) → next_line w.program w.controls i ≡ Some l → IsClosedAt w.slot l.stmt
closed_at w c i l next = go l.stmt refl
  where
    go : (s : Stmt) → l.stmt ≡ s → IsClosedAt w.slot s
    go (Do (Submit x)) is = c.entry_suits i (Do (Submit x)) ((c.under_lock i (Do (Submit x)) (l, next, is)).0 tt) (l, next, is)
    go (Do (SubmitAndWait x n)) is = c.entry_suits i (Do (SubmitAndWait x n)) ((c.under_lock i (Do (SubmitAndWait x n)) (l, next, is)).0 tt) (l, next, is)
    go _ is = tt

-- ---- user data

distinct_push : (xs : List ℕ) (u : ℕ) → AreDistinct xs → ((k : ℕ) → slice_get xs k ≢ Some u) → AreDistinct (xs ++ u ∷ [])
distinct_push [] u d h = ((λ k e. absurd (cc)), tt)
distinct_push (x ∷ xs) u d h = (λ k e. at k xs d.0 e, distinct_push xs u d.1 (λ k e. h (suc k) e))
  where
    at : (k : ℕ) (ys : List ℕ) → ((j : ℕ) → slice_get ys j ≢ Some x) → slice_get (ys ++ u ∷ []) k ≡ Some x → ⊥
    at zero [] none e = h 0 (ap Some (sym (same_Some _ _ e)))
    at (suc k) [] none e = absurd (cc)
    at zero (y ∷ ys) none e = none 0 e
    at (suc k) (y ∷ ys) none e = at k ys (λ j q. none (suc j) q) e

-- what counts one
one_if : (m n : ℕ) → m ≡ n → ◌≡◌ {A = ℕ} (if nat_eq m n then 1 else 0) 1
one_if m n e = ap (λ b. if b then 1 else 0) (eq-eqb m n e)

counted_at : (u : ℕ) (rs : List Request) (k : ℕ) → slice_get (data_of rs) k ≡ Some u → 1 ≤ count_of u rs
counted_at u [] k e = absurd (cc)
counted_at u (r ∷ rs) zero e =
    let one = one_if r.user_data u (same_Some _ _ e) in
    omega (arith, one)
counted_at u (r ∷ rs) (suc k) e = let h = counted_at u rs k e in omega arith

distinct_of : (rs : List Request) → ((u : ℕ) → count_of u rs ≤ 1) → AreDistinct (data_of rs)
distinct_of [] h = tt
distinct_of (r ∷ rs) h = (
  (λ k e.
      let more = counted_at r.user_data rs k e in
      let all = h r.user_data in
      let one = one_if r.user_data r.user_data refl in
      omega (arith, one, all, more)),
  distinct_of rs (λ u. let all = h u in omega arith),
)

get_data : (rs : List Request) (k u : ℕ) → slice_get (data_of rs) k ≡ Some u → (r : Request) × (slice_get rs k ≡ Some r) × (r.user_data ≡ u)
get_data [] k u e = absurd (cc)
get_data (r ∷ rs) zero u e = (r, refl, same_Some _ _ e)
get_data (r ∷ rs) (suc k) u e = get_data rs k u e

pub fresh_at : (w : World) → IsCalm w → (i : ℕ) (l : Line) → next_line w.program w.controls i ≡ Some l → IsFreshAt w l.stmt
fresh_at w c i l next = go l.stmt refl
  where
    distinct : AreDistinct (data_of w.queued)
    distinct = distinct_of w.queued (λ u. let h = c.data_is_one u in omega arith)

    go : (s : Stmt) → l.stmt ≡ s → IsFreshAt w s
    go (Do (SetData64 u)) is = distinct_push (data_of w.queued) u distinct (λ k e.
        let r = get_data w.queued k u e in c.data_is_fresh i u k r.0 (l, next, is) (inl r.1) r.2)
    go _ is = distinct

-- ---- runs that go on

pub goes_one_on : (w u v : World) (events : List Event) (e : Event) → IsRun w events u → IsStep u e v → IsRun w (events ++ e ∷ []) v
goes_one_on w u v [] e r s = (v, subst (λ x. IsStep x e v) (sym r) s, refl)
goes_one_on w u v (x ∷ xs) e r s = (r.0, r.1, goes_one_on r.0 u v xs e r.2 s)

pub turned_leads : (P Q : Program) (w v : World) (old new : List Event) (i : ℕ) (r : ℤ) (e : Event) → IsRun (start_world P) old w → fault_of w ≡ None → thread_step w i r ≡ Some (e, v) → Q ≡ P → new ≡ old ++ e ∷ []
    → IsRun (start_world Q) new v
turned_leads P Q w v old new i r e run none step same more =
    subst (λ p. IsRun (start_world p) new v) (sym same)
    (subst (λ es. IsRun (start_world P) es v) (sym more) (goes_one_on (start_world P) w v old e run (record { no_fault = none; step = inl (i, r, step) })))
