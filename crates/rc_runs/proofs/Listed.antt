-- What is listed is what is enabled.
use Rattle.std.proofs.Common.{◌≡◌, ℕ, zero, suc, ◌+◌, ◌<◌, ◌≤◌, ◌⊎◌, inl, inr, ◌++◌, length, get_or, List, append_assoc, Bool, true, false, cond, ◌&&◌, ◌||◌, eqb, leb, Option, Some, None, ℤ, pos, negsuc, refl, sym, ap, subst, ◌∙◌, arith}
use Rattle.std.proofs.lemmas.Bool.{eq-eqb, eqb-true, ne_eqb}
use Rattle.std.proofs.lemmas.Bool.Decides.{Decides-int_eq, eqb_tells, leb_tells}
use Rattle.std.proofs.lemmas.List.Folds.{list_any-append}
use Rattle.std.proofs.lemmas.List.Quantifiers.{position-Some}
use Rattle.std.proofs.lemmas.Option.{slice_get-get_or, slice_get_cases}
use Rattle.std.specs.Ordering.{int_eq}
use Rattle.std.specs.Prelude.{option_to_list, slice_get}
use Rattle.std.specs.Bool.{Decides}
use Rattle.rc_lang.specs.declared.lines.Line.{Line}
use Rattle.rc_lang.specs.declared.lines.Op.{Op}
use Rattle.rc_lang.specs.declared.lines.Op.TheVariants as op
use Rattle.rc_lang.specs.declared.lines.Stmt.{Stmt}
use Rattle.rc_lang.specs.declared.lines.Stmt.TheVariants as stmt
use Rattle.rc_lang.specs.declared.lines.Test.{Test}
use Rattle.rc_lang.specs.declared.lines.Test.TheVariants as test
use Rattle.rc_lang.specs.Program.{Program, Thread as ThreadOf, lines_in, lines_of}
use Rattle.rc_lang.specs.Requests.{largest}
use Rattle.rc_world.specs.declared.controls.Next.{Next}
use Rattle.rc_world.specs.declared.controls.Next.TheVariants.{Ready, TakenLock, Ended}
use Rattle.rc_world.specs.declared.event.Item.{Item}
use Rattle.rc_world.specs.declared.event.Item.TheVariants.{Thread, Kernel}
use Rattle.rc_world.specs.declared.controls.Holders.{Holders}
use Rattle.rc_world.specs.Controls.{Standing, is_choice, next_at}
use Rattle.rc_world.specs.Faults.{has_data}
use Rattle.rc_world.specs.Items.{is_enabled, is_ready, kernel_may, next_by, next_of, pending_at, pending_place, takes}
use Rattle.rc_world.specs.Machine.{Pending, World, count_in, prepared_nop}
use Rattle.rc_runs.specs.declared.choices.Choice.{Choice}
use Rattle.rc_runs.specs.declared.choices.Choice.TheVariants.{Complete}
use Rattle.rc_runs.specs.Choices.{choice_by, choice_up_to, choices_below, choices_in, completion_choice, is_listed, is_place, most_answer, pending_choice, stands_for, thread_choice}
use Rattle.rc_runs.specs.Laws.{AreEnabled, HasPlainAnswer, IsCountIfAny, ListedIsEnabled}
use Rattle.rc_world.proofs.LawSteps.{past_lines}

-- ---- one place more

pub one_more : (n : ℕ) (f : ℕ → Option Choice) (o : Option Choice) (old before after : List Choice) → before ≡ old ++ choices_below n f → o ≡ f n → after ≡ before ++ option_to_list o → after ≡ old ++ choices_below (n + 1) f
one_more n f o old before after h e a =
    let next : suc n ≡ n + 1 = omega arith in
    a
    ∙ ap (λ xs. xs ++ option_to_list o) h
    ∙ ap (λ p. (old ++ choices_below n f) ++ option_to_list p) e
    ∙ append_assoc old (choices_below n f) (option_to_list (f n))
    ∙ ap (λ k. old ++ choices_below k f) next

-- ---- one of several

abbrev any_stands_for : Option Choice → Item → Bool
any_stands_for None item = false
any_stands_for (Some choice) item = stands_for choice item

-- one of f at 0 to n - 1 holds
abbrev any_below : ℕ → (ℕ → Bool) → Bool
any_below zero f = false
any_below (suc n) f = any_below n f || f n

none_below : (n : ℕ) (f : ℕ → Bool) → ((k : ℕ) → k < n → f k ≡ false) → any_below n f ≡ false
none_below zero f h = refl
none_below (suc n) f h = rw (none_below n f (λ k lt. h k (omega (arith, lt))), h n (omega arith)) refl

or_false : (b : Bool) → (b || false) ≡ b
or_false true = refl
or_false false = refl

-- where no other holds, it is this one
one_by : (n i : ℕ) (f : ℕ → Bool) → i < suc n → ((k : ℕ) → (k ≡ i → ⊥) → f k ≡ false) → (i < n → any_below n f ≡ f i) → ((eqb i n ≡ true) × (i ≡ n)) ⊎ ((eqb i n ≡ false) × (i ≡ n → ⊥)) → any_below (suc n) f ≡ f i
one_by n i f lt h more (inl e) = rw (none_below n f (λ k below. h k (λ same. omega (arith, below, same, e.1)))) (ap f (sym e.1))
one_by n i f lt h more (inr e) = rw (h n (λ same. e.1 (sym same)), more (omega (arith, lt, e.1))) (or_false (f i))

one_below : (n i : ℕ) (f : ℕ → Bool) → i < n → ((k : ℕ) → (k ≡ i → ⊥) → f k ≡ false) → any_below n f ≡ f i
one_below zero i f lt h = absurd (omega (arith, lt))
one_below (suc n) i f lt h = one_by n i f lt h (λ below. one_below n i f below h) (eqb_tells i n)

-- a choice that is listed, if there is one
any_of : (o : Option Choice) (item : Item) → is_listed (option_to_list o) item ≡ any_stands_for o item
any_of None item = refl
any_of (Some choice) item = or_false (stands_for choice item)

any_of_below : (n : ℕ) (f : ℕ → Option Choice) (item : Item) → is_listed (choices_below n f) item ≡ any_below n (λ k. any_stands_for (f k) item)
any_of_below zero f item = refl
any_of_below (suc n) f item =
    list_any-append (λ choice. stands_for choice item) (choices_below n f) (option_to_list (f n)) ∙ rw (any_of_below n f item, any_of (f n) item) refl

-- of the threads or of the pending requests
abbrev any_in : World → Item → Bool
any_in w item =
    any_below (length w.program.threads) (λ i. any_stands_for (thread_choice w i) item) || any_below (length w.pending) (λ k. any_stands_for (pending_choice w k) item)

listed_in : (w : World) (item : Item) → is_listed (choices_in w) item ≡ any_in w item
listed_in w item =
    let threads = choices_below (length w.program.threads) (thread_choice w) in
    let requests = choices_below (length w.pending) (pending_choice w) in
    list_any-append (λ choice. stands_for choice item) threads requests
    ∙ rw (any_of_below (length w.program.threads) (thread_choice w) item, any_of_below (length w.pending) (pending_choice w) item) refl

and_true : (b : Bool) → (b && true) ≡ b
and_true true = refl
and_true false = refl

-- an answer that isn't above the largest, where there is one
abbrev is_up_to : ℕ → Option ℕ → Bool
is_up_to n None = false
is_up_to n (Some most) = leb n most

or_left : (x y z : Bool) → y ≡ x → z ≡ false → x ≡ (y || z)
or_left x y z e f = rw (e, f) (sym (or_false x))

or_right : (x y z : Bool) → z ≡ x → y ≡ false → x ≡ (y || z)
or_right x y z e f = rw (e, f) refl

-- ---- threads

not_so : {P : Type 0} (r : Bool) → Decides r P → (P → ⊥) → r ≡ false
not_so true d h = absurd (h (d.0 refl))
not_so false d h = refl

above_one : (n : ℕ) → (n ≡ 0 → ⊥) → (n ≡ 1 → ⊥) → ((leb n 1 ≡ true) × (n ≤ 1)) ⊎ ((leb n 1 ≡ false) × (1 < n)) → is_choice (pos n) ≡ leb n 1
above_one n differs other (inl t) = absurd (omega (arith, differs, other, t.1))
above_one n differs other (inr f) =
    rw (not_so (int_eq (pos n) (pos 0)) (Decides-int_eq (pos n) (pos 0)) (λ e. differs (ap count_in e)), not_so (int_eq (pos n) (pos 1)) (Decides-int_eq (pos n) (pos 1)) (λ e. other (ap count_in e)), f.0) refl

choice_by_cases : (n : ℕ) → ((eqb n 0 ≡ true) × (n ≡ 0)) ⊎ ((eqb n 0 ≡ false) × (n ≡ 0 → ⊥)) → ((eqb n 1 ≡ true) × (n ≡ 1)) ⊎ ((eqb n 1 ≡ false) × (n ≡ 1 → ⊥)) → is_choice (pos n) ≡ leb n 1
choice_by_cases n (inl z) one = subst (λ m. is_choice (pos m) ≡ leb m 1) (sym z.1) refl
choice_by_cases n (inr z) (inl o) = subst (λ m. is_choice (pos m) ≡ leb m 1) (sym o.1) refl
choice_by_cases n (inr z) (inr o) = above_one n z.1 o.1 (leb_tells n 1)

one_or_none : (n : ℕ) → is_choice (pos n) ≡ leb n 1
one_or_none n = choice_by_cases n (eqb_tells n 0) (eqb_tells n 1)

op_takes : (w : World) (n : ℕ) (o : Op) → takes w (Some (pos n)) (stmt.Do o) ≡ is_up_to n (most_answer w (stmt.Do o))
op_takes w n (op.Set x m) = refl
op_takes w n (op.Assign x y) = refl
op_takes w n (op.Add x y z) = refl
op_takes w n (op.Subtract x y z) = refl
op_takes w n (op.Load x b i) = refl
op_takes w n (op.Store b i x) = refl
op_takes w n (op.Fill b x) = refl
op_takes w n (op.Print x) = refl
op_takes w n op.GetSqe = refl
op_takes w n (op.PrepRead fd b len off) = refl
op_takes w n (op.PrepWrite fd b len off k) = refl
op_takes w n (op.PrepFsync fd datasync) = refl
op_takes w n op.PrepNop = refl
op_takes w n op.PrepOther = refl
op_takes w n (op.SetData64 u) = refl
op_takes w n (op.Submit x) = refl
op_takes w n (op.SubmitAndWait x m) = refl
op_takes w n op.CqeGetData64 = refl
op_takes w n op.CqeSeen = refl

test_takes : (w : World) (n : ℕ) (t : Test) → takes w (Some (pos n)) (stmt.If t) ≡ is_up_to n (most_answer w (stmt.If t))
test_takes w n (test.Compare x comparison m) = refl
test_takes w n test.ReadyZero = refl
test_takes w n (test.SpaceAtLeast m) = refl
test_takes w n (test.Take pool k) = refl
test_takes w n test.Any = one_or_none n

takes_up_to : (w : World) (n : ℕ) (s : Stmt) → takes w (Some (pos n)) s ≡ is_up_to n (most_answer w s)
takes_up_to w n (stmt.Do o) = op_takes w n o
takes_up_to w n (stmt.Put pool k) = refl
takes_up_to w n (stmt.Lock l) = refl
takes_up_to w n (stmt.EndLock o l) = refl
takes_up_to w n (stmt.If t) = test_takes w n t
takes_up_to w n (stmt.Else o) = refl
takes_up_to w n (stmt.EndIf o) = refl
takes_up_to w n (stmt.Peek x) = refl
takes_up_to w n (stmt.Case o u) = refl
takes_up_to w n (stmt.Other o) = refl
takes_up_to w n (stmt.Nothing o) = refl
takes_up_to w n (stmt.EndArm o) = refl
takes_up_to w n (stmt.EndPeek o) = refl
takes_up_to w n (stmt.Loop k) = refl
takes_up_to w n (stmt.EndLoop o k) = refl
takes_up_to w n (stmt.Break o releases leaves) = refl

plain_by : (i : ℕ) (most : Option ℕ) → true ≡ stands_for (choice_up_to i most) (Thread i None)
plain_by i None = rw (eq-eqb i i refl) refl
plain_by i (Some most) = rw (eq-eqb i i refl) refl

ready_by : (i n : ℕ) (most : Option ℕ) → is_up_to n most ≡ stands_for (choice_up_to i most) (Thread i (Some (pos n)))
ready_by i n None = rw (eq-eqb i i refl) refl
ready_by i n (Some most) = rw (eq-eqb i i refl) refl

ready_at : (w : World) (i : ℕ) (l : Line) (take : Option ℤ) → IsCountIfAny take → takes w take l.stmt ≡ stands_for (choice_up_to i (most_answer w l.stmt)) (Thread i take)
ready_at w i l None p = plain_by i (most_answer w l.stmt)
ready_at w i l (Some (pos n)) p = takes_up_to w n l.stmt ∙ ready_by i n (most_answer w l.stmt)
ready_at w i l (Some (negsuc n)) p = absurd p

thread_at : (w : World) (i : ℕ) (take : Option ℤ) (next : Next) → IsCountIfAny take → any_stands_for (choice_by w i next) (Thread i take) ≡ is_ready w take next
thread_at w i take (Ready l) p = sym (ready_at w i l take p)
thread_at w i take (TakenLock wanted) p = refl
thread_at w i take Ended p = refl

other_by : (most : Option ℕ) (k i : ℕ) (take : Option ℤ) → eqb k i ≡ false → stands_for (choice_up_to k most) (Thread i take) ≡ false
other_by None k i take e = rw e refl
other_by (Some most) k i take e = rw e refl

other_thread : (w : World) (k i : ℕ) (take : Option ℤ) (next : Next) → (k ≡ i → ⊥) → any_stands_for (choice_by w k next) (Thread i take) ≡ false
other_thread w k i take (Ready l) differ = other_by (most_answer w l.stmt) k i take (ne_eqb k i differ)
other_thread w k i take (TakenLock wanted) differ = refl
other_thread w k i take Ended differ = refl

no_next_by : (program : Program) (i : ℕ) (h : Holders) (o : Option Standing) → slice_get program.threads i ≡ None → next_by h (next_at program i o) ≡ Ended
no_next_by program i h None e = refl
no_next_by program i h (Some t) e =
    let none : length (lines_of program i) ≡ 0 = ap (λ x. length (lines_in x)) e in
    ap (next_by h) (past_lines program i t (omega arith))

no_completion_by : (c : Bool) (v most i : ℕ) (take : Option ℤ) → any_stands_for (cond c (Some (Complete v most)) None) (Thread i take) ≡ false
no_completion_by true v most i take = refl
no_completion_by false v most i take = refl

no_completion : (w : World) (k i : ℕ) (take : Option ℤ) (o : Option Pending) → any_stands_for (completion_choice w k o) (Thread i take) ≡ false
no_completion w k i take None = refl
no_completion w k i take (Some p) = no_completion_by (is_place k (pending_place w p.request.user_data)) p.request.user_data (largest p.request.len p.request.kind) i take

no_pending : (w : World) (i : ℕ) (take : Option ℤ) → any_below (length w.pending) (λ k. any_stands_for (pending_choice w k) (Thread i take)) ≡ false
no_pending w i take = none_below (length w.pending) (λ k. any_stands_for (pending_choice w k) (Thread i take)) (λ k lt. no_completion w k i take (slice_get w.pending k))

thread_by : (w : World) (i : ℕ) (take : Option ℤ) → IsCountIfAny take → ((t : ThreadOf) × (i < length w.program.threads) × (slice_get w.program.threads i ≡ Some t) × (get_or w.program.threads i t ≡ t)) ⊎ ((length w.program.threads ≤ i) × (slice_get w.program.threads i ≡ None)) → is_enabled w (Thread i take) ≡ any_in w (Thread i take)
thread_by w i take p (inl (t, lt, at, got)) =
    let f : ℕ → Bool = λ k. any_stands_for (thread_choice w k) (Thread i take) in
    or_left _ _ _
    (one_below (length w.program.threads) i f lt (λ k differ. other_thread w k i take (next_of w.program w.controls k) differ) ∙ thread_at w i take (next_of w.program w.controls i) p)
    (no_pending w i take)
thread_by w i take p (inr (le, none)) =
    let f : ℕ → Bool = λ k. any_stands_for (thread_choice w k) (Thread i take) in
    or_left _ _ _
    (none_below (length w.program.threads) f (λ k lt. other_thread w k i take (next_of w.program w.controls k) (λ same. omega (arith, le, lt, same)))
    ∙ sym (ap (is_ready w take) (no_next_by w.program i w.controls.holders (slice_get w.controls.threads i) none)))
    (no_pending w i take)

-- ---- completions

no_step_by : (most : Option ℕ) (i u : ℕ) (res : ℤ) → stands_for (choice_up_to i most) (Kernel u res 0) ≡ false
no_step_by None i u res = refl
no_step_by (Some most) i u res = refl

no_step : (w : World) (i u : ℕ) (res : ℤ) (next : Next) → any_stands_for (choice_by w i next) (Kernel u res 0) ≡ false
no_step w i u res (Ready l) = no_step_by (most_answer w l.stmt) i u res
no_step w i u res (TakenLock wanted) = refl
no_step w i u res Ended = refl

no_thread : (w : World) (u : ℕ) (res : ℤ) → any_below (length w.program.threads) (λ i. any_stands_for (thread_choice w i) (Kernel u res 0)) ≡ false
no_thread w u res = none_below (length w.program.threads) (λ i. any_stands_for (thread_choice w i) (Kernel u res 0)) (λ i lt. no_step w i u res (next_of w.program w.controls i))

here_by : (c : Bool) (v u most n : ℕ) → c ≡ true → v ≡ u → any_stands_for (cond c (Some (Complete v most)) None) (Kernel u (pos n) 0) ≡ leb n most
here_by true v u most n e same = rw (eq-eqb v u same) refl
here_by false v u most n e same = absurd cc

elsewhere_by : (c : Bool) (v u most : ℕ) (res : ℤ) → (v ≡ u → c ≡ false) → ((eqb v u ≡ true) × (v ≡ u)) ⊎ ((eqb v u ≡ false) × (v ≡ u → ⊥)) → any_stands_for (cond c (Some (Complete v most)) None) (Kernel u res 0) ≡ false
elsewhere_by true v u most res h (inl e) = absurd (cc (h e.1))
elsewhere_by true v u most res h (inr e) = rw (e.0) refl
elsewhere_by false v u most res h e = refl

-- at a place that isn't that of the user data
elsewhere : (w : World) (k u : ℕ) (res : ℤ) (o : Option Pending) → is_place k (pending_place w u) ≡ false → any_stands_for (completion_choice w k o) (Kernel u res 0) ≡ false
elsewhere w k u res None h = refl
elsewhere w k u res (Some p) h =
    elsewhere_by (is_place k (pending_place w p.request.user_data)) p.request.user_data u (largest p.request.len p.request.kind) res
    (λ same. ap (λ v. is_place k (pending_place w v)) same ∙ h) (eqb_tells p.request.user_data u)

-- at the place of the user data
here : (w : World) (j u n : ℕ) (p : Pending) → pending_place w u ≡ Some j → slice_get w.pending j ≡ Some p → p.request.user_data ≡ u → any_stands_for (pending_choice w j) (Kernel u (pos n) 0) ≡ kernel_may (pos n) 0 (slice_get w.pending j)
here w j u n p place at same =
    let is : is_place j (pending_place w p.request.user_data) ≡ true = ap (λ v. is_place j (pending_place w v)) same ∙ ap (is_place j) place ∙ eq-eqb j j refl in
    let most = largest p.request.len p.request.kind in
    ap (λ o. any_stands_for (completion_choice w j o) (Kernel u (pos n) 0)) at
    ∙ here_by (is_place j (pending_place w p.request.user_data)) p.request.user_data u most n is same
    ∙ sym (and_true (leb n most)) ∙ sym (ap (kernel_may (pos n) 0) at)

kernel_by : (w : World) (u n : ℕ) (place : Option ℕ) → pending_place w u ≡ place →
    any_below (length w.pending) (λ k. any_stands_for (pending_choice w k) (Kernel u (pos n) 0)) ≡ kernel_may (pos n) 0 (pending_at w place)
kernel_by w u n None e =
    none_below (length w.pending) (λ k. any_stands_for (pending_choice w k) (Kernel u (pos n) 0))
    (λ k lt. elsewhere w k u (pos n) (slice_get w.pending k) (ap (is_place k) e))
kernel_by w u n (Some j) e =
    let d : Pending = record { request = prepared_nop; bytes = None } in
    let found = position-Some (λ (p : Pending). has_data u p.request) w.pending j d e in
    let p = get_or w.pending j d in
    one_below (length w.pending) j (λ k. any_stands_for (pending_choice w k) (Kernel u (pos n) 0)) found.0
    (λ k differ. elsewhere w k u (pos n) (slice_get w.pending k) (ap (is_place k) e ∙ ne_eqb j k (λ same. differ (sym same))))
    ∙ here w j u n p e (slice_get-get_or w.pending j d found.0) (eqb-true p.request.user_data u found.1)

enabled_is_any : (w : World) (item : Item) → HasPlainAnswer item → is_enabled w item ≡ any_in w item
enabled_is_any w (Thread i take) plain = thread_by w i take plain (slice_get_cases w.program.threads i).1
enabled_is_any w (Kernel u (pos n) fill) plain =
    let zero_fill : fill ≡ 0 = plain.1 in
    rw zero_fill (or_right _ _ _ (kernel_by w u n (pending_place w u) refl) (no_thread w u (pos n)))
enabled_is_any w (Kernel u (negsuc n) fill) plain = absurd (plain.0)

pub listed_is_enabled : ListedIsEnabled
listed_is_enabled w item plain = enabled_is_any w item plain ∙ sym (listed_in w item)

-- what is all that may be chosen
pub all_are_enabled : (w : World) (choices : List Choice) → choices ≡ choices_in w → AreEnabled w choices
all_are_enabled w choices all = rw all (listed_is_enabled w)
