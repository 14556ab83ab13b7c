-- Histories that grow.
use Rattle.std.proofs.Common.{◌≡◌, ℕ, ◌+◌, inl, inr, List, [], ◌∷◌, ◌++◌, length, refl, sym, ◌∙◌, ap, subst, length-append}
use Rattle.std.proofs.lemmas.List.Sums.{sum_by-append}
use Rattle.std.specs.Prelude.{Bool, true, cond, ℤ, negsuc, ◌⊎◌, count_by, None, Some}
use Rattle.rc_lang.specs.Program.{Program}
use Rattle.rc_world.specs.declared.event.Event.{Event}
use Rattle.rc_world.specs.declared.event.Event.TheVariants.{ByThread, ByKernel}
use Rattle.rc_world.specs.Faults.{fault_of}
use Rattle.rc_world.specs.Machine.{completion_of, kernel_step_of, start_world}
use Rattle.rc_world.specs.Runs.{IsRun, IsSafe, IsStep}
use Rattle.rc_run.specs.declared.live.Turn.{Turn}
use Rattle.rc_run.specs.declared.live.Turn.TheVariants.{Done}
use Rattle.rc_run.specs.Jobs.{Job}
use Rattle.rc_run.specs.Reports.{AllGiven, IsGiven, is_turn}
use Rattle.rc_run.specs.Lives.{Live, Posted, Turned}
use Rattle.rc_run.specs.Machine.{brought, completed_at, given_in_turn}
use Rattle.rc_run.proofs.TurnEvents.{of_completion, of_thread}
use Rattle.rc_run.proofs.Turns.{goes_one_on}

count_by_add : (p : Event → Bool) (xs ys : List Event) → count_by p (xs ++ ys) ≡ count_by p xs + count_by p ys
count_by_add p xs ys = sum_by-append (λ x. cond (p x) 1 0) xs ys

given_more : (gives : ℕ → ℤ → Type 0) (h : List Event) (e : Event) → AllGiven gives h → IsGiven gives e → AllGiven gives (h ++ e ∷ [])
given_more gives [] e all one = (one, tt)
given_more gives (x ∷ xs) e all one = (all.0, given_more gives xs e all.1 one)

turn_is_given : (gives : ℕ → ℤ → Type 0) (e : Event) → is_turn e ≡ true → IsGiven gives e
turn_is_given gives (ByThread i line action) h = tt
turn_is_given gives (ByKernel completion) h = absurd (cc)

count_one : (e : Event) → is_turn e ≡ true → count_by is_turn (e ∷ []) ≡ 1
count_one (ByThread i line action) h = refl
count_one (ByKernel completion) h = absurd (cc)

-- What is kept of a run whose history is longer by an event, of which so many are of threads.
pub record IsLonger (gives : ℕ → ℤ → Type 0) (s v : Live) (turns : ℕ) : Type 0 where
  pub long : length v.history ≡ length s.history + 1
  pub given : AllGiven gives s.history → AllGiven gives v.history
  pub count : count_by is_turn v.history ≡ count_by is_turn s.history + turns
  pub run : (P : Program) → IsSafe P → IsRun (start_world P) s.history s.world → IsRun (start_world P) v.history v.world

longer : (gives : ℕ → ℤ → Type 0) (s v : Live) (e : Event) (turns : ℕ) → v.history ≡ s.history ++ e ∷ [] → IsGiven gives e → count_by is_turn (e ∷ []) ≡ turns
    → (fault_of s.world ≡ None → IsStep s.world e v.world) → IsLonger gives s v turns
longer gives s v e turns more given count step =
    let F : List Event → Type 0 = λ x. AllGiven gives x in
    record {
      long = ap length more ∙ length-append s.history (e ∷ []);
      given = λ all. subst F (sym more) (given_more gives s.history e all given);
      count = ap (count_by is_turn) more ∙ count_by_add is_turn s.history (e ∷ []) ∙ ap (λ n. count_by is_turn s.history + n) count;
      run = λ P safe run. subst (λ es. IsRun (start_world P) es v.world) (sym more) (goes_one_on (start_world P) s.world v.world s.history e run (step (safe s.history s.world run)));
    }

pub turn_more : (gives : ℕ → ℤ → Type 0) (s v : Live) (i : ℕ) (t : ℤ) (x : Turn) (e : Event) → x ≡ Done e → Turned s i t x v → IsLonger gives s v 1
turn_more gives s v i t x e is d0 =
    let T : Turn → Type 0 = λ y. Turned s i t y v in
    let d : Turned s i t (Done e) v = subst T is d0 in
    let turn : is_turn e ≡ true = ap is_turn (of_thread s.world i (given_in_turn s.world i t) e v.world d.0).is in
    longer gives s v e 1 (ap (λ (x : Live). x.history) d.1) (turn_is_given gives e turn) (count_one e turn) (λ none. record { no_fault = none; step = inl (i, given_in_turn s.world i t, d.0) })

-- The same of a completion.
pub post_more : (gives : ℕ → ℤ → Type 0) (s v : Live) (j : Job) (r : ℤ) → Posted s j r v → gives j.request.user_data r ⊎ (r ≡ negsuc 11) → IsLonger gives s v 0
post_more gives s v j r d one =
    let here = d.is_out.here in
    let bytes = brought d.is_out.pending.request j.bytes in
    let at : completed_at s.world d.place r j.bytes (Some d.is_out.pending) ≡ Some (d.event, v.world) = ap (completed_at s.world d.place r j.bytes) (sym here) ∙ d.step in
    let step : kernel_step_of s.world d.place r bytes (Some d.is_out.pending) ≡ Some (d.event, v.world) = ap (kernel_step_of s.world d.place r bytes) (sym here) ∙ at in
    let is : d.event ≡ ByKernel (completion_of j.request r) = of_completion s.world v.world d.place r bytes d.is_out.pending d.event step ∙ ap (λ q. ByKernel (completion_of q r)) d.is_out.same in
    let F : Event → Type 0 = λ x. IsGiven gives x in
    longer gives s v d.event 0 (ap (λ (x : Live). x.history) d.after) (subst F (sym is) one) (ap (λ e. count_by is_turn (e ∷ [])) is) (λ none. record { no_fault = none; step = inr (d.place, r, bytes, at) })
