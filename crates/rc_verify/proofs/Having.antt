-- Where a part was last held, line by line.
use Rattle.std.proofs.Common.{◌≡◌, ℕ, ◌+◌, ◌<◌, ◌⊎◌, inl, inr, Bool, true, false, Option, Some, None, Ok, take, slice_get, sym, ap, subst, ◌∙◌, arith}
use Rattle.std.proofs.lemmas.Bool.{cases_lt}
use Rattle.rc_lang.specs.Program.{Program, Thread}
use Rattle.rc_lang.specs.Views.{view_of}
use Rattle.rc_split.specs.declared.part.Part.{Part as Given}
use Rattle.rc_rules.specs.declared.cause.Cause.{Cause}
use Rattle.rc_rules.specs.Labellings.{HasLabels}
use Rattle.rc_rules.specs.Readers.{some_has}
use Rattle.rc_rules.specs.States.{State, label_of, sides_of}
use Rattle.rc_verify.specs.Held.{HasAt, IsLastHeld}
use Rattle.rc_verify.specs.Labels.{Goes, IsRefusedFor, IsStrongestAt, Labels, named_in}
use Rattle.rc_verify.proofs.Beginning.{same_thread}
use Rattle.rc_verify.proofs.Refusals.{has_front}

missing_too : (P : Program) (t : Thread) (n j : ℕ) (part : Given) → HasAt P t n part false → (j < n → HasAt P t j part false) → j < n + 1 → HasAt P t j part false
missing_too P t n j part h g lt = elim (cases_lt j n) [
  | inl l ↦ g l
  | inr l ↦ subst (λ k. HasAt P t k part false) (let e : n ≡ j = omega (arith, lt, l) in e) h
]

held_on : (P : Program) (t : Thread) (n : ℕ) (part : Given) (last : Option ℕ) → HasAt P t n part false → IsLastHeld P t n part last → IsLastHeld P t (n + 1) part last
held_on P t n part None h g = λ j lt. missing_too P t n j part h (g j) lt
held_on P t n part (Some k) h g = (let l = g.0 in omega (arith, l), g.1, λ j more lt. missing_too P t n j part h (g.2 j more) lt)

held_here : (P : Program) (t : Thread) (n : ℕ) (part : Given) → HasAt P t n part true → IsLastHeld P t (n + 1) part (Some n)
held_here P t n part h = (omega arith, h, λ j more lt. absurd (omega (arith, more, lt)))

-- one place more
pub next_held : (P : Program) (t : Thread) (n : ℕ) (part : Given) (b : Bool) (old new : Option ℕ) → HasAt P t n part b → IsLastHeld P t n part old → ((b ≡ true) × (new ≡ Some n)) ⊎ ((b ≡ false) × (new ≡ old)) → IsLastHeld P t (n + 1) part new
next_held P t n part b old new h g (inl c) = subst (IsLastHeld P t (n + 1) part) (sym c.1) (held_here P t n part (subst (HasAt P t n part) c.0 h))
next_held P t n part b old new h g (inr c) = subst (IsLastHeld P t (n + 1) part) (sym c.1) (held_on P t n part old (subst (HasAt P t n part) c.0 h) g)

pub has_here : (P : Program) (v : Labels) (s : State) (n : ℕ) (part : Given) (b : Bool) → named_in v ≡ P → v.place ≡ n → s ≡ v.state → b ≡ some_has (label_of s) part → IsStrongestAt (named_in v) v.thread v.place (sides_of v.state) → HasAt P v.thread n part b
has_here P v s n part b p q e f h = (sides_of v.state, subst (λ (y : Program). IsStrongestAt y v.thread n (sides_of v.state)) p (subst (λ k. IsStrongestAt (named_in v) v.thread k (sides_of v.state)) q h), sym (f ∙ ap (λ (x : State). some_has (label_of x) part) e))

pub goes_further : (old new : Labels) (b : Bool) → b ≡ true → Goes old new (Ok b) → new.place ≡ old.place + 1
goes_further old new true e g = g.1
goes_further old new false e g = absurd cc

-- A line before which all have labels up to a later one isn't refused.
pub no_refusal : (P : Program) (t : Thread) (i n m : ℕ) (v : Labels) (cause : Cause) → named_in v ≡ view_of P i → slice_get P.threads i ≡ Some v.thread → slice_get P.threads i ≡ Some t → v.place ≡ n → n < m → HasLabels (view_of P i) t (take m t.lines) → IsRefusedFor (named_in v) v.thread v.place cause → ⊥
no_refusal P t i n m v cause p is that q lt h r =
    let h' : HasLabels (view_of P i) v.thread (take m v.thread.lines) = subst (λ (x : Thread). HasLabels (view_of P i) x (take m x.lines)) (same_thread P.threads i t v.thread that is) h in
    let r' : IsRefusedFor (view_of P i) v.thread n cause = subst (λ (y : Program). IsRefusedFor y v.thread n cause) p (subst (λ k. IsRefusedFor (named_in v) v.thread k cause) q r) in
    r'.1.none_up_to (has_front (view_of P i) v.thread v.thread.lines (n + 1) m (omega (arith, lt)) h')

pub held_to : (P : Program) (t u : Thread) (i n m : ℕ) (part : Given) (last : Option ℕ) → slice_get P.threads i ≡ Some u → slice_get P.threads i ≡ Some t → n ≡ m → IsLastHeld (view_of P i) u n part last → IsLastHeld (view_of P i) t m part last
held_to P t u i n m part last is that e h = subst (λ k. IsLastHeld (view_of P i) t k part last) e (subst (λ (x : Thread). IsLastHeld (view_of P i) x n part last) (same_thread P.threads i u t is that) h)
