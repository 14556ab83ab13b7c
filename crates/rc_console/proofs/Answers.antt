-- What commands say and leave.
use Rattle.std.proofs.Common.{◌≡◌, ℕ, List, [], ◌++◌, Result, Ok, Err, refl, sym, ap, subst, ◌∙◌, arith}
use Rattle.std.specs.Prelude.{IfOk, IsErrAnd}
use Rattle.rc_report.specs.declared.engine_fault.EngineFault.{EngineFault}
use Rattle.rc_report.specs.declared.engine_fault.EngineFault.TheVariants.{Read, Write, OutOfMemory}
use Rattle.rc_report.specs.declared.verdict.Verdict.{Verdict}
use Rattle.rc_report.specs.Statuses.{status_of_verdict}
use Rattle.rc_report.specs.Streams.{Began, Taken}
use Rattle.rc_console.specs.declared.fault.CommandFault.{CommandFault}
use Rattle.rc_console.specs.declared.fault.CommandFault.TheVariants.{Engine}
use Rattle.rc_console.specs.Answers.{Does, Fails, SaysVerdict}

module _ {S : Type 0} (state : S → Taken) (old new : S) where
  -- A `?` returns a fault.
  pub does_fault : (says : ℕ → List ℕ → Type 0) (text : List ℕ) (e : EngineFault) (r : Result ℕ CommandFault) → IsErrAnd r (λ y. y ≡ Engine e) → ¬ (e ≡ Read) → Began (state old) (state new) text e → Does says state old new r
  does_fault says text e (Ok s) is no_read h = absurd is
  does_fault says text e (Err y) is no_read h = subst (λ (z : CommandFault). Fails (state old) (state new) z) (sym is) (failed e no_read h)
    where
      failed : (e : EngineFault) → ¬ (e ≡ Read) → Began (state old) (state new) text e → Fails (state old) (state new) (Engine e)
      failed Read no_read h = absurd (no_read refl)
      failed Write no_read h = h.failures
      failed OutOfMemory no_read h = omega (arith, h.failures)

  pub write_fault : (says : ℕ → List ℕ → Type 0) (text : List ℕ) (e : EngineFault) (r : Result ℕ CommandFault) → IsErrAnd r (λ y. y ≡ Engine e) → (e ≡ Write) × Began (state old) (state new) text e → Does says state old new r
  write_fault says text e r is h = does_fault says text e r is (λ read. absurd (cc (h.0, read))) h.1

  pub steps_fault : (says : ℕ → List ℕ → Type 0) (text : List ℕ) (e : EngineFault) (r : Result ℕ CommandFault) → IsErrAnd r (λ y. y ≡ Engine e) → ¬ (e ≡ Read) × Began (state old) (state new) text e → Does says state old new r
  steps_fault says text e r is h = does_fault says text e r is h.0 h.1

  -- Memory ran out before anything was written.
  pub does_nothing : (says : ℕ → List ℕ → Type 0) (r : Result ℕ CommandFault) → IsErrAnd r (λ y. y ≡ Engine OutOfMemory) → state new ≡ state old → Does says state old new r
  does_nothing says (Ok s) is same = absurd is
  does_nothing says (Err y) is same = subst (λ (z : CommandFault). Fails (state old) (state new) z) (sym is) (ap (λ (t : Taken). t.failures) same)

  -- This says that.
  pub does_as : (says others : ℕ → List ℕ → Type 0) (r : Result ℕ CommandFault) → ((s : ℕ) (text : List ℕ) → says s text → others s text) → Does says state old new r → Does others state old new r
  does_as says others (Ok s) by (text, said, w) = (text, by s text said, w)
  does_as says others (Err e) by h = h

  -- The text that was made is written.
  pub does_made : (says : ℕ → List ℕ → Type 0) (first made : List ℕ) (status : ℕ) (r : Result ℕ CommandFault) → first ≡ [] → (text : List ℕ) × says status text × (made ≡ first ++ text) → Does (λ s text. (s ≡ status) × (text ≡ made)) state old new r → Does says state old new r
  does_made says first made status r none (text, said, is) h =
      let same : made ≡ text = is ∙ ap (λ us. us ++ text) none in
      does_as (λ s text. (s ≡ status) × (text ≡ made)) says r (λ s t both. subst (λ u. says s u) (sym (both.1 ∙ same)) (subst (λ n. says n text) (sym both.0) said)) h

  -- That of a verdict.
  pub does_verdict : (told : Verdict → List ℕ → Type 0) (v : Verdict) (first made : List ℕ) (status : ℕ) (r : Result ℕ CommandFault) → first ≡ [] → status ≡ status_of_verdict v →
      (text : List ℕ) × told v text × (made ≡ first ++ text) → Does (λ s text. (s ≡ status) × (text ≡ made)) state old new r → Does (SaysVerdict told) state old new r
  does_verdict told v first made status r none is (text, tells, made_is) h = does_made (SaysVerdict told) first made status r none (text, (v, tells, is), made_is) h
