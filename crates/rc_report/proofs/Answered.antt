-- Answers that are made in memory and written, and what is answered of a source that is read whole.
use Rattle.std.proofs.Common.{◌≡◌, ℕ, List, [], ◌++◌, Option, Some, None, Result, Ok, Err, refl, sym, ap, subst, ◌∙◌}
use Rattle.std.specs.Global.{Vec}
use Rattle.std.specs.Io.KnownBytes.{Consumes, IsAtEnd}
use Rattle.std.specs.Prelude.{IsErrAnd}
use Rattle.rc_report.specs.declared.engine_fault.EngineFault.{EngineFault}
use Rattle.rc_report.specs.declared.engine_fault.EngineFault.TheVariants.{Read, Write, OutOfMemory}
use Rattle.rc_report.specs.Streams.{Answers, Began, Given, OfBytes, OfSource, ReadsText, Taken, Wrote}
use Rattle.rc_report.proofs.Pieces.{append-[]}

module _ {S X : Type 0} (says : X → List ℕ → Type 0) (state : S → Taken) (old new : S) where
  -- Memory ran out before anything was written.
  pub answers_nothing : (r : Result X EngineFault) → IsErrAnd r (λ y. y ≡ OutOfMemory) → state new ≡ state old → Answers says state old new r
  answers_nothing (Ok x) is same = absurd is
  answers_nothing (Err e) is same = subst (λ (z : EngineFault). Answers says state old new (Err z)) (sym is) same

  -- The text that was made is written whole.
  pub answers_written : (x : X) (first made : List ℕ) → first ≡ [] → (text : List ℕ) × says x text × (made ≡ first ++ text) → Wrote (state old) (state new) made → Answers says state old new (Ok x)
  answers_written x first made none (text, told, is) w =
      (text, told, subst (λ (t : List ℕ). Wrote (state old) (state new) t) (is ∙ ap (λ us. us ++ text) none) w)

  -- A write of it failed.
  pub answers_begun : (x : X) (first made : List ℕ) (e : EngineFault) (r : Result X EngineFault) → IsErrAnd r (λ y. y ≡ e) → first ≡ [] → (text : List ℕ) × says x text × (made ≡ first ++ text) → (e ≡ Write) × Began (state old) (state new) made e → Answers says state old new r
  answers_begun x first made e (Ok y) is none (text, told, made_is) w = absurd is
  answers_begun x first made e (Err y) is none (text, told, made_is) w =
      let begun : Began (state old) (state new) text Write = subst (λ (t : List ℕ). Began (state old) (state new) t Write) (made_is ∙ ap (λ us. us ++ text) none) (subst (λ (z : EngineFault). Began (state old) (state new) made z) w.0 w.1) in
      subst (λ (z : EngineFault). Answers says state old new (Err z)) (sym (is ∙ w.0)) (x, text, told, begun)

-- ---- a source

pub of_any : (known : Option (List ℕ)) (holds : List ℕ → Type 0) → ((bytes : List ℕ) → holds bytes) → OfBytes known holds
of_any None holds h = ([], h [])
of_any (Some bytes) holds h = h bytes

pub of_text : (known left : Option (List ℕ)) (text : List ℕ) (holds : List ℕ → Type 0) → Consumes known left text → IsAtEnd left → holds text → OfBytes known holds
of_text None left text holds k z h = (text, h)
of_text (Some bytes) None text holds k z h = absurd k
of_text (Some bytes) (Some others) text holds k z h = subst holds (sym (k ∙ ap (λ us. text ++ us) z ∙ append-[] text)) h

module _ {S X : Type 0} (state : S → Taken) (old new : S) (holds : List ℕ → Type 0) where
  -- It wasn't read.
  pub source_failed : (source : Given) (e : EngineFault) (r : Result X EngineFault) → IsErrAnd r (λ y. y ≡ e) → ¬ (e ≡ Write) → state new ≡ state old → (e ≡ OutOfMemory → (bytes : List ℕ) → holds bytes) → OfSource source state old new r holds
  source_failed source e (Ok x) is no_write same h = absurd is
  source_failed source e (Err Read) is no_write same h = same
  source_failed source e (Err Write) is no_write same h = absurd (no_write (sym is))
  source_failed source e (Err OutOfMemory) is no_write same h = of_any source.remaining holds (h (sym is))

  -- It was, and this text was answered.
  pub source_gave : (source left : Given) (text : List ℕ) (r : Result X EngineFault) → Consumes source.remaining left.remaining text → IsAtEnd left.remaining → (r ≡ Err Read → ⊥) → holds text → OfSource source state old new r holds
  source_gave source left text (Ok x) gave end no_read h = of_text source.remaining left.remaining text holds gave end h
  source_gave source left text (Err Read) gave end no_read h = absurd (no_read refl)
  source_gave source left text (Err Write) gave end no_read h = of_text source.remaining left.remaining text holds gave end h
  source_gave source left text (Err OutOfMemory) gave end no_read h = of_text source.remaining left.remaining text holds gave end h

-- ---- what isn't answered where nothing is read

pub answers_no_read : {S X : Type 0} (says : X → List ℕ → Type 0) (state : S → Taken) (old new : S) (r : Result X EngineFault) → Answers says state old new r → r ≡ Err Read → ⊥
answers_no_read says state old new r h is = subst (Answers says state old new) is h
