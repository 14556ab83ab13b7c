-- What reading a model gives.
use Rattle.std.proofs.Common.{◌≡◌, ℕ, ◌++◌, inl, inr, Ok, Err, Result, arith, refl}
use Rattle.std.specs.Global.{Vec}
use Rattle.std.specs.Prelude.{IfErr, IfOk}
use Rattle.rc_report.specs.declared.engine_fault.EngineFault.{EngineFault}
use Rattle.rc_report.specs.declared.engine_fault.EngineFault.TheVariants.{Read, Write, OutOfMemory}
use Rattle.rc_report.specs.Models.{ReadsModel}
use Rattle.rc_report.specs.Streams.{CountsReads, Given, ReadsText}
use Rattle.rc_console.specs.declared.fault.CommandFault.TheVariants.{Engine}
use Rattle.rc_console.specs.declared.inputs.Extent.TheVariants.{Whole, Enough}
use Rattle.rc_console.specs.Inputs.{IsOfInput, ReadsNeeded, ReadsOnce, unended}

-- ---- all of it, or enough

module _ (old new : Given) where
  pub needed_whole : (r : Result (Vec ℕ) EngineFault) → ReadsText old new r → IfOk r (ReadsNeeded Whole old new)
  needed_whole (Ok text) h = (text.items, h.0, h.1, refl)
  needed_whole (Err e) h = tt

  pub no_write_whole : (r : Result (Vec ℕ) EngineFault) → ReadsText old new r → IfErr r (λ e. ¬ (e ≡ Write))
  no_write_whole (Ok text) h = tt
  no_write_whole (Err e) h = h

  pub needed_enough : (r : Result (Vec ℕ) EngineFault) → ReadsModel old new r → IfOk r (ReadsNeeded Enough old new)
  needed_enough (Ok text) (rest, consumed, end, enough) = (text.items ++ rest, consumed, end, (rest, refl, enough))
  needed_enough (Err e) h = tt

  pub no_write_enough : (r : Result (Vec ℕ) EngineFault) → ReadsModel old new r → IfErr r (λ e. ¬ (e ≡ Write))
  no_write_enough (Ok text) h = tt
  no_write_enough (Err e) h = h

  -- ---- why it isn't read

  pub reads_unended : (X : Type 0) (e : EngineFault) → CountsReads {X = X} old new (Err e) → new.failures ≡ old.failures → ReadsOnce {X = X} old new (Err (unended e))
  reads_unended X Read h same = elim h [
    | inl failed ↦ absurd (omega (arith, failed.0, same))
    | inr endless ↦ endless
  ]
  reads_unended X Write h same = h
  reads_unended X OutOfMemory h same = h

  pub reads_failed : (X : Type 0) (e : EngineFault) → CountsReads {X = X} old new (Err e) → ¬ (new.failures ≡ old.failures) → ReadsOnce {X = X} old new (Err (Engine e))
  reads_failed X Read h other = elim h [
    | inl failed ↦ failed
    | inr endless ↦ absurd (other endless.no_failure)
  ]
  reads_failed X Write h other = h
  reads_failed X OutOfMemory h other = h

pub unended_is_of_input : (e : EngineFault) → ¬ (e ≡ Write) → IsOfInput (unended e)
unended_is_of_input Read no_write = tt
unended_is_of_input Write no_write = absurd (no_write refl)
unended_is_of_input OutOfMemory no_write = tt

pub failed_is_of_input : (e : EngineFault) → ¬ (e ≡ Write) → IsOfInput (Engine e)
failed_is_of_input Read no_write = tt
failed_is_of_input Write no_write = absurd (no_write refl)
failed_is_of_input OutOfMemory no_write = tt
