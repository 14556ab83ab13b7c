-- Enough of a model has the answer of all of it.
use Rattle.std.proofs.Common.{◌≡◌, ◌∙◌, ℕ, List, ap, sym}
use Rattle.rc_read.specs.Answer.{answer_of}
use Rattle.rc_report.proofs.Settled.{same_answer}
use Rattle.rc_console.specs.declared.inputs.Extent.TheVariants.{Enough}
use Rattle.rc_console.specs.Inputs.{Suffices}

pub enough_answers : (kept bytes : List ℕ) → Suffices Enough kept bytes → answer_of kept ≡ answer_of bytes
enough_answers kept bytes (rest, is, enough) = sym (ap answer_of is ∙ same_answer kept rest enough)
