-- A text that was read and judged.
use Rattle.std.specs.Prelude.{◌≡◌, ℕ, List, Ok}
use Rattle.rc_read.specs.Answer.{answer_of}
use Rattle.rc_read.specs.Stream.{StopsAt}
use Rattle.rc_read.specs.View.{view_sheet}
use Rattle.rc_read.specs.declared.fault.ReadFault.TheVariants.{Text}
use Rattle.rc_rules.specs.Causes.{premise_number}
use Rattle.rc_rules.specs.Labellings.{IsRefused}
use Rattle.rc_admit.specs.declared.admitted.Judged.{Judged}
use Rattle.rc_admit.specs.declared.admitted.Judged.TheVariants.{Admitted, Refused, Unread}
use Rattle.rc_admit.specs.Answer.{Admits}

abbrev pub IsJudged : List ℕ → Judged → Type 0
IsJudged text (Admitted program) = Admits text (Ok program)
IsJudged text (Refused program r) = (answer_of text ≡ Ok program) × IsRefused program r.line (premise_number r.cause)
IsJudged text (Unread line cause above) = StopsAt text (Text line cause) (view_sheet above)
