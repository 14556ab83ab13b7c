-- The verdict on a model that was read and judged.
use Rattle.std.specs.Prelude.{ℕ, List}
use Rattle.rc_admit.specs.declared.admitted.Judged.{Judged}
use Rattle.rc_admit.specs.declared.admitted.Judged.TheVariants.{Admitted, Refused, Unread}
use Rattle.rc_admit.specs.Judged.{IsJudged}
use Rattle.rc_read.specs.Answer.{answer_of}
use Rattle.rc_report.specs.Checks.{IsVerdict}
use Rattle.rc_report.specs.declared.verdict.Verdict.{Verdict}
use Rattle.rc_report.specs.declared.verdict.Verdict.TheVariants as verdicts

abbrev pub verdict_of : Judged → Verdict
verdict_of (Admitted program) = verdicts.Accepted
verdict_of (Refused program refusal) = verdicts.Refused refusal
verdict_of (Unread line cause above) = verdicts.Unreadable line cause

-- It is the verdict on each model that was read and judged so.
abbrev pub IsVerdictOn : Judged → Verdict → Type 0
IsVerdictOn judged verdict = (text : List ℕ) → IsJudged text judged → IsVerdict (answer_of text) verdict
