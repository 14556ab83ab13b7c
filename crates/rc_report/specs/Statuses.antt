-- The exit status of each answer: 0 where nothing is wrong, 1 where a fault was found, 2 for a model that is no program,
-- 3 where there is no answer.
use Rattle.std.specs.Prelude.{ℕ}
use Rattle.rc_report.specs.declared.step_engine.StepEnd.{StepEnd}
use Rattle.rc_report.specs.declared.step_engine.StepEnd.TheVariants.{Unreadable, Schedule, Trace}
use Rattle.rc_report.specs.declared.trace.End.{End}
use Rattle.rc_report.specs.declared.trace.End.TheVariants.{Fault, NotEnabled, Ended, Stopped, Limit, Memory}
use Rattle.rc_report.specs.declared.verdict.Verdict.{Verdict}
use Rattle.rc_report.specs.declared.verdict.Verdict.TheVariants.{Accepted, Refused, Unreadable as NoProgram}

abbrev pub status_of_verdict : Verdict → ℕ
status_of_verdict Accepted = 0
status_of_verdict (Refused r) = 1
status_of_verdict (NoProgram line cause) = 2

abbrev pub status_of_end : End → ℕ
status_of_end (Fault f) = 1
status_of_end (NotEnabled i) = 3
status_of_end Ended = 0
status_of_end Stopped = 0
status_of_end Limit = 3
status_of_end Memory = 3

abbrev pub status_of_step : StepEnd → ℕ
status_of_step (Unreadable fault) = 2
status_of_step (Schedule i) = 3
status_of_step (Trace end) = status_of_end end
