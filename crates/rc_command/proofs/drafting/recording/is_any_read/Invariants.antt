use Rattle.std.proofs.Common.{◌≡◌, false, take}
use Rattle.std.specs.Prelude.{All}
use Rattle.rc_command.specs.declared.drafting.outcome.RecordedLog.{RecordedLog}
use Rattle.rc_command.specs.Drafting.{is_read}
use Rattle.rc_command.proofs.drafting.recording.is_any_read.Given as goal

abbrev pub invariant-loop-log : goal.invariant-loop-log
invariant-loop-log l = All (λ (log : RecordedLog). is_read log.outcome ≡ false) (take l.log-index l.logs)
