use Rattle.std.proofs.Common.{None, refl}
use Rattle.rc_report.specs.Checks.{TellsVerdict}
use Rattle.rc_console.proofs.Answers.{does_nothing, does_verdict}
use Rattle.rc_console.specs.Answers.{SaysVerdict}
use Rattle.rc_command.proofs.performing.checked.Goals as goal

pub returns-in_err-verdict : goal.returns-in_err-verdict
returns-in_err-verdict g c =
    does_nothing g.S.Sink.state c.args.sink.now c.args.sink.now (SaysVerdict (TellsVerdict None c.args.text.now c.args.json)) c.from_residual.result c.from_residual.ensures.1 refl

pub returns : goal.returns
returns g c =
    does_verdict g.S.Sink.state c.args.sink.now c.write_answer.new.sink (TellsVerdict None c.args.text.now c.args.json) c.in_ok-verdict.verdict c.new-answer.result.items c.put_checked.new.answer.items
    c.status.result c.write_answer.result c.new-answer.ensures.items c.status.ensures.status c.in_ok-verdict.ensures (rw c.deref.ensures.value at c.write_answer.ensures)
