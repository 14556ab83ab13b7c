use Rattle.std.proofs.Common.{false, refl}
use Rattle.std.specs.Prelude.{option_copied as named}
use Rattle.rc_report.specs.Files.{printed}
use Rattle.rc_console.proofs.Answers.{does_made, does_nothing}
use Rattle.rc_command.specs.Answers.{TellsWhy}
use Rattle.rc_command.proofs.running.tell_verdict.Goals as goal

pub returns-in_err-print_verdict : goal.returns-in_err-print_verdict
returns-in_err-print_verdict g c =
    does_nothing g.S.Sink.state c.args.sink.now c.args.sink.now (TellsWhy (named c.args.file) c.args.verdict) c.from_residual.result c.from_residual.ensures.1 refl

pub returns : goal.returns
returns g c =
    does_made g.S.Sink.state c.args.sink.now c.write_answer.new.sink (TellsWhy (named c.args.file) c.args.verdict)
    c.new-answer.result.items c.print_verdict.new.text.items c.status.result c.write_answer.result c.new-answer.ensures.items
    (printed (named c.args.file) false c.args.verdict, (refl, c.status.ensures.status), c.in_ok-print_verdict.ensures) (rw c.deref.ensures.value at c.write_answer.ensures)
