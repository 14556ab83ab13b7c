use Rattle.std.proofs.Common.{sym, subst}
use Rattle.std.specs.Prelude.{option_copied as named}
use Rattle.rc_console.specs.declared.command.Command.{Command}
use Rattle.rc_command.specs.Answers.{Says}
use Rattle.rc_console.specs.Answers.{Does}
use Rattle.rc_command.proofs.performing.performed.Goals as goal

pub returns-in-Keeps-clause-answer : goal.returns-in-Keeps-clause-answer
returns-in-Keeps-clause-answer g c =
    subst (λ (command : Command). Does (Says (named c.args.file) command c.args.text.now) g.S.Sink.state c.args.sink.now c.keep_text.new.sink c.keep_text.result) (sym c.in-Keeps.is)
    c.keep_text.ensures

pub returns-in-Run-clause-answer : goal.returns-in-Run-clause-answer
returns-in-Run-clause-answer g c =
    subst (λ (command : Command). Does (Says (named c.args.file) command c.args.text.now) g.S.Sink.state c.args.sink.now c.run_text.new.sink c.run_text.result) (sym c.in-Run.is)
    c.run_text.ensures
