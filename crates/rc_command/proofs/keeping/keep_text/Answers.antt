use Rattle.std.proofs.Common.{refl, subst}
use Rattle.std.specs.Prelude.{option_copied as named}
use Rattle.rc_rewrite.specs.Keeps.{GivesKept}
use Rattle.rc_command.specs.Answers.{SaysKept}
use Rattle.rc_console.proofs.Answers.{does_nothing}
use Rattle.rc_command.proofs.Commands.{does_kept, does_unread}
use Rattle.rc_command.proofs.keeping.keep_text.Goals as goal

pub returns-in_err-kept : goal.returns-in_err-kept
returns-in_err-kept g c = does_nothing g.S.Sink.state c.args.sink.now c.args.sink.now (SaysKept (named c.args.file) c.args.text.now) c.from_residual.result c.from_residual.ensures.1 refl

pub returns-in-Ok : goal.returns-in-Ok
returns-in-Ok g c =
    let given = subst (GivesKept c.args.text.now) c.in-Ok.is c.in_ok-kept.ensures in
    does_kept g.S.Sink.state c.args.sink.now c.write_answer.new.sink (named c.args.file) c.args.text.now c.in-Ok.kept c.write_answer.result given (rw c.deref.ensures.value at c.write_answer.ensures)

pub returns-in-Err : goal.returns-in-Err
returns-in-Err g c =
    let given = subst (GivesKept c.args.text.now) c.in-Err.is c.in_ok-kept.ensures in
    does_unread g.S.Sink.state c.args.sink.now c.tell_verdict.new.sink (named c.args.file) c.args.text.now c.in-Err.unread c.tell_verdict.result given c.tell_verdict.ensures
