use Rattle.std.proofs.Common.{sym}
use Rattle.rc_command.proofs.Leaving.{ends_silent, ends_told}
use Rattle.rc_command.proofs.command.ended.Goals as goal

pub returns-then-is_hung_up-clause-answer : goal.returns-then-is_hung_up-clause-answer
returns-then-is_hung_up-clause-answer g c = ends_silent c.args.is_closed c.args.answer c.in-Err.fault (g.E.Sink.state c.args.errors.now) c.in-Err.is (sym c.if-is_hung_up.ensures)

pub returns-else-is_hung_up-clause-answer : goal.returns-else-is_hung_up-clause-answer
returns-else-is_hung_up-clause-answer g c =
    ends_told c.args.is_closed c.args.answer c.in-Err.fault (g.E.Sink.state c.args.errors.now) (g.E.Sink.state c.tell.new.errors) c.tell.result c.in-Err.is (sym c.if-is_hung_up.ensures) c.tell.ensures.status c.tell.ensures.told
