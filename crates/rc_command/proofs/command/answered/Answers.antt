use Rattle.std.proofs.Common.{sym, subst}
use Rattle.rc_command.proofs.Leaving.{leaves_instead, serves_instead, with_moves_of, without_moves}
use Rattle.rc_console.specs.Outputs.{written_by}
use Rattle.rc_command.proofs.command.answered.Goals as goal

pub returns-then-is_server-clause-answer : goal.returns-then-is_server-clause-answer
returns-then-is_server-clause-answer g c = serves_instead _ _ _ (sym c.if-is_server.ensures) c.served.ensures.answer

pub returns-in-Some-clause-answer : goal.returns-in-Some-clause-answer
returns-in-Some-clause-answer g c =
    leaves_instead _ _ _ (sym c.if-is_server.ensures)
    (with_moves_of (g.T.Texts.gives c.args.texts.now) (g.T.Logs.opens c.args.texts.now) (g.I.Read.remaining c.args.reader) c.args.asked (written_by g.O.Write.contents) c.args.sink.now c.moved.new.sink
    (g.E.Sink.state c.args.errors.now) (g.E.Sink.state c.moved.new.errors) c.moved.result c.in-Some.name c.in-Some.is c.moved.ensures.answer)

pub returns-in-None-clause-answer : goal.returns-in-None-clause-answer
returns-in-None-clause-answer g c =
    leaves_instead _ _ _ (sym c.if-is_server.ensures)
    (without_moves (g.T.Texts.gives c.args.texts.now) (g.T.Logs.opens c.args.texts.now) (g.I.Read.remaining c.args.reader) c.args.asked (written_by g.O.Write.contents) c.args.sink.now c.written.new.sink
    (g.E.Sink.state c.args.errors.now) (g.E.Sink.state c.written.new.errors) c.written.result c.in-None.is (rw c.deref.ensures.value at c.written.ensures.answer))
