use Rattle.std.proofs.Common.{sym, subst}
use Rattle.std.specs.Global.{Vec}
use Rattle.std.specs.Prelude.{ℕ}
use Rattle.rc_console.specs.Outputs.{written_by}
use Rattle.rc_console.specs.Words.{with_moves}
use Rattle.rc_command.specs.Commands.{SaysCommand, SaysMoved}
use Rattle.rc_command.proofs.Leaving.{leaves_as, of_moves, of_no_moves}
use Rattle.rc_command.proofs.command.moved.Goals as goal

pub returns-in-Ok-clause-answer : goal.returns-in-Ok-clause-answer
returns-in-Ok-clause-answer g c =
    let gives = g.T.Texts.gives c.args.texts.now in
    let says = λ (moves : Vec ℕ). SaysCommand gives (g.T.Logs.opens c.args.texts.now) (g.I.Read.remaining c.args.reader) (with_moves c.args.asked.command moves) c.args.asked.files.items in
    let given = c.in-Ok.ensures in
    let left = rw (c.with_moves-command.ensures, c.deref.ensures.value) at c.written.ensures.answer in
    leaves_as (written_by g.O.Write.contents) c.args.sink.now c.written.new.sink (g.E.Sink.state c.args.errors.now) (g.E.Sink.state c.written.new.errors) (says c.in-Ok.moves) (SaysMoved gives says c.args.name.now) c.written.result
    (λ said h. of_moves gives says c.args.name.now given.0 c.in-Ok.moves given.1 given.2 said h) left

pub returns-in-Err-clause-answer : goal.returns-in-Err-clause-answer
returns-in-Err-clause-answer g c =
    let told = c.tell_unread.ensures.told in
    of_no_moves (written_by g.O.Write.contents) c.args.sink.now (g.T.Texts.gives c.args.texts.now) _ c.args.name.now c.in-Err.unread (g.E.Sink.state c.args.errors.now) (g.E.Sink.state c.tell_unread.new.errors) told.0 c.tell_unread.result c.in-Err.ensures c.tell_unread.ensures.status told.1
