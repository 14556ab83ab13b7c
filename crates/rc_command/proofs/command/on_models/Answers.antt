use Rattle.std.proofs.Common.{sym}
use Rattle.rc_console.specs.Outputs.{written_by}
use Rattle.rc_command.specs.Commands.{SaysFiles, SaysInput, SaysModels}
use Rattle.rc_command.proofs.Leaving.{leaves_as, of_files, of_input}
use Rattle.rc_command.proofs.command.on_models.Goals as goal

pub returns-then-is_empty-clause-answer : goal.returns-then-is_empty-clause-answer
returns-then-is_empty-clause-answer g c =
    let gives = g.T.Texts.gives c.args.texts.now in
    let input = g.I.Read.remaining c.args.reader in
    leaves_as (written_by g.O.Write.contents) c.args.sink.now c.from_input.new.sink (g.E.Sink.state c.args.errors.now) (g.E.Sink.state c.from_input.new.errors) (SaysInput input c.args.command.now) (SaysModels gives input c.args.command.now c.args.files.now) c.from_input.result
    (of_input gives input c.args.command.now c.args.files.now (sym c.if-is_empty.ensures)) c.from_input.ensures.answer

pub returns-clause-answer : goal.returns-clause-answer
returns-clause-answer g c =
    let gives = g.T.Texts.gives c.args.texts.now in
    let input = g.I.Read.remaining c.args.reader in
    leaves_as (written_by g.O.Write.contents) c.args.sink.now c.from_files.new.sink (g.E.Sink.state c.args.errors.now) (g.E.Sink.state c.from_files.new.errors) (SaysFiles gives c.args.command.now c.args.files.now) (SaysModels gives input c.args.command.now c.args.files.now) c.from_files.result
    (of_files gives input c.args.command.now c.args.files.now (sym c.if-is_empty.ensures)) c.from_files.ensures.answer
