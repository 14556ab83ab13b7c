use Rattle.rc_console.specs.Outputs.{written_by}
use Rattle.rc_command.specs.Commands.{SaysWithModel, SaysModels}
use Rattle.rc_command.specs.Following.{SaysAsked}
use Rattle.rc_command.proofs.Leaving.{leaves_as, of_logs, of_models}
use Rattle.rc_command.proofs.command.with_model.Goals as goal

pub returns-in-Some-clause-answer : goal.returns-in-Some-clause-answer
returns-in-Some-clause-answer g c =
    let gives = g.T.Texts.gives c.args.texts.now in
    let opens = g.T.Logs.opens c.args.texts.now in
    let input = g.I.Read.remaining c.args.reader in
    leaves_as (written_by g.O.Write.contents) c.args.sink.now c.followed.new.sink (g.E.Sink.state c.args.errors.now) (g.E.Sink.state c.followed.new.errors) (SaysAsked gives opens c.in-Some.asked.now input) (SaysWithModel gives opens input c.args.command.now c.args.files.now) c.followed.result
    (of_logs gives opens input c.args.command.now c.args.files.now c.following.result c.in-Some.asked c.following.ensures c.in-Some.is) c.followed.ensures.answer

pub returns-in-None-clause-answer : goal.returns-in-None-clause-answer
returns-in-None-clause-answer g c =
    let gives = g.T.Texts.gives c.args.texts.now in
    let opens = g.T.Logs.opens c.args.texts.now in
    let input = g.I.Read.remaining c.args.reader in
    leaves_as (written_by g.O.Write.contents) c.args.sink.now c.on_models.new.sink (g.E.Sink.state c.args.errors.now) (g.E.Sink.state c.on_models.new.errors) (SaysModels gives input c.args.command.now c.args.files.now) (SaysWithModel gives opens input c.args.command.now c.args.files.now) c.on_models.result
    (of_models gives opens input c.args.command.now c.args.files.now c.following.result c.following.ensures c.in-None.is) c.on_models.ensures.answer
