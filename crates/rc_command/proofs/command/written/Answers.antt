use Rattle.rc_console.specs.Outputs.{written_by}
use Rattle.rc_command.specs.Commands.{SaysCommand, SaysWithModel}
use Rattle.rc_command.specs.Drafting.{SaysDraft}
use Rattle.rc_command.proofs.Leaving.{leaves_as, of_draft, of_no_draft}
use Rattle.rc_command.proofs.command.written.Goals as goal

pub returns-in-Some-clause-answer : goal.returns-in-Some-clause-answer
returns-in-Some-clause-answer g c =
    let gives = g.T.Texts.gives c.args.texts.now in
    let opens = g.T.Logs.opens c.args.texts.now in
    let input = g.I.Read.remaining c.args.reader in
    leaves_as (written_by g.O.Write.contents) c.args.sink.now c.drafted.new.sink (g.E.Sink.state c.args.errors.now) (g.E.Sink.state c.drafted.new.errors) (SaysDraft opens c.in-Some.asked.now) (SaysCommand gives opens input c.args.command.now c.args.files.now) c.drafted.result
    (of_draft gives opens input c.args.command.now c.args.files.now c.drafting.result c.in-Some.asked c.drafting.ensures c.in-Some.is) c.drafted.ensures.answer

pub returns-in-None-clause-answer : goal.returns-in-None-clause-answer
returns-in-None-clause-answer g c =
    let gives = g.T.Texts.gives c.args.texts.now in
    let opens = g.T.Logs.opens c.args.texts.now in
    let input = g.I.Read.remaining c.args.reader in
    leaves_as (written_by g.O.Write.contents) c.args.sink.now c.with_model.new.sink (g.E.Sink.state c.args.errors.now) (g.E.Sink.state c.with_model.new.errors) (SaysWithModel gives opens input c.args.command.now c.args.files.now) (SaysCommand gives opens input c.args.command.now c.args.files.now) c.with_model.result
    (of_no_draft gives opens input c.args.command.now c.args.files.now c.drafting.result c.drafting.ensures c.in-None.is) c.with_model.ensures.answer
