use Rattle.std.proofs.Common.{[], ap, refl, sym}
use Rattle.rc_report.proofs.Pieces.{wrote_none}
use Rattle.rc_console.specs.Files.{line_told}
use Rattle.rc_command.specs.Following.{SaysAsked, SaysModel}
use Rattle.rc_command.proofs.Following.{of_file, of_input, of_unread, whole_as, whole_nothing}
use Rattle.rc_command.proofs.departures.answers.follow_logs.Goals as goal

pub returns-in-Ok-clause-answer : goal.returns-in-Ok-clause-answer
returns-in-Ok-clause-answer g c =
    let gives = g.T.Texts.gives c.args.texts.now in
    let opens = g.T.Logs.opens c.args.texts.now in
    let asked = c.args.asked.now in
    let input = g.I.Read.remaining c.args.reader in
    whole_as g.S.Sink.state c.args.sink.now c.follow_model.new.sink g.E.Sink.state c.args.errors.now c.follow_model.new.errors (SaysModel opens asked c.in-Ok.model.items) (SaysAsked gives opens asked input) c.follow_model.result
    (λ said h. of_file gives opens asked input c.in-Some.name c.in-Ok.model.items said c.in-Some.is c.in-Ok.ensures h) (rw c.deref.ensures.value at c.follow_model.ensures.answer)

pub returns-in-Some-clause-answer : goal.returns-in-Some-clause-answer
returns-in-Some-clause-answer g c =
    let told = c.tell_unread.ensures.told in (
      record { status = 3; text = []; told = line_told c.in-Some.name.now told.0 },
      of_unread (g.T.Texts.gives c.args.texts.now) (g.T.Logs.opens c.args.texts.now) c.args.asked.now (g.I.Read.remaining c.args.reader) c.in-Some.name c.in-Err.unread _ c.in-Some.is c.in-Err.ensures (told.0, refl),
      sym c.tell_unread.ensures.status,
      wrote_none (g.S.Sink.state c.args.sink.now),
      told.1,
    )

pub returns-in_err-model-in-None-clause-answer : goal.returns-in_err-model-in-None-clause-answer
returns-in_err-model-in-None-clause-answer g c =
    whole_nothing g.S.Sink.state c.args.sink.now c.args.sink.now g.E.Sink.state c.args.errors.now c.args.errors.now
    (SaysAsked (g.T.Texts.gives c.args.texts.now) (g.T.Logs.opens c.args.texts.now) c.args.asked.now (g.I.Read.remaining c.args.reader)) _ c.from_residual.result c.from_residual.ensures.1 c.in_err-model-in-None.ensures.fault refl refl

pub returns-clause-answer : goal.returns-clause-answer
returns-clause-answer g c =
    let gives = g.T.Texts.gives c.args.texts.now in
    let opens = g.T.Logs.opens c.args.texts.now in
    let asked = c.args.asked.now in
    let input = g.I.Read.remaining c.args.reader in
    let model = c.in_ok-model-in-None.model in
    whole_as g.S.Sink.state c.args.sink.now c.follow_model-in-None.new.sink g.E.Sink.state c.args.errors.now c.follow_model-in-None.new.errors (SaysModel opens asked model.items) (SaysAsked gives opens asked input) c.follow_model-in-None.result
    (λ said h. of_input gives opens asked input (g.I.Read.remaining c.new.result.reader) (g.I.Read.remaining c.read_input.new.source.reader) model said c.in-None.is (ap (λ reader. g.I.Read.remaining reader) c.new.ensures.reader) c.in_ok-model-in-None.ensures.text h)
    (rw c.deref-in-None.ensures.value at c.follow_model-in-None.ensures.answer)
