use Rattle.std.proofs.Common.{[], false, ap, arith, refl, subst, ◌≡◌, ◌∙◌}
use Rattle.std.specs.Prelude.{ℕ, List, Option, None}
use Rattle.rc_report.specs.Streams.{OfBytes}
use Rattle.rc_console.specs.Files.{IsTold}
use Rattle.rc_console.proofs.FileAnswers.{told_none}
use Rattle.rc_command.specs.Answers.{Says, may_report}
use Rattle.rc_command.specs.Commands.{SaysInput}
use Rattle.rc_command.proofs.Leaving.{bound_whole, input_said, stops, told_nothing_yet, whole}
use Rattle.rc_command.proofs.models.from_input.Goals as goal

pub returns-in_err-status-clause-answer : goal.returns-in_err-status-clause-answer
returns-in_err-status-clause-answer g c =
    let errors = g.E.Sink.state c.args.errors.now in
    stops g.O.Write.contents c.args.sink.now c.on_input.new.sink errors errors (SaysInput (g.I.Read.remaining c.args.reader) c.args.command.now) _ c.from_residual.result c.from_residual.ensures.1
    c.in_err-status.ensures.answer (told_nothing_yet errors (omega (arith, c.requires.told)))

pub returns-clause-answer : goal.returns-clause-answer
returns-clause-answer g c =
    let errors = g.E.Sink.state c.args.errors.now in
    let command = c.args.command.now in
    let notes = c.on_input.new.notes.items in
    let answer = c.in_ok-status.ensures.answer in
    let status = c.in_ok-status.status in
    let input : OfBytes (g.I.Read.remaining c.args.reader) (λ bytes. Says None command bytes status answer.0) =
    subst (λ reader. OfBytes (g.I.Read.remaining reader) (λ bytes. Says None command bytes status answer.0)) c.new-source.ensures.reader answer.1 in
    let quiet : may_report command ≡ false → notes ≡ [] = λ silent. c.in_ok-status.ensures.notes silent ∙ c.new-notes.ensures.items in
    whole g.O.Write.contents c.args.sink.now c.on_input.new.sink c.finished.new.sink errors errors (g.E.Sink.state c.finished.new.errors) (SaysInput (g.I.Read.remaining c.args.reader) command) notes status c.finished.result c.requires.empty
    (record { status = status; text = answer.0; told = [] }, input_said (g.I.Read.remaining c.args.reader) command notes status answer.0 input quiet, refl, answer.2, told_none errors (omega (arith, c.requires.told)))
    (rw c.deref.ensures.value at c.finished.ensures)

pub returns-clause-bound : goal.returns-clause-bound
returns-clause-bound g c =
    let errors = g.E.Sink.state c.args.errors.now in
    bound_whole g.O.Write.contents c.args.sink.now c.on_input.new.sink c.finished.new.sink errors errors (g.E.Sink.state c.finished.new.errors) (SaysInput (g.I.Read.remaining c.args.reader) c.args.command.now) _ c.in_ok-status.status c.finished.result c.in_ok-status.ensures.bound c.finished.ensures

pub finished-requires-clause-writes : goal.finished-requires-clause-writes
finished-requires-clause-writes g c = c.in_ok-status.ensures.answer.2.1 ∙ c.requires.writes
