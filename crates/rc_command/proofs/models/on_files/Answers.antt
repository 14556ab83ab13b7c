use Rattle.std.proofs.Common.{◌∙◌, Some, None, subst, sym}
use Rattle.rc_command.specs.Commands.{SaysChecked, SaysFiles, SaysFirst}
use Rattle.rc_command.specs.Answers.{WithNotes}
use Rattle.rc_command.proofs.Leaving.{answers_as, of_checked, of_first, without_notes}
use Rattle.rc_command.proofs.models.on_files.Goals as goal

pub returns-in-Some-clause-answer : goal.returns-in-Some-clause-answer
returns-in-Some-clause-answer g c =
    let gives = g.T.Texts.gives c.args.texts.now in
    let command = c.args.command.now in
    answers_as _ (WithNotes c.args.notes.now.items (SaysFiles gives command c.args.files.now)) g.S.Sink.state c.args.sink.now c.check_files.new.sink g.E.Sink.state c.args.errors.now c.check_files.new.errors c.check_files.result
    (λ said h. without_notes (SaysFiles gives command c.args.files.now) c.args.notes.now.items c.requires.none said (of_checked gives command c.args.files.now c.in-Some.telling (sym c.telling_of.ensures ∙ c.in-Some.is) said h)) c.check_files.ensures.answer

pub returns-in-None-clause-answer : goal.returns-in-None-clause-answer
returns-in-None-clause-answer g c =
    let gives = g.T.Texts.gives c.args.texts.now in
    let command = c.args.command.now in
    let notes = c.on_first.new.notes.items in
    answers_as (WithNotes notes (SaysFirst gives command c.args.files.now)) (WithNotes notes (SaysFiles gives command c.args.files.now)) g.S.Sink.state c.args.sink.now c.on_first.new.sink g.E.Sink.state c.args.errors.now c.on_first.new.errors c.on_first.result
    (λ said h. of_first gives command c.args.files.now (sym c.telling_of.ensures ∙ c.in-None.is) _ h) c.on_first.ensures.answer
