use Rattle.std.proofs.Common.{◌∙◌, [], ap, arith, refl, sym}
use Rattle.std.specs.Prelude.{option_copied}
use Rattle.rc_report.proofs.Pieces.{wrote_none}
use Rattle.rc_console.specs.Files.{together}
use Rattle.rc_console.proofs.FileAnswers.{told_none}
use Rattle.rc_command.specs.Answers.{AsksFile, WithNotes}
use Rattle.rc_command.specs.Commands.{SaysFirst}
use Rattle.rc_command.proofs.Leaving.{answers_as, of_first_file, of_no_file, without_notes}
use Rattle.rc_command.proofs.models.on_first.Goals as goal

pub returns-in-Some-clause-answer : goal.returns-in-Some-clause-answer
returns-in-Some-clause-answer g c =
    let gives = g.T.Texts.gives c.args.texts.now in
    let command = c.args.command.now in
    let notes = c.on_file.new.notes.items in
    let name = c.in-Some.name.now in
    answers_as (WithNotes notes (AsksFile gives command name.now)) (WithNotes notes (SaysFirst gives command c.args.files.now)) g.S.Sink.state c.args.sink.now c.on_file.new.sink g.E.Sink.state c.args.errors.now c.on_file.new.errors c.on_file.result
    (λ said h. of_first_file gives command c.args.files.now name (sym c.first.ensures.value ∙ ap (λ o. option_copied o) c.in-Some.is) _ h) c.on_file.ensures.answer

pub returns-in-None-clause-answer : goal.returns-in-None-clause-answer
returns-in-None-clause-answer g c =
    let gives = g.T.Texts.gives c.args.texts.now in
    let command = c.args.command.now in
    let none = sym c.first.ensures.value ∙ ap (λ o. option_copied o) c.in-None.is in (
      together [],
      without_notes (SaysFirst gives command c.args.files.now) c.args.notes.now.items c.requires.none (together []) (of_no_file gives command c.args.files.now none (together []) refl),
      refl,
      wrote_none _,
      told_none _ (omega (arith, c.requires.told)),
    )
