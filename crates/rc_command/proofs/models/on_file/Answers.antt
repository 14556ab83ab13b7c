use Rattle.std.proofs.Common.{[], Some, refl, sym, ◌∙◌}
use Rattle.rc_report.proofs.Pieces.{wrote_none}
use Rattle.rc_console.specs.Files.{line_told}
use Rattle.rc_console.proofs.FileAnswers.{told_nothing}
use Rattle.rc_command.specs.Answers.{AsksFile, Says, WithNotes}
use Rattle.rc_command.proofs.Commands.{all_within, file_read, file_unread}
use Rattle.rc_command.proofs.models.on_file.Goals as goal

pub returns-in-Ok-clause-answer : goal.returns-in-Ok-clause-answer
returns-in-Ok-clause-answer g c =
    let gives = g.T.Texts.gives c.args.texts.now in
    let command = c.args.command.now in
    let name = c.args.name.now in
    let notes = c.performed.new.notes.items in
    let kept = c.in-Ok.text.items in
    told_nothing (Says (Some name) command kept) (WithNotes notes (AsksFile gives command name)) g.S.Sink.state c.args.sink.now c.performed.new.sink
    g.E.Sink.state c.args.errors.now c.performed.result c.requires.told
    (λ status text h. file_read gives command name notes kept c.extent.result status text c.extent.ensures c.in-Ok.ensures (λ quiet. c.performed.ensures.notes quiet ∙ c.requires.none) h)
    (rw c.deref.ensures.value at c.performed.ensures.answer)

pub returns-in-Ok-clause-bound : goal.returns-in-Ok-clause-bound
returns-in-Ok-clause-bound g c =
    all_within (Some c.args.name.now) c.args.command.now c.in-Ok.text.items g.S.Sink.state c.args.sink.now c.performed.new.sink c.performed.result (rw c.deref.ensures.value at c.performed.ensures.answer)

pub returns-in-Err-clause-answer : goal.returns-in-Err-clause-answer
returns-in-Err-clause-answer g c =
    let told = c.tell_unread.ensures.told in (
      record { status = 3; text = []; told = line_told c.args.name.now told.0 },
      file_unread (g.T.Texts.gives c.args.texts.now) c.args.command.now c.args.name.now c.args.notes.now.items c.in-Err.unread told.0 c.in-Err.ensures c.requires.none,
      sym c.tell_unread.ensures.status,
      wrote_none _,
      told.1,
    )
