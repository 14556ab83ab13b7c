use Rattle.std.proofs.Common.{refl, sym, inl, inr, [], Ok, Err}
use Rattle.rc_report.proofs.Pieces.{wrote_none}
use Rattle.rc_console.specs.Answers.{SaysVerdict}
use Rattle.rc_command.specs.Checking.{ChecksFile, TellsFile, memory_words}
use Rattle.rc_console.specs.Files.{line_told}
use Rattle.rc_console.proofs.Answers.{does_verdict}
use Rattle.rc_console.proofs.FileAnswers.{told_nothing}
use Rattle.rc_command.proofs.Commands.{told_of_all}
use Rattle.rc_command.proofs.checking.check_file.Goals as goal

pub returns-in-Err-clause-answer : goal.returns-in-Err-clause-answer
returns-in-Err-clause-answer g c =
    let told = c.tell_unread.ensures.told in
    (record { status = 3; text = []; told = line_told c.args.name.now told.0 }, (Err c.in-Err.unread, c.in-Err.ensures, (told.0, refl)), sym c.tell_unread.ensures.status, wrote_none _, told.1)

pub returns-in-Ok-put_file-clause-answer : goal.returns-in-Ok-put_file-clause-answer
returns-in-Ok-put_file-clause-answer g c =
    let told = TellsFile c.args.name.now c.args.telling c.in-Ok.text.items in
    let made = rw c.deref.ensures.value at c.in-Ok-put_file.ensures in
    told_nothing (SaysVerdict told) (ChecksFile (g.T.Texts.gives c.args.texts.now) c.args.telling c.args.name.now) g.S.Sink.state c.args.sink.now c.write_answer.new.sink
    g.E.Sink.state c.args.errors.now c.write_answer.result c.requires.told (λ status text h. (Ok c.in-Ok.ensures.0, c.in-Ok.ensures.1, inl (told_of_all c.args.name.now c.args.telling c.in-Ok.text.items c.in-Ok.ensures.0 status text c.in-Ok.ensures.2 h, refl)))
    (does_verdict g.S.Sink.state c.args.sink.now c.write_answer.new.sink told c.in-Ok-put_file.verdict c.new-answer.result.items c.put_file.new.answer.items c.status.result c.write_answer.result
    c.new-answer.ensures.items c.status.ensures.status made (rw c.deref-in-Ok-put_file.ensures.value at c.write_answer.ensures))

pub returns-clause-answer : goal.returns-clause-answer
returns-clause-answer g c =
    (record { status = 3; text = []; told = line_told c.args.name.now memory_words }, (Ok c.in-Ok.ensures.0, c.in-Ok.ensures.1, inr refl), sym c.tell_file.ensures.status, wrote_none (g.S.Sink.state c.args.sink.now), c.tell_file.ensures.told)
