use Rattle.std.proofs.Common.{◌≡◌, refl}
use Rattle.rc_command.specs.Following.{said_of}
use Rattle.rc_command.proofs.Following.{whole_begun, whole_written}
use Rattle.rc_command.proofs.departures.telling.tell_answer.Goals as goal

pub returns-in_err-write_piece-clause-answer : goal.returns-in_err-write_piece-clause-answer
returns-in_err-write_piece-clause-answer g c =
    whole_begun g.S.Sink.state c.args.sink.now c.write_piece.new.writer g.E.Sink.state c.args.errors.now c.args.errors.now (λ said. said ≡ said_of c.args.answer.now)
    c.args.answer.now _ c.from_residual.result c.from_residual.ensures.1 refl (rw c.deref.ensures.value at c.in_err-write_piece.ensures) refl

pub returns-clause-answer : goal.returns-clause-answer
returns-clause-answer g c =
    whole_written g.S.Sink.state c.args.sink.now c.write_piece.new.writer g.E.Sink.state c.args.errors.now c.tell_notes.new.errors (λ said. said ≡ said_of c.args.answer.now)
    c.args.answer.now c.deref.result.now c.deref-2.result.now refl c.deref.ensures.value c.deref-2.ensures.value c.in_ok-write_piece.ensures (c.tell_notes.ensures c.requires.told)
