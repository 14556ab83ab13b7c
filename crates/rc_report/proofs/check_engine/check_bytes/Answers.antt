use Rattle.std.proofs.Common.{None, refl}
use Rattle.rc_report.specs.Checks.{TellsVerdict}
use Rattle.rc_report.proofs.Answered.{answers_begun, answers_nothing, answers_written}
use Rattle.rc_report.proofs.check_engine.check_bytes.Goals as goal

pub returns-in_err-verdict : goal.returns-in_err-verdict
returns-in_err-verdict g c =
    answers_nothing (TellsVerdict None c.args.text.now c.args.json) g.W.Sink.state c.args.writer.now c.args.writer.now c.from_residual.result c.from_residual.ensures.1 refl

pub returns-in_err-write_piece : goal.returns-in_err-write_piece
returns-in_err-write_piece g c =
    answers_begun (TellsVerdict None c.args.text.now c.args.json) g.W.Sink.state c.args.writer.now c.write_piece.new.writer c.in_ok-verdict.verdict _ _ _
    c.from_residual-in_err-write_piece.result c.from_residual-in_err-write_piece.ensures.1 c.new-answer.ensures.items c.in_ok-verdict.ensures
    (rw c.deref.ensures.value at c.in_err-write_piece.ensures)

pub returns : goal.returns
returns g c =
    answers_written (TellsVerdict None c.args.text.now c.args.json) g.W.Sink.state c.args.writer.now c.write_piece.new.writer c.in_ok-verdict.verdict _ _
    c.new-answer.ensures.items c.in_ok-verdict.ensures (rw c.deref.ensures.value at c.in_ok-write_piece.ensures)
