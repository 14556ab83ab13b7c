use Rattle.std.proofs.Common.{◌≡◌, ℕ, List, refl}
use Rattle.rc_console.proofs.Answers.{write_fault}
use Rattle.rc_console.proofs.output.write_answer.Goals as goal

pub returns-in_err-write_piece : goal.returns-in_err-write_piece
returns-in_err-write_piece g c =
    write_fault g.S.Sink.state c.args.sink.now c.write_piece.new.writer (λ (s : ℕ) (text : List ℕ). (s ≡ c.args.status) × (text ≡ c.args.answer.now)) c.args.answer.now _
    c.from_residual.result c.from_residual.ensures.1 c.in_err-write_piece.ensures

pub returns : goal.returns
returns g c = (c.args.answer.now, (refl, refl), c.in_ok-write_piece.ensures)
