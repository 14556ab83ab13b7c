use Rattle.rc_report.proofs.Pieces.{next_stops, pieces_cut}
use Rattle.rc_report.proofs.writing.write_pieces.Goals as goal

pub returns-in_err-write_piece : goal.returns-in_err-write_piece
returns-in_err-write_piece g c =
    next_stops _ _ _ _ _ _ _ _ _ c.from_residual.result (pieces_cut (λ p. p.now) c.args.pieces.now c.loop-piece.piece-index _ c.loop-piece-test.true)
    c.loop-piece.invariant c.from_residual.ensures.1 c.in_err-write_piece.ensures
