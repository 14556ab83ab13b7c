use Rattle.rc_report.proofs.Pieces.{first_stops, writes_both}
use Rattle.rc_report.proofs.printed.write_thread_line.Goals as goal

pub returns-in_err-write_piece : goal.returns-in_err-write_piece
returns-in_err-write_piece g c = first_stops _ _ _ _ _ _ c.from_residual.result c.from_residual.ensures.1 c.in_err-write_piece.ensures

pub returns-in_err-write_piece-2 : goal.returns-in_err-write_piece-2
returns-in_err-write_piece-2 g c =
    let r = c.from_residual-in_err-write_piece-2.result in
    writes_both _ _ _ _ _ _ r c.in_ok-write_piece.ensures (
    first_stops _ _ _ _ _ _ r c.from_residual-in_err-write_piece-2.ensures.1 c.in_err-write_piece-2.ensures)

pub returns-in_err-write_piece-3 : goal.returns-in_err-write_piece-3
returns-in_err-write_piece-3 g c =
    let r = c.from_residual-in_err-write_piece-3.result in
    writes_both _ _ _ _ _ _ r c.in_ok-write_piece.ensures (
    writes_both _ _ _ _ _ _ r c.in_ok-write_piece-2.ensures (
    first_stops _ _ _ _ _ _ r c.from_residual-in_err-write_piece-3.ensures.1 c.in_err-write_piece-3.ensures))

pub returns-in_err-write_piece-4 : goal.returns-in_err-write_piece-4
returns-in_err-write_piece-4 g c =
    let r = c.from_residual-in_err-write_piece-4.result in
    writes_both _ _ _ _ _ _ r c.in_ok-write_piece.ensures (
    writes_both _ _ _ _ _ _ r c.in_ok-write_piece-2.ensures (
    writes_both _ _ _ _ _ _ r c.in_ok-write_piece-3.ensures (
    first_stops _ _ _ _ _ _ r c.from_residual-in_err-write_piece-4.ensures.1 c.in_err-write_piece-4.ensures)))

pub returns-in_err-write_piece-5 : goal.returns-in_err-write_piece-5
returns-in_err-write_piece-5 g c =
    let r = c.from_residual-in_err-write_piece-5.result in
    writes_both _ _ _ _ _ _ r c.in_ok-write_piece.ensures (
    writes_both _ _ _ _ _ _ r c.in_ok-write_piece-2.ensures (
    writes_both _ _ _ _ _ _ r c.in_ok-write_piece-3.ensures (
    writes_both _ _ _ _ _ _ r c.in_ok-write_piece-4.ensures (
    first_stops _ _ _ _ _ _ r c.from_residual-in_err-write_piece-5.ensures.1 c.in_err-write_piece-5.ensures))))

pub returns-in_err-write_pieces : goal.returns-in_err-write_pieces
returns-in_err-write_pieces g c =
    let r = c.from_residual-in_err-write_pieces.result in
    writes_both _ _ _ _ _ _ r c.in_ok-write_piece.ensures (
    writes_both _ _ _ _ _ _ r c.in_ok-write_piece-2.ensures (
    writes_both _ _ _ _ _ _ r c.in_ok-write_piece-3.ensures (
    writes_both _ _ _ _ _ _ r c.in_ok-write_piece-4.ensures (
    writes_both _ _ _ _ _ _ r c.in_ok-write_piece-5.ensures (
    first_stops _ _ _ _ _ _ r c.from_residual-in_err-write_pieces.ensures.1 c.in_err-write_pieces.ensures)))))

pub returns : goal.returns
returns g c =
    let r = c.write_piece-6.result in
    writes_both _ _ _ _ _ _ r c.in_ok-write_piece.ensures (
    writes_both _ _ _ _ _ _ r c.in_ok-write_piece-2.ensures (
    writes_both _ _ _ _ _ _ r c.in_ok-write_piece-3.ensures (
    writes_both _ _ _ _ _ _ r c.in_ok-write_piece-4.ensures (
    writes_both _ _ _ _ _ _ r c.in_ok-write_piece-5.ensures (
    writes_both _ _ _ _ _ _ r c.in_ok-write_pieces.ensures (
    c.write_piece-6.ensures))))))
