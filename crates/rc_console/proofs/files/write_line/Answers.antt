use Rattle.std.proofs.Common.{refl}
use Rattle.rc_report.proofs.Pieces.{first_stops, next_stops, writes_both}
use Rattle.rc_console.proofs.files.write_line.Goals as goal

pub returns-in_err-write_piece : goal.returns-in_err-write_piece
returns-in_err-write_piece g c = first_stops _ _ _ _ _ _ c.from_residual.result c.from_residual.ensures.1 c.in_err-write_piece.ensures

pub returns-in_err-write_shown : goal.returns-in_err-write_shown
returns-in_err-write_shown g c =
    next_stops _ _ _ _ _ _ _ _ _ c.from_residual-in_err-write_shown.result refl c.in_ok-write_piece.ensures
    c.from_residual-in_err-write_shown.ensures.1 c.in_err-write_shown.ensures

pub returns : goal.returns
returns g c =
    let r = c.write_pieces.result in
    writes_both _ _ _ _ _ _ r c.in_ok-write_piece.ensures
    (writes_both _ _ _ _ _ _ r c.in_ok-write_shown.ensures (rw c.as_bytes.ensures.value at c.write_pieces.ensures))
