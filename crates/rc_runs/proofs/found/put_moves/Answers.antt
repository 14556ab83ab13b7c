use Rattle.std.proofs.Common.{sym}
use Rattle.rc_runs.proofs.Words.{puts_three}
use Rattle.rc_runs.proofs.found.put_moves.Goals as goal

pub returns-then-is_empty : goal.returns-then-is_empty
returns-then-is_empty c =
    let number = rw c.from-walks.ensures at c.put_counted.ensures in
    rw (sym c.if-is_empty.ensures) number

pub returns : goal.returns
returns c =
    let number = rw c.from-walks.ensures at c.in_ok-put_counted.ensures in
    let moves = rw c.as_bytes.ensures.value at c.in_ok-put_piece.ensures in
    rw (sym c.if-is_empty.ensures)
    (puts_three c.args.text.now c.put_counted-2.new.text c.put_piece.new.text c.put_piece-2.new.text _ _ _ c.put_piece-2.result number moves c.put_piece-2.ensures)
