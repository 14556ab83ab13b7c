use Rattle.std.proofs.Common.{sym}
use Rattle.rc_runs.proofs.Words.{puts_three}
use Rattle.rc_runs.proofs.stuck_text.put_heading.Goals as goal

pub returns-then-is_empty : goal.returns-then-is_empty
returns-then-is_empty c =
    let number = rw c.from-walks.ensures at c.put_counted.ensures in
    rw (sym c.if-is_empty.ensures) number

pub returns : goal.returns
returns c =
    let number = rw c.from-walks.ensures at c.in_ok-put_counted.ensures in
    let events = rw c.len.ensures at c.in_ok-put_number.ensures in
    let moves = rw c.as_bytes.ensures.value at c.put_pieces.ensures in
    rw (sym c.if-is_empty.ensures)
    (puts_three c.args.text.now c.put_counted-2.new.text c.put_number.new.text c.put_pieces.new.text _ _ _ c.put_pieces.result number events moves)
