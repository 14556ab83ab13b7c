use Rattle.rc_text.proofs.Texts.{puts_after}
use Rattle.rc_runs.proofs.found.put_search.Goals as goal

pub returns-in_ok-put_heading-in-Some : goal.returns-in_ok-put_heading-in-Some
returns-in_ok-put_heading-in-Some c =
    let trace = rw c.as_bytes.ensures.value at c.put_piece.ensures in
    rw c.in-Some.is (puts_after c.args.text.now c.put_heading.new.text c.put_piece.new.text _ _ c.put_piece.result c.in_ok-put_heading-in-Some.ensures trace)

pub returns-in-None : goal.returns-in-None
returns-in-None c =
    let number = rw c.from.ensures at c.put_counted.ensures in
    rw c.in-None.is number
