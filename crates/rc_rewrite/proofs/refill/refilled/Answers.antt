use Rattle.rc_rewrite.proofs.Lines.{last_line, one_line_more}
use Rattle.rc_rewrite.proofs.refill.refilled.Goals as goal

pub loop-line-preserved : goal.loop-line-preserved
loop-line-preserved c =
    let put = c.in_ok-put_line.ensures in
    one_line_more c.args.source.now c.loop-line.rest.now c.in-Some.line.now c.in-Some.after.now c.loop-line.text.items c.put_line.new.text.items c.put_piece.new.text.items put.0
    c.in-Some.ensures put.1 put.2 c.in_ok-put_piece.ensures c.loop-line.invariant

pub returns : goal.returns
returns c =
    let put = c.in_ok-put_line-2.ensures in
    last_line c.args.source.now c.loop-line.rest.now c.loop-line.text.items c.put_line-2.new.text.items put.0 c.in_default.ensures put.1 put.2 c.loop-line.invariant
