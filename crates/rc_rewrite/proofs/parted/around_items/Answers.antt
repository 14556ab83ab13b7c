use Rattle.rc_rewrite.proofs.Cuts.{none_at_end, none_in_rest}
use Rattle.rc_rewrite.proofs.parted.around_items.Goals as goal

pub returns-in_err-items : goal.returns-in_err-items
returns-in_err-items c = rw c.from_residual.ensures (none_in_rest c.args.line.now c.loop-end.end c.loop-end.invariant c.in_err-items.ensures)

pub returns : goal.returns
returns c = none_at_end c.args.line.now c.loop-end.end c.loop-end.invariant c.loop-end-test.false
