use Rattle.rc_rewrite.proofs.LaidOut.{all_indented, no_blanks, one_blank_more}
use Rattle.rc_rewrite.proofs.format.put_indented.Goals as goal

pub loop-init : goal.loop-init
loop-init c = no_blanks _

pub loop-preserved : goal.loop-preserved
loop-preserved c = one_blank_more _ _ _ c.in_ok-push.ensures.items c.loop.invariant

pub returns : goal.returns
returns c = all_indented _ _ _ _ c.loop.invariant c.in_ok-put_piece.ensures
