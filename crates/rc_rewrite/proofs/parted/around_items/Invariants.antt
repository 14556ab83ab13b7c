use Rattle.rc_rewrite.proofs.Cuts.{NoneShorter}
use Rattle.rc_rewrite.proofs.parted.around_items.Given as goal

abbrev pub invariant-loop-end : goal.invariant-loop-end
invariant-loop-end l = NoneShorter l.line l.end
