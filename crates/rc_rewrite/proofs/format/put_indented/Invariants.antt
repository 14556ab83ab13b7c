use Rattle.rc_rewrite.proofs.LaidOut.{HasBlanks}
use Rattle.rc_rewrite.proofs.format.put_indented.Given as goal

abbrev pub invariant-loop : goal.invariant-loop
invariant-loop l = HasBlanks l.initial.text.items l.text.items
