use Rattle.std.proofs.Common.{◌≡◌, ◌++◌, drop}
use Rattle.rc_command.specs.Drafting.{end_lines}
use Rattle.rc_command.proofs.drafting.printed.put_ends.Given as goal

abbrev pub invariant-loop-end : goal.invariant-loop-end
invariant-loop-end l = l.told.items ++ end_lines (drop l.end-index l.ends) ≡ l.fn.told.items ++ end_lines l.ends
