use Rattle.std.proofs.Common.{take}
use Rattle.rc_command.specs.Drafting.{AreUntried}
use Rattle.rc_command.proofs.drafting.trying.untried.Given as goal

abbrev pub invariant-loop-log : goal.invariant-loop-log
invariant-loop-log l = AreUntried (take l.log-index l.logs) l.ends.items
