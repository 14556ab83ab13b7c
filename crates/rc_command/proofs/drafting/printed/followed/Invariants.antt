use Rattle.std.proofs.Common.{◌≡◌, ◌≤◌, take}
use Rattle.rc_command.specs.Drafting.{followed}
use Rattle.rc_command.proofs.drafting.printed.followed.Given as goal

abbrev pub invariant-loop-end : goal.invariant-loop-end
invariant-loop-end l = record { count : l.count ≡ followed (take l.end-index l.ends); bound : l.count ≤ l.end-index }
