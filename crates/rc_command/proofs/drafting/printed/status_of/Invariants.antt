use Rattle.std.proofs.Common.{◌≡◌, ◌≤◌, take}
use Rattle.rc_command.specs.Drafting.{statuses}
use Rattle.rc_command.proofs.drafting.printed.status_of.Given as goal

abbrev pub invariant-loop-end : goal.invariant-loop-end
invariant-loop-end l = record { status : l.status ≡ statuses (take l.end-index l.ends); bound : l.status ≤ 3 }
