use Rattle.std.proofs.Common.{◌≡◌, ◌++◌, drop}
use Rattle.rc_command.specs.Unmade.{unmade_in}
use Rattle.rc_command.proofs.departures.unmade.push_unmade.Given as goal

abbrev pub invariant-loop-line : goal.invariant-loop-line
invariant-loop-line l =
    l.unmade.items ++ unmade_in l.fn.follower.reached (drop l.line-index l.fn.lines) ≡ l.fn.unmade.items ++ unmade_in l.fn.follower.reached l.fn.lines
