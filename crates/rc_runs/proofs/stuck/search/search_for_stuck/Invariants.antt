use Rattle.std.proofs.Common.{◌≡◌}
use Rattle.rc_runs.proofs.stuck.search.search_for_stuck.Given as goal

abbrev pub invariant-loop-number : goal.invariant-loop-number
invariant-loop-number l = l.made ≡ l.number
