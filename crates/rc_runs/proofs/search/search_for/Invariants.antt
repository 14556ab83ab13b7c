use Rattle.std.proofs.Common.{◌≡◌}
use Rattle.rc_runs.proofs.search.search_for.Given as goal

abbrev pub invariant-loop-number : goal.invariant-loop-number
invariant-loop-number l = l.made ≡ l.number
