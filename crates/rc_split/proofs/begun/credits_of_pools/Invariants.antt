use Rattle.std.proofs.Common.{◌≡◌, take}
use Rattle.std.specs.List.{sum_by}
use Rattle.rc_split.proofs.Given.{stock_with}
use Rattle.rc_split.proofs.begun.credits_of_pools.Given as goal

-- what those so far begin with
abbrev pub invariant-loop-line : goal.invariant-loop-line
invariant-loop-line l = l.given ≡ sum_by stock_with (take l.line-index l.lines)
