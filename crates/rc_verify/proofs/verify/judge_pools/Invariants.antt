use Rattle.std.specs.Prelude.{◌≤◌, length}
use Rattle.rc_split.specs.Holdings.{Holds}
use Rattle.rc_rules.specs.Labellings.{given_to_pools, pool_asks}
use Rattle.rc_rules.specs.Premises.{Meets}
use Rattle.rc_verify.proofs.verify.judge_pools.Given as goal

-- the lines so far give together at most what there is, and this is held
abbrev pub invariant-loop-line : goal.invariant-loop-line
invariant-loop-line l = record { few : l.line ≤ length l.lines; held : Holds l.held l.program (given_to_pools l.program l.line); passed : Meets (pool_asks l.program l.line) }
