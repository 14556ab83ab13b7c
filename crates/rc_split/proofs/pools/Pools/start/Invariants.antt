use Rattle.std.proofs.Common.{◌≡◌, ◌*◌, ◌≤◌, drop, map}
use Rattle.rc_lang.specs.Parts.{view_stock}
use Rattle.rc_split.specs.Bags.{Part}
use Rattle.rc_split.specs.Pools.{all_pooled, start_pools}
use Rattle.rc_split.proofs.Starting.{with_lines}
use Rattle.rc_split.proofs.pools.Pools.start.Given as goal

-- what is to come of the lines that are left, and that there is little so far
abbrev pub invariant-loop-line : goal.invariant-loop-line
invariant-loop-line l = record {
  lines : with_lines l.program l.pools (drop l.line-index (map view_stock l.lines)) ≡ start_pools l.program;
  few : (p : Part) → all_pooled l.program l.pools p ≤ l.line-index * 2048;
}
