use Rattle.std.proofs.Common.{◌≡◌, ◌≤◌, take}
use Rattle.std.specs.Prelude.{sum}
use Rattle.rc_runs.proofs.spelling.move_of_item.Given as goal

abbrev pub invariant-loop-place : goal.invariant-loop-place
invariant-loop-place l = record { before : l.before ≡ sum (take l.place l.counts); within : l.before ≤ l.item }
