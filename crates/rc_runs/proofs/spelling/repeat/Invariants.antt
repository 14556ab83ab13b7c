use Rattle.std.proofs.Common.{◌≤◌, length}
use Rattle.rc_runs.specs.Repeats.{is_there}
use Rattle.rc_runs.proofs.Repeats.{IsAlong}
use Rattle.rc_runs.proofs.spelling.repeat.Given as goal

abbrev pub decreases-loop-left : goal.decreases-loop-left
decreases-loop-left l = l.left

abbrev pub invariant-loop-left : goal.invariant-loop-left
invariant-loop-left l = record {
  along : IsAlong (is_there l.goal) l.item l.fn.world l.fn.items.items l.most l.world l.items.items l.left;
  made : l.world.made ≤ length l.items.items;
}
