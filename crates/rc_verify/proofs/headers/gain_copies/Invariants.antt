use Rattle.std.proofs.Common.{◌≡◌, ◌+◌, ◌*◌, ◌≤◌}
use Rattle.rc_lang.specs.Parts.{view_items}
use Rattle.rc_split.specs.Bags.{Part, bag_of}
use Rattle.rc_split.specs.Holdings.{bag}
use Rattle.rc_verify.proofs.headers.gain_copies.Given as goal

-- what is held and what is left to hold is what will be held
abbrev pub invariant-loop-left : goal.invariant-loop-left
invariant-loop-left l = record {
  few : l.left ≤ l.copies;
  of : l.held.program ≡ l.initial.held.program;
  each : (p : Part) → bag l.held p + l.left * bag_of (view_items l.items) p ≡ bag l.initial.held p + l.copies * bag_of (view_items l.items) p;
}

abbrev pub decreases-loop-left : goal.decreases-loop-left
decreases-loop-left l = l.left
