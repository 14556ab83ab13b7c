use Rattle.std.proofs.Common.{◌≡◌, ◌+◌, ◌++◌, drop}
use Rattle.rc_read.specs.Quick as quick
use Rattle.rc_read.specs.Spots as spec
use Rattle.rc_read.specs.Texts.{texts_of, view_spots}
use Rattle.rc_read.proofs.spots.push_items.Given as goal

abbrev pub invariant-loop-i : goal.invariant-loop-i
invariant-loop-i l = record {
  value : l.i + quick.items_in_front (texts_of (drop l.i l.words)) ≡ quick.items_in_front (texts_of l.words);
  spots : view_spots l.spots.items ++ spec.spots_of_items (texts_of (drop l.i l.words)) ≡ view_spots l.initial.spots.items ++ spec.spots_of_items (texts_of l.words);
}
