use Rattle.std.proofs.Common.{◌≡◌, ◌≤◌, ◌++◌, length, drop}
use Rattle.rc_read.specs.Spots as spec
use Rattle.rc_read.specs.Texts.{texts_of, view_spots}
use Rattle.rc_read.proofs.spots.put_places.Given as goal

abbrev pub invariant-loop-part : goal.invariant-loop-part
invariant-loop-part l = record {
  within : l.at ≤ length l.words;
  matches : spec.matches (drop l.part-index l.parts) (texts_of (drop l.at l.words)) ≡ spec.matches l.parts (texts_of l.words);
  places : view_spots l.spots.items ++ spec.spots_of (drop l.part-index l.parts) (texts_of (drop l.at l.words)) ≡ spec.spots_of l.parts (texts_of l.words);
}
