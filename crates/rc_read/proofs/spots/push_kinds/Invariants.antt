use Rattle.std.proofs.Common.{◌≡◌, ◌++◌, drop}
use Rattle.rc_read.specs.Spots as spec
use Rattle.rc_read.specs.Texts.{texts_of, view_spots}
use Rattle.rc_read.specs.declared.table.Part.TheVariants.{KindWord}
use Rattle.rc_read.proofs.spots.push_kinds.Given as goal

abbrev pub invariant-loop-word : goal.invariant-loop-word
invariant-loop-word l = record {
  are : spec.are_kinds l.part (texts_of (drop l.word-index l.words)) ≡ spec.are_kinds KindWord (texts_of l.words);
  spots : view_spots l.spots.items ++ spec.spots_of_kinds l.part (texts_of (drop l.word-index l.words)) ≡ view_spots l.initial.spots.items ++ spec.spots_of_kinds KindWord (texts_of l.words);
}
