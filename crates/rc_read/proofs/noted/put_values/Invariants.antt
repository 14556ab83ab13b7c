use Rattle.std.proofs.Common.{◌≡◌, ◌++◌, ◌||◌, drop}
use Rattle.rc_read.specs.Judging.{AddsNames}
use Rattle.rc_read.specs.Sentences as sentences
use Rattle.rc_read.specs.Sheets.{with_names}
use Rattle.rc_read.specs.Texts.{view_spots}
use Rattle.rc_read.specs.Values as spec
use Rattle.rc_read.specs.View.{view_sheet}
use Rattle.rc_read.proofs.noted.put_values.Given as goal

abbrev pub invariant-loop-spot : goal.invariant-loop-spot
invariant-loop-spot l = record {
  names : AddsNames (view_sheet l.initial.parts) (view_sheet l.parts);
  sheet : with_names (view_sheet l.parts) (view_spots (drop l.spot-index l.spots)) ≡ with_names (view_sheet l.initial.parts) (view_spots l.spots);
  values : l.values.items ++ spec.values_of (with_names (view_sheet l.initial.parts) (view_spots l.spots)) l.noted.seen (view_spots (drop l.spot-index l.spots)) ≡ spec.values_of (with_names (view_sheet l.initial.parts) (view_spots l.spots)) spec.start (view_spots l.spots);
  items : l.items.items ++ spec.items_in (spec.values_of (with_names (view_sheet l.initial.parts) (view_spots l.spots)) l.noted.seen (view_spots (drop l.spot-index l.spots))) ≡ spec.items_in (spec.values_of (with_names (view_sheet l.initial.parts) (view_spots l.spots)) spec.start (view_spots l.spots));
  lacks : spec.any_lacks (with_names (view_sheet l.initial.parts) (view_spots l.spots)) l.noted.seen (view_spots (drop l.spot-index l.spots)) ≡ spec.any_lacks (with_names (view_sheet l.initial.parts) (view_spots l.spots)) spec.start (view_spots l.spots);
  unknown : (l.noted.wrong.unknown || sentences.any_unknown (with_names (view_sheet l.initial.parts) (view_spots l.spots)) (view_spots (drop l.spot-index l.spots))) ≡ sentences.any_unknown (with_names (view_sheet l.initial.parts) (view_spots l.spots)) (view_spots l.spots);
  double : (l.noted.wrong.double || sentences.any_double (with_names (view_sheet l.initial.parts) (view_spots l.spots)) (view_spots (drop l.spot-index l.spots))) ≡ sentences.any_double (with_names (view_sheet l.initial.parts) (view_spots l.spots)) (view_spots l.spots);
  full : (l.noted.wrong.full || sentences.any_full (with_names (view_sheet l.initial.parts) (view_spots l.spots)) (view_spots (drop l.spot-index l.spots))) ≡ sentences.any_full (with_names (view_sheet l.initial.parts) (view_spots l.spots)) (view_spots l.spots);
}
