use Rattle.std.proofs.Common.{◌-◌, length, drop, sym, ◌∙◌, arith, length-take, length-drop}
use Rattle.rc_read.specs.Spots.{matches, spots_of}
use Rattle.rc_read.specs.Texts.{texts_of, view_spots}
use Rattle.rc_read.proofs.Places.{stops, goes, adds, ends}
use Rattle.rc_read.proofs.spots.put_places.Goals as goal

pub returns-in_default-clause-matches : goal.returns-in_default-clause-matches
returns-in_default-clause-matches c =
    stops c.args.parts.now c.loop-part.part-index _ c.args.words.now c.loop-part.at (matches c.args.parts.now (texts_of c.args.words.now)) c.loop-part-test.true (sym c.in_default.is ∙ c.in_ok-taken.ensures.value) c.loop-part.invariant.matches

pub loop-part-preserved : goal.loop-part-preserved
loop-part-preserved c =
    let parts = c.args.parts.now in
    let i = c.loop-part.part-index in
    let words = c.args.words.now in
    let at = c.loop-part.at in
    let n = c.in-Some.count in
    record {
      within = omega (arith, c.loop-part.invariant.within, rw c.in-Some.is at c.in_ok-taken.ensures.within, length-take (length words - at) (drop at words), length-drop at words);
      matches = goes parts i _ words at n (matches parts (texts_of words)) c.loop-part-test.true (sym c.in-Some.is ∙ c.in_ok-taken.ensures.value) c.loop-part.invariant.matches;
      places = adds parts i _ words at n (view_spots c.loop-part.spots.items) (view_spots c.push_part.new.spots.items) (spots_of parts (texts_of words)) c.loop-part-test.true (sym c.in-Some.is ∙ c.in_ok-taken.ensures.value) (rw c.in-Some.is at c.in_ok-taken.ensures.spots) c.loop-part.invariant.places;
    }

pub returns-clause-matches : goal.returns-clause-matches
returns-clause-matches c =
    ends c.args.parts.now c.loop-part.part-index c.args.words.now c.loop-part.at (matches c.args.parts.now (texts_of c.args.words.now)) c.loop-part-test.false c.loop-part.invariant.within c.loop-part.invariant.matches
