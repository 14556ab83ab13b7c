use Rattle.std.proofs.Common.{◌∙◌, arith, subst, sym}
use Rattle.rc_lang.specs.Parts.{view_items}
use Rattle.rc_split.specs.Bags.{TokenOf, bag_of}
use Rattle.rc_split.specs.Holdings.{AreDeclared, bag}
use Rattle.rc_verify.proofs.Sums.{none_left, one_less}
use Rattle.rc_verify.proofs.headers.gain_copies.Goals as goal

pub gain-requires-clause-names : goal.gain-requires-clause-names
gain-requires-clause-names c = subst (λ P. AreDeclared P (view_items c.args.items.now)) (sym c.loop-left.invariant.of) c.requires.names

pub gain-requires-clause-once : goal.gain-requires-clause-once
gain-requires-clause-once c = λ u. omega (arith, c.requires.once u, c.loop-left.invariant.each (TokenOf u), one_less c.loop-left.left (bag_of (view_items c.args.items.now) (TokenOf u)) (omega (arith, c.loop-left-test.true)))

pub gain-requires-clause-small : goal.gain-requires-clause-small
gain-requires-clause-small c = λ p. omega (arith, c.requires.small p, c.loop-left.invariant.each p, one_less c.loop-left.left (bag_of (view_items c.args.items.now) p) (omega (arith, c.loop-left-test.true)))

pub loop-left-preserved : goal.loop-left-preserved
loop-left-preserved c = record {
  few = omega (arith, c.loop-left.invariant.few);
  of = c.gain.ensures.of ∙ c.loop-left.invariant.of;
  each = λ p. omega (arith, c.gain.ensures.each p, c.loop-left.invariant.each p, one_less c.loop-left.left (bag_of (view_items c.args.items.now) p) (omega (arith, c.loop-left-test.true)));
}

pub returns : goal.returns
returns c = record { of = c.loop-left.invariant.of; each = λ p. none_left c.loop-left.left (bag c.loop-left.held p) (bag_of (view_items c.args.items.now) p) _ (omega (arith, c.loop-left-test.false)) (c.loop-left.invariant.each p) }
