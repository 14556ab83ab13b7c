use Rattle.std.proofs.Common.{arith}
use Rattle.rc_lang.specs.Parts.{view_items}
use Rattle.rc_split.specs.Bags.{TokenOf}
use Rattle.rc_split.specs.Holdings.{bag}
use Rattle.rc_split.proofs.Held.{declared, first_few, both_few}
use Rattle.rc_split.proofs.holding.Holding.hold_on.Goals as goal

pub give_parts-requires-clause-names : goal.give_parts-requires-clause-names
give_parts-requires-clause-names c = declared c.args.self.now.program _ (view_items c.args.items.now) c.args.zero _ _ c.clear.ensures.of c.deref.ensures.value c.deref-2.ensures.value c.requires.names

pub give_parts-requires-clause-once : goal.give_parts-requires-clause-once
give_parts-requires-clause-once c = λ u. first_few (view_items c.args.items.now) c.args.zero _ _ (bag c.clear.new.self) (TokenOf u) 1 c.deref.ensures.value c.deref-2.ensures.value (c.clear.ensures.each (TokenOf u)) (c.requires.once u)

pub give_parts-requires-clause-small : goal.give_parts-requires-clause-small
give_parts-requires-clause-small c = λ p.
    let few = first_few (view_items c.args.items.now) c.args.zero c.deref.result.now c.deref-2.result.now (bag c.clear.new.self) p 1048575 c.deref.ensures.value c.deref-2.ensures.value (c.clear.ensures.each p) (let s = c.requires.small p in omega (arith, s)) in
    omega (arith, few)

pub give_parts-requires-then-not-zero-clause-once : goal.give_parts-requires-then-not-zero-clause-once
give_parts-requires-then-not-zero-clause-once c = λ u.
    both_few (view_items c.args.items.now) c.args.zero _ _ _ _ (bag c.clear.new.self) (bag c.give_parts.new.self) (TokenOf u) 1 c.if-not-zero.true c.deref.ensures.value c.deref-2.ensures.value c.deref-then-not-zero.ensures.value c.deref-then-not-zero-2.ensures.value (c.clear.ensures.each (TokenOf u)) (c.give_parts.ensures.each (TokenOf u)) (c.requires.once u)

pub give_parts-requires-then-not-zero-clause-small : goal.give_parts-requires-then-not-zero-clause-small
give_parts-requires-then-not-zero-clause-small c = λ p.
    let few = both_few (view_items c.args.items.now) c.args.zero _ c.deref-then-not-zero.result.now _ c.deref-then-not-zero-2.result.now (bag c.clear.new.self) (bag c.give_parts.new.self) p 1048575 c.if-not-zero.true c.deref.ensures.value c.deref-2.ensures.value c.deref-then-not-zero.ensures.value c.deref-then-not-zero-2.ensures.value (c.clear.ensures.each p) (c.give_parts.ensures.each p) (let s = c.requires.small p in omega (arith, s)) in
    omega (arith, few)
