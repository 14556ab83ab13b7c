use Rattle.std.proofs.Common.{◌≡◌, ◌^◌, true, sym, ◌∙◌, arith}
use Rattle.rc_lang.specs.Parts.{view_items}
use Rattle.rc_split.specs.Holdings.{bag}
use Rattle.rc_rules.specs.Rules.{can_take}
use Rattle.rc_rules.proofs.Room.{with_few, with_once}
use Rattle.rc_rules.proofs.pool.take.Goals as goal

pub gain-requires-clause-once : goal.gain-requires-clause-once
gain-requires-clause-once c =
    let e : can_take c.args.holding.now.program (bag c.args.holding.now) c.args.mode (view_items c.args.items.now) ≡ true = sym c.can_take.ensures.answer ∙ c.if-not-can_take.false in
    with_once c.args.holding.now (view_items c.args.items.now) c.args.mode c.requires.made e

pub gain-requires-clause-small : goal.gain-requires-clause-small
gain-requires-clause-small c = λ p.
    let e : can_take c.args.holding.now.program (bag c.args.holding.now) c.args.mode (view_items c.args.items.now) ≡ true = sym c.can_take.ensures.answer ∙ c.if-not-can_take.false in
    let l = with_few c.args.holding.now.program (bag c.args.holding.now) (view_items c.args.items.now) c.requires.made c.can_take.ensures.made c.args.mode e (2 ^ 19) (omega arith) p (c.requires.small p) in
    omega (arith, l)
