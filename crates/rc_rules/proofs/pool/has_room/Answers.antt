use Rattle.std.proofs.Common.{true, false, refl, sym, ◌∙◌}
use Rattle.rc_lang.specs.Parts.{view_items}
use Rattle.rc_split.specs.Holdings.{bag}
use Rattle.rc_rules.proofs.Room.{room_is}
use Rattle.rc_rules.proofs.pool.has_room.Goals as goal

pub returns-then-not-shares_fit : goal.returns-then-not-shares_fit
returns-then-not-shares_fit c = room_is c.args.holding.now.program (bag c.args.holding.now) (view_items c.args.items.now) c.requires c.deref.result.now _ false _ _ c.deref.ensures.value refl (sym c.if-not-shares_fit.true ∙ c.shares_fit.ensures) refl refl

pub returns-then-not-tokens_fit : goal.returns-then-not-tokens_fit
returns-then-not-tokens_fit c = room_is c.args.holding.now.program (bag c.args.holding.now) (view_items c.args.items.now) c.requires c.deref.result.now c.deref-2.result.now true false _ c.deref.ensures.value c.deref-2.ensures.value (sym c.if-not-shares_fit.false ∙ c.shares_fit.ensures) (sym c.if-not-tokens_fit.true ∙ c.tokens_fit.ensures) refl

pub returns : goal.returns
returns c = room_is c.args.holding.now.program (bag c.args.holding.now) (view_items c.args.items.now) c.requires c.deref.result.now c.deref-2.result.now true true c.credits_fit.result c.deref.ensures.value c.deref-2.ensures.value (sym c.if-not-shares_fit.false ∙ c.shares_fit.ensures) (sym c.if-not-tokens_fit.false ∙ c.tokens_fit.ensures) c.credits_fit.ensures
