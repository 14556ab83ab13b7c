use Rattle.std.proofs.Common.{◌∙◌, sym, ap, subst, List}
use Rattle.rc_lang.specs.Program.{Program}
use Rattle.rc_follow.specs.Ways.{Way}
use Rattle.rc_follow.specs.Searches.{AsksIn}
use Rattle.std.proofs.Common.{take, ◌+◌, arith, length}
use Rattle.std.proofs.lemmas.List.{take_all}
use Rattle.std.specs.Prelude.{All}
use Rattle.std.proofs.lemmas.List.Elements.{All-more}
use Rattle.rc_follow.proofs.search.stay.Goals as goal

pub loop-node-preserved : goal.loop-node-preserved
loop-node-preserved c = record {
  same = c.stays.ensures.same ∙ c.loop-node.invariant.same;
  asks = subst (λ (xs : List Way). All (AsksIn c.args.rights.now c.args.ground.noted.now c.args.ground.thread c.args.ground.call) (take (c.loop-node.node-index + 1) xs)) c.deref-node-items.ensures.value
      (All-more (AsksIn c.args.rights.now c.args.ground.noted.now c.args.ground.thread c.args.ground.call) c.deref-node-items.result.now c.loop-node.node-index c.node-item.result c.loop-node-test.true
      (subst (λ (xs : List Way). All (AsksIn c.args.rights.now c.args.ground.noted.now c.args.ground.thread c.args.ground.call) (take c.loop-node.node-index xs)) (sym c.deref-node-items.ensures.value) c.loop-node.invariant.asks)
      (subst (λ (v : Way). AsksIn c.args.rights.now c.args.ground.noted.now c.args.ground.thread c.args.ground.call v) c.node-item.is (subst (λ (Q : Program). AsksIn Q c.args.ground.noted.now c.args.ground.thread c.args.ground.call c.node-item.result) c.loop-node.invariant.same (c.in_ok-stays.ensures.asks (cc)))));
}

pub returns-then-not-is_empty-clause-asks : goal.returns-then-not-is_empty-clause-asks
returns-then-not-is_empty-clause-asks c h =
    subst (λ (xs : List Way). All (AsksIn c.args.rights.now c.args.ground.noted.now c.args.ground.thread c.args.ground.call) xs) (take_all c.loop-node.node-index c.args.ground.begun.now.items (omega (arith, ap length c.deref-node-items.ensures.value, c.loop-node-test.false))) c.loop-node.invariant.asks
