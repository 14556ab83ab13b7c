use Rattle.std.proofs.Common.{◌∙◌, sym, subst, List, refl}
use Rattle.rc_lang.specs.Program.{Program}
use Rattle.rc_follow.specs.Ways.{Way}
use Rattle.rc_follow.specs.Searches.{Visits}
use Rattle.rc_follow.proofs.Added.{leads_none}
use Rattle.std.proofs.Common.{[], get_or}
use Rattle.std.specs.Prelude.{All, Contains, IfSome}
use Rattle.std.proofs.lemmas.List.Elements.{All-nil, All-pop, All-same, Contains-get_or}
use Rattle.rc_follow.specs.declared.kept.Found.{Found}
use Rattle.rc_follow.specs.Follower.{ComesBy, ComesFrom}
use Rattle.rc_follow.proofs.Added.{all_of, found_more, todo_more}
use Rattle.rc_follow.proofs.search.search.Goals as goal

pub loop-node-init : goal.loop-node-init
loop-node-init c = record {
  same = refl;
  found = All-same (ComesBy c.args.rights.now c.args.ground.noted.now c.args.ground.begun.now.items c.args.ground.thread c.args.ground.call) c.begin.new.found.worlds.items [] c.in_ok-begin.ensures.worlds (All-nil (ComesBy c.args.rights.now c.args.ground.noted.now c.args.ground.begun.now.items c.args.ground.thread c.args.ground.call));
  todo = All-same (ComesFrom c.args.ground.noted.now c.args.ground.begun.now.items) c.begin.new.found.todo.items [] c.in_ok-begin.ensures.todo (All-nil (ComesFrom c.args.ground.noted.now c.args.ground.begun.now.items));
}

pub loop-node-preserved : goal.loop-node-preserved
loop-node-preserved c =
    let there : Contains c.args.ground.begun.now.items c.node-item.result =
    subst (λ (v : Way). Contains c.args.ground.begun.now.items v) (sym c.node-item.is)
    (subst (λ (xs : List Way). Contains xs (get_or c.deref-node-items.result.now c.loop-node.node-index c.node-item.result)) c.deref-node-items.ensures.value
    (Contains-get_or c.deref-node-items.result.now c.loop-node.node-index c.node-item.result c.loop-node-test.true)) in
    let from : ComesFrom c.args.ground.noted.now c.args.ground.begun.now.items c.node-item.result = (c.node-item.result, there, leads_none c.args.ground.noted.now c.node-item.result) in
    let visits : Visits c.args.rights.now c.args.ground.noted.now c.node-item.result c.args.ground.thread c.args.ground.call c.loop-node.found c.visit_first.new.found =
    subst (λ (Q : Program). Visits Q c.args.ground.noted.now c.node-item.result c.args.ground.thread c.args.ground.call c.loop-node.found c.visit_first.new.found) c.loop-node.invariant.same c.in_ok-visit_first.ensures.visits in
    record {
      same = c.visit_first.ensures.same ∙ c.loop-node.invariant.same;
      found = found_more c.args.rights.now c.args.ground.noted.now c.args.ground.begun.now.items c.node-item.result c.args.ground.thread c.args.ground.call c.loop-node.found c.visit_first.new.found from visits c.loop-node.invariant.found;
      todo = todo_more c.args.rights.now c.args.ground.noted.now c.args.ground.begun.now.items c.node-item.result c.args.ground.thread c.args.ground.call c.loop-node.found c.visit_first.new.found from visits c.loop-node.invariant.todo;
    }

pub loop-visit-preserved : goal.loop-visit-preserved
loop-visit-preserved c =
    let both : All (ComesFrom c.args.ground.noted.now c.args.ground.begun.now.items) c.pop.new.self.items × IfSome c.pop.result (ComesFrom c.args.ground.noted.now c.args.ground.begun.now.items) = All-pop (ComesFrom c.args.ground.noted.now c.args.ground.begun.now.items) c.loop-visit.found.todo.items c.pop.new.self.items c.pop.result c.pop.ensures.items c.loop-visit.invariant.todo in
    let from : ComesFrom c.args.ground.noted.now c.args.ground.begun.now.items c.in-Some.node = rw c.in-Some.is at both.1 in
    let left : Found = record { worlds = c.loop-visit.found.worlds; is_step = c.loop-visit.found.is_step; todo = c.pop.new.self } in
    let visits : Visits c.args.rights.now c.args.ground.noted.now c.in-Some.node c.args.ground.thread c.args.ground.call left c.visit.new.found =
    subst (λ (Q : Program). Visits Q c.args.ground.noted.now c.in-Some.node c.args.ground.thread c.args.ground.call left c.visit.new.found) c.loop-visit.invariant.same c.in_ok-visit.ensures.visits in
    record {
      same = c.visit.ensures.same ∙ c.loop-visit.invariant.same;
      found = found_more c.args.rights.now c.args.ground.noted.now c.args.ground.begun.now.items c.in-Some.node c.args.ground.thread c.args.ground.call left c.visit.new.found from visits c.loop-visit.invariant.found;
      todo = todo_more c.args.rights.now c.args.ground.noted.now c.args.ground.begun.now.items c.in-Some.node c.args.ground.thread c.args.ground.call left c.visit.new.found from visits both.0;
    }

pub returns-in_default-clause-found : goal.returns-in_default-clause-found
returns-in_default-clause-found c =
    λ _. all_of (ComesBy c.args.rights.now c.args.ground.noted.now c.args.ground.begun.now.items c.args.ground.thread c.args.ground.call) c.loop-visit.found.worlds.items c.drop_covered.new.worlds.items c.in_ok-drop_covered.ensures c.loop-visit.invariant.found
