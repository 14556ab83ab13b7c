use Rattle.std.proofs.Common.{◌≡◌}
use Rattle.std.specs.Prelude.{All}
use Rattle.rc_follow.specs.Follower.{ComesBy, ComesFrom}
use Rattle.rc_follow.proofs.search.search.Given as goal

abbrev pub invariant-loop-node : goal.invariant-loop-node
invariant-loop-node l = record {
  same : l.rights ≡ l.fn.rights;
  found : All (ComesBy l.fn.rights l.fn.ground.noted.now l.fn.ground.begun.now.items l.fn.ground.thread l.fn.ground.call) l.found.worlds.items;
  todo : All (ComesFrom l.fn.ground.noted.now l.fn.ground.begun.now.items) l.found.todo.items;
}

abbrev pub invariant-loop-visit : goal.invariant-loop-visit
invariant-loop-visit l = record {
  same : l.rights ≡ l.fn.rights;
  found : All (ComesBy l.fn.rights l.fn.ground.noted.now l.fn.ground.begun.now.items l.fn.ground.thread l.fn.ground.call) l.found.worlds.items;
  todo : All (ComesFrom l.fn.ground.noted.now l.fn.ground.begun.now.items) l.found.todo.items;
}
