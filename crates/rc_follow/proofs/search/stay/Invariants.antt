use Rattle.std.proofs.Common.{◌≡◌, take}
use Rattle.std.specs.Prelude.{All}
use Rattle.rc_follow.specs.Searches.{AsksIn}
use Rattle.rc_follow.proofs.search.stay.Given as goal

abbrev pub invariant-loop-node : goal.invariant-loop-node
invariant-loop-node l = record {
  same : l.rights ≡ l.fn.rights;
  asks : All (AsksIn l.fn.rights l.fn.ground.noted.now l.fn.ground.thread l.fn.ground.call) (take l.node-index l.fn.ground.begun.now.items);
}
