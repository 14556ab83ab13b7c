use Rattle.std.proofs.Common.{arith}
use Rattle.std.proofs.lemmas.List.{ext_get_or}
use Rattle.rc_split.specs.Pools.{no_pool}
use Rattle.rc_split.proofs.pools.copy_all.Goals as goal

pub returns-clause-same : goal.returns-clause-same
returns-clause-same c = ext_get_or no_pool c.loop-place.pools.items c.args.others.now c.loop-place.invariant.many (λ i lt. c.loop-place.invariant.done i (omega (arith, lt, c.loop-place.invariant.many, c.loop-place-test.false)))
