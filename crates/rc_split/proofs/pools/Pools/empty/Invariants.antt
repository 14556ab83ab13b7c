use Rattle.std.proofs.Common.{◌≡◌, replicate}
use Rattle.rc_split.specs.Pools.{empty_pool}
use Rattle.rc_split.proofs.pools.Pools.empty.Given as goal

abbrev pub invariant-loop-step : goal.invariant-loop-step
invariant-loop-step l = l.named.items ≡ replicate l._step (empty_pool l.program)
