use Rattle.std.proofs.Common.{rules}
use Rattle.rc_log.proofs.Lists.{place_of_pool}
use Rattle.rc_log.proofs.parts.pool_of.Goals as goal

pub returns-then-is_name : goal.returns-then-is_name
returns-then-is_name c =
    let e = place_of_pool c.pools.result.now c.args.program.now.pools c.args.word.now c.pools.ensures.value in
    let k = c.place_of_pool.ensures in
    search rules
