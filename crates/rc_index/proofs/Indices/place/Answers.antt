use Rattle.std.proofs.Common.{arith}
use Rattle.rc_index.proofs.Counters.{place_is}
use Rattle.rc_index.proofs.Indices.place.Goals as goal

pub returns : goal.returns
returns c =
    place_is _ _ _ _ c.self.invariant c.self.view_is c.args.i c.masked.result (omega arith) c.masked.ensures
