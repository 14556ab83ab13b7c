use Rattle.rc_index.proofs.Counters.{masked_is}
use Rattle.rc_index.proofs.Indices.masked.Goals as goal

pub returns : goal.returns
returns c = masked_is _ _ _ _ c.self.invariant c.self.view_is c.args.counter
