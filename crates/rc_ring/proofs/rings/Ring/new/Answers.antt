use Rattle.rc_ring.proofs.Lists.{IsPowerOfTwo-twice}
use Rattle.rc_ring.proofs.rings.Ring.new.Goals as goal

pub with_cq-requires-clause-cq_power : goal.with_cq-requires-clause-cq_power
with_cq-requires-clause-cq_power c = IsPowerOfTwo-twice c.args.entries c.requires.power
