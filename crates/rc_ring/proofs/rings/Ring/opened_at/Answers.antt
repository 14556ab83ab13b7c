use Rattle.rc_ring.proofs.Lists.{IsPowerOfTwo-twice}
use Rattle.rc_ring.proofs.rings.Ring.opened_at.Goals as goal

pub opened_at-completions-requires-clause-power : goal.opened_at-completions-requires-clause-power
opened_at-completions-requires-clause-power c = IsPowerOfTwo-twice c.args.entries c.requires.power
