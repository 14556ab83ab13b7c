use Rattle.rc_ring.proofs.Lists.{queued_is, hold_entries}
use Rattle.rc_ring.proofs.rings.Ring.queued_sqe.Goals as goal

pub returns-in-None-clause-law : goal.returns-in-None-clause-law
returns-in-None-clause-law c = hold_entries _ _ _ _ _ _ _ c.self.invariant c.self.view_is

pub returns-in-Some-clause-law : goal.returns-in-Some-clause-law
returns-in-Some-clause-law c = hold_entries _ _ _ _ _ _ _ c.self.invariant c.self.view_is

pub returns-in-Some-clause-value : goal.returns-in-Some-clause-value
returns-in-Some-clause-value c =
    queued_is _ _ _ _ _ _ _ c.self.invariant c.self.view_is c.args.i c.in-Some.place c.index.result.now c.in-Some.ensures c.index.ensures
