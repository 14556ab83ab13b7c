use Rattle.rc_ring.proofs.Lists.{after_prepare, sound_after_prepare}
use Rattle.rc_ring.proofs.rings.Ring.prepare.Goals as goal

pub invariant_of-self : goal.invariant_of-self
invariant_of-self c =
    sound_after_prepare _ _ _ _ _ _ _ c.self.invariant c.self.view_is c.args.place c.args.entry.now c.encode_sqe.result
    c.requires.place c.encode_sqe.ensures

pub returns : goal.returns
returns c =
    after_prepare _ _ _ _ _ _ _ c.self.invariant c.self.view_is c.args.place c.args.entry.now c.encode_sqe.result
    c.requires.place c.encode_sqe.ensures
