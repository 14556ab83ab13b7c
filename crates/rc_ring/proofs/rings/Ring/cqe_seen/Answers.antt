use Rattle.rc_ring.proofs.Lists.{sound_after_seen, after_seen}
use Rattle.rc_ring.proofs.rings.Ring.cqe_seen.Goals as goal

pub invariant_of-self : goal.invariant_of-self
invariant_of-self c =
    sound_after_seen _ _ _ _ _ _ _ c.self.invariant c.self.view_is _ c.advance_head.ensures.value c.advance_head.ensures.law

pub returns : goal.returns
returns c = after_seen _ _ _ _ _ _ _ c.self.invariant c.self.view_is _ c.requires c.advance_head.ensures.value
