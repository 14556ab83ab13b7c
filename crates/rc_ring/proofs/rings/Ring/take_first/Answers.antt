use Rattle.rc_ring.proofs.Lists.{sound_after_take}
use Rattle.rc_ring.proofs.rings.Ring.take_first.Goals as goal

pub invariant_of-self : goal.invariant_of-self
invariant_of-self c =
    sound_after_take _ _ _ _ _ _ _ c.self.invariant c.self.view_is _ c.advance_head.ensures.value c.advance_head.ensures.law
