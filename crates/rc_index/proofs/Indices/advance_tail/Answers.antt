use Rattle.rc_index.proofs.Counters.{after_push, room_after_push, is_ring_list}
use Rattle.rc_index.proofs.Indices.advance_tail.Goals as goal

pub invariant_of-self : goal.invariant_of-self
invariant_of-self c = room_after_push _ _ _ _ c.self.invariant c.self.view_is c.requires

pub returns-clause-value : goal.returns-clause-value
returns-clause-value c = after_push _ _ _ _ c.self.invariant c.self.view_is c.requires

pub returns-clause-law : goal.returns-clause-law
returns-clause-law c = is_ring_list _ _ _ (room_after_push _ _ _ _ c.self.invariant c.self.view_is c.requires)
