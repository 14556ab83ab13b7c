use Rattle.std.proofs.Common.{ap, ◌∙◌}
use Rattle.rc_ring.specs.Rings.{Rings}
use Rattle.rc_ring.proofs.Fields.{bytes_with_data-written, SpellsEntry-with_data}
use Rattle.rc_ring.proofs.Lists.{after_queue, sound_after_queue}
use Rattle.rc_ring.proofs.rings.Ring.queue.Goals as goal

pub invariant_of-self : goal.invariant_of-self
invariant_of-self c =
    sound_after_queue _ _ _ _ _ _ _ c.self.invariant c.self.view_is _ c.args.place c.args.user_data c.index_mut-entry.result.now _
    c.requires.place c.requires.stage c.ranges.user_data.fits c.advance_tail.ensures.value c.advance_tail.ensures.law
    (ap (λ (r : Rings). r.parked) c.self.view_is ∙ c.requires.out) c.index_mut-entry.ensures.value
    (bytes_with_data-written c.args.user_data c.index_mut-entry.result.now _ (c.copy_from_slice.ensures.after ∙ c.to_le_bytes.ensures))

pub returns-clause-after : goal.returns-clause-after
returns-clause-after c =
    after_queue _ _ _ _ _ _ _ c.self.invariant c.self.view_is _ c.args.place c.args.user_data c.index_mut-entry.result.now _
    c.requires.place c.requires.stage c.advance_tail.ensures.value c.index_mut-entry.ensures.value
    (bytes_with_data-written c.args.user_data c.index_mut-entry.result.now _ (c.copy_from_slice.ensures.after ∙ c.to_le_bytes.ensures))

pub returns-clause-spells : goal.returns-clause-spells
returns-clause-spells c = λ entry spells. SpellsEntry-with_data c.args.user_data entry _ c.ranges.user_data.fits spells
