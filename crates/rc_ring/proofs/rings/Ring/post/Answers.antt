use Rattle.rc_ring.proofs.Lists.{after_post, sound_after_post}
use Rattle.rc_ring.proofs.rings.Ring.post.Goals as goal

pub invariant_of-self : goal.invariant_of-self
invariant_of-self c =
    sound_after_post _ _ _ _ _ _ _ c.self.invariant c.self.view_is _ c.in-Some.place c.args.cqe c.encode_cqe.result
    c.encode_cqe.ensures c.in-Some.ensures.room c.in-Some.ensures.value c.advance_tail.ensures.value c.advance_tail.ensures.law

pub returns-in-Some-clause-ok : goal.returns-in-Some-clause-ok
returns-in-Some-clause-ok c =
    after_post _ _ _ _ _ _ _ c.self.invariant c.self.view_is _ c.in-Some.place c.args.cqe c.encode_cqe.result
    c.encode_cqe.ensures c.in-Some.ensures.room c.in-Some.ensures.value c.advance_tail.ensures.value
