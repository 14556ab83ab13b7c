use Rattle.std.proofs.Common.{ap, ◌∙◌}
use Rattle.std.specs.Result.{result_ok}
use Rattle.rc_ring.specs.Places.{cqe_of}
use Rattle.rc_ring.proofs.Lists.{first_is}
use Rattle.rc_ring.proofs.rings.Ring.peek_cqe.Goals as goal

pub returns-in-Some : goal.returns-in-Some
returns-in-Some c =
    let first = first_is _ _ _ _ _ _ _ c.self.invariant c.self.view_is c.in-Some.place c.index.result.now c.in-Some.ensures c.index.ensures in
    c.ok.ensures.value ∙ ap result_ok ((c.decode_cqe.ensures.value (cqe_of c.index.result.now)).1 first.0) ∙ first.1
