use Rattle.std.proofs.Common.{ℕ, List, ap, ◌∙◌}
use Rattle.std.proofs.lemmas.List.{drop-drop}
use Rattle.rc_ring.specs.Rings.{Rings, SubmitCall, after_call}
use Rattle.rc_ring.proofs.rings.Ring.submit.Goals as goal

-- one entry more is off the queue
pub loop-preserved : goal.loop-preserved
loop-preserved c =
    c.take_first.ensures
    ∙ ap (λ (r : Rings). after_call (SubmitCall 1) r) c.loop.invariant
    ∙ ap (λ (xs : List (List ℕ)). record c.args.self.now { queued = xs }) (drop-drop 1 c.loop.counter c.args.self.now.queued)
