use Rattle.std.proofs.Common.{◌∙◌, ap, arith}
use Rattle.std.specs.Prelude.{max}
use Rattle.rc_command.specs.Drafting.{outcome_of, status_of_outcome}
use Rattle.rc_command.proofs.Drafts.{status_more}
use Rattle.rc_command.proofs.drafting.printed.status_of.Goals as goal

pub loop-end-preserved : goal.loop-end-preserved
loop-end-preserved c = record {
  status = c.max-status.ensures ∙ ap (λ n. max c.loop-end.status n) (c.status.ensures.status ∙ ap status_of_outcome (c.outcome.ensures ∙ ap outcome_of c.end-item.is))
      ∙ status_more c.args.ends.now c.loop-end.end-index c.end-item.result c.loop-end.status c.loop-end-test.true c.loop-end.invariant.status;
  bound = omega (arith, c.max-status.ensures, c.loop-end.invariant.bound, c.status.ensures.bound);
}
