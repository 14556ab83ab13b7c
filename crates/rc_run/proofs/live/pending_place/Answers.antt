use Rattle.std.proofs.Common.{◌≤◌, length, rules, ap, sym, ◌∙◌}
use Rattle.rc_run.specs.declared.machine.Pending.{Pending}
use Rattle.rc_run.proofs.Finding.{not_pending_more, pending_nowhere}
use Rattle.rc_run.proofs.live.pending_place.Goals as goal

pub loop-k-preserved : goal.loop-k-preserved
loop-k-preserved c =
    not_pending_more c.args.pending.now c.args.request c.loop-k.k c.index-pending-k.result c.loop-k-test.true c.index-pending-k.is
    (λ e. let yes = c.same_request.ensures.1 (ap (λ (y : Pending). y.request) (sym c.index-pending-k.is) ∙ e) in let no = c.if-same_request.false in absurd (cc)) c.loop-k.invariant

pub returns-clause-none : goal.returns-clause-none
returns-clause-none c =
    let le : length c.args.pending.now ≤ c.loop-k.k = search rules in
    pending_nowhere c.args.pending.now c.args.request c.loop-k.k le c.loop-k.invariant
