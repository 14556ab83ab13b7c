use Rattle.rc_run.specs.declared.machine.Pending.{Pending}
use Rattle.rc_run.specs.Lives.{is_free}
use Rattle.std.proofs.Common.{◌≡◌, not, rules, ap, sym, ◌∙◌}
use Rattle.rc_run.proofs.Finding.{found_here, not_false}
use Rattle.rc_run.proofs.live.free_place.Goals as goal

pub returns-then-left-eq0-clause-some : goal.returns-then-left-eq0-clause-some
returns-then-left-eq0-clause-some c =
    let x = c.index-pending-k.result in
    let passes = not_false (is_free c.args.out.now x.request) c.is_out.result (c.is_out.ensures ∙ ap (λ (y : Pending). not (is_free c.args.out.now y.request)) (sym c.index-pending-k.is)) c.if-is_out.false in
    let none : c.loop-k.left ≡ 0 = search rules in
    found_here (λ (p : Pending). is_free c.args.out.now p.request) c.args.pending.now c.loop-k.k c.loop-k.left c.args.n x c.loop-k-test.true c.index-pending-k.is passes none c.loop-k.invariant
