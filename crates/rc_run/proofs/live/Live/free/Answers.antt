use Rattle.std.proofs.Common.{◌≡◌, filter, length, refl, rules, ap, ◌∙◌}
use Rattle.rc_run.specs.declared.machine.Pending.{Pending}
use Rattle.rc_run.specs.LiveParts.{view_live}
use Rattle.rc_run.specs.Lives.{Live, free, is_free}
use Rattle.rc_run.proofs.Posting.{count_free}
use Rattle.rc_run.proofs.live.Live.free.Goals as goal

pub returns : goal.returns
returns c =
    let a = c.self.inside in
    let counted : c.free_count.result ≡ length (filter (λ (p : Pending). is_free a.out.items p.request) a.machine.pending.items) = search rules in
    count_free (view_live a) a.machine.pending.items c.free_count.result refl counted ∙ ap (λ (s : Live). length (free s)) c.self.view_is
