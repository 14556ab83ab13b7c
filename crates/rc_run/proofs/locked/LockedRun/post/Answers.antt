use Rattle.std.proofs.Common.{sym, ap, ◌∙◌, ◌+◌, subst, add-zero}
use Rattle.std.specs.Prelude.{ℤ, count_by}
use Rattle.std.proofs.Math.Facts.{to_z-of_z}
use Rattle.rc_run.specs.Lives.{IsNotOut, Posted}
use Rattle.rc_run.specs.Reports.{is_turn}
use Rattle.rc_run.specs.LockedRun.{LockedRun}
use Rattle.rc_run.proofs.Growing.{post_more}
use Rattle.rc_run.proofs.locked.LockedRun.post.Goals as goal

pub invariant_of-self : goal.invariant_of-self
invariant_of-self g c =
    let i = c.self.invariant in
    let s = c.self.inside.live in
    let v = c.post.new.self in
    let P : ℤ → Type 0 = λ z. Posted s c.args.job z v in
    let more = post_more g.D.Device.gives s v c.args.job c.args.res (subst P (to_z-of_z c.ranges.res) c.in-Ok.ensures.ok) c.requires.given in
    record {
      run = more.run g.L.RunConfig.program i.safe i.run;
      safe = i.safe;
      given = more.given i.given;
      counted = more.long ∙ ap (λ n. n + 1) i.counted ∙ sym (c.audit.ensures.total ∙ c.add.ensures.total);
      turns = i.turns ∙ sym (more.count ∙ add-zero (count_by is_turn s.history));
      limit_is = i.limit_is;
      few = i.few;
    }

pub returns-in-Err-clause-not_out : goal.returns-in-Err-clause-not_out
returns-in-Err-clause-not_out g c = subst (λ (t : LockedRun). IsNotOut t.run c.args.job.request) c.self.view_is c.in-Err.ensures.not_out
