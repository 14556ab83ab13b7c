use Rattle.std.proofs.Common.{rules, sym, ap, ◌∙◌, ◌+◌, subst}
use Rattle.std.specs.Prelude.{ℤ}
use Rattle.std.proofs.Math.Facts.{to_z-of_z}
use Rattle.rc_run.specs.Lives.{Turned}
use Rattle.rc_run.proofs.Growing.{turn_more}
use Rattle.rc_run.proofs.locked.LockedRun.turn.Goals as goal

pub invariant_of-self : goal.invariant_of-self
invariant_of-self g c =
    let o = c.in-Ok-Done in
    let i = c.self.invariant in
    let s = c.self.inside.live in
    let v = c.turn.new.self in
    let P : ℤ → Type 0 = λ z. Turned s c.args.thread z o.field-0 v in
    let more = turn_more g.D.Device.gives s v c.args.thread c.args.take o.field-0 o.event (search rules) (subst P (to_z-of_z c.ranges.take) o.ensures.ok) in
    record {
      run = more.run g.L.RunConfig.program i.safe i.run;
      safe = i.safe;
      given = more.given i.given;
      counted = more.long ∙ ap (λ n. n + 1) i.counted ∙ sym (c.audit.ensures.total ∙ c.add.ensures.total);
      turns = ap (λ n. n + 1) i.turns ∙ sym more.count;
      limit_is = i.limit_is;
      few = search rules;
    }
