use Rattle.std.proofs.Common.{arith, refl}
use Rattle.rc_lang.specs.Views.{seen}
use Rattle.rc_verify.proofs.Told.{at_end, refused_here}
use Rattle.rc_verify.proofs.labels.Labels.next.Goals as goal

pub returns-then-self-len-clause-goes : goal.returns-then-self-len-clause-goes
returns-then-self-len-clause-goes c =
    let r = at_end _ _ _ _ _ _ c.args.self.now c.self.view_is c.self.invariant c.in_default.is (omega (arith, c.if-self-len.true, c.len.ensures)) in
    (refl, r.0, r.1)

pub invariant_of-self : goal.invariant_of-self
invariant_of-self c = refused_here (seen c.self.inside.view) _ c.self.inside.place c.self.inside.walk c.pass.new.walk c.self.inside.refused c.in-Err.cause c.self.invariant c.in_default.is c.in-Err.ensures.passes c.in-Err.ensures.stays
