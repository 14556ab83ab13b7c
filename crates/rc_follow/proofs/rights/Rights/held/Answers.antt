use Rattle.std.proofs.Common.{subst}
use Rattle.std.specs.Prelude.{All}
use Rattle.std.proofs.lemmas.List.Elements.{All-same}
use Rattle.rc_lang.specs.Program.{Program}
use Rattle.rc_follow.specs.RightsKnown.{IsHeld}
use Rattle.rc_follow.proofs.rights.Rights.held.Goals as goal

pub returns-in-Some-clause-held : goal.returns-in-Some-clause-held
returns-in-Some-clause-held c =
    c.in-Some.ensures c.args.self.now
    (All-same (IsHeld c.args.self.now) c.deref.result.now c.self.inside.known.items c.deref.ensures.value
    (subst (λ (Q : Program). All (IsHeld Q) c.self.inside.known.items) c.self.view_is c.self.invariant))

pub invariant_of-self : goal.invariant_of-self
invariant_of-self c = c.know.ensures c.self.inside.program.now c.self.invariant c.in-Some-shares_at.ensures

pub invariant_of-self-2 : goal.invariant_of-self-2
invariant_of-self-2 c = c.know.ensures c.self.inside.program.now c.self.invariant c.in-Some-shares_at.ensures
