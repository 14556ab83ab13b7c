use Rattle.std.proofs.Common.{refl, subst}
use Rattle.rc_lang.specs.Kept.{IsProgram}
use Rattle.rc_admit.proofs.Safe.{accepted_is_safe, accepted_is_weakly_safe}
use Rattle.rc_admit.proofs.admitted.Admitted.from_program.Goals as goal

pub invariant_of-result : goal.invariant_of-result
invariant_of-result c = accepted_is_weakly_safe c.args.program (subst IsProgram c.program.view_is c.program.invariant) c.in-Ok.ensures

pub returns-in-Ok : goal.returns-in-Ok
returns-in-Ok c = (refl, c.in-Ok.ensures, accepted_is_safe c.args.program (subst IsProgram c.program.view_is c.program.invariant) c.in-Ok.ensures)
