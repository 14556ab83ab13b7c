use Rattle.std.proofs.Common.{subst}
use Rattle.rc_lang.specs.Kept.{IsProgram}
use Rattle.rc_admit.proofs.Safe.{accepted_is_safe, accepted_is_weakly_safe}
use Rattle.rc_admit.proofs.admitted.judge.Goals as goal

pub invariant_of-result : goal.invariant_of-result
invariant_of-result c = accepted_is_weakly_safe c.in-Ok.program (subst IsProgram c.program.view_is c.program.invariant) c.in-Ok-verify.ensures

pub returns-in-Ok-verify : goal.returns-in-Ok-verify
returns-in-Ok-verify c = (c.in-Ok.ensures, c.in-Ok-verify.ensures, accepted_is_safe c.in-Ok.program (subst IsProgram c.program.view_is c.program.invariant) c.in-Ok-verify.ensures)
