use Rattle.rc_run.proofs.Completes.{given_some}
use Rattle.rc_run.proofs.machine.jobs.give_back.Goals as goal

pub returns-in-Some : goal.returns-in-Some
returns-in-Some c = given_some c.args.buffers.now.items c.args.request c.args.bytes.now c.args.kept c.in-Some.kept c.changed.result c.in-Some.is c.changed.ensures
