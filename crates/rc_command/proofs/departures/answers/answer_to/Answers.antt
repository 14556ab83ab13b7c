use Rattle.std.proofs.Common.{Err, Ok, subst}
use Rattle.rc_read.specs.Answer.{answer_of}
use Rattle.rc_report.specs.Checks.{GivesVerdict}
use Rattle.rc_command.proofs.Following.{of_accepted, of_refused}
use Rattle.rc_command.proofs.departures.answers.answer_to.Goals as goal

pub returns-in-Ok : goal.returns-in-Ok
returns-in-Ok g c =
    let given : GivesVerdict (answer_of c.args.model.now) (Ok c.in-Ok.admitted) = subst (λ r. GivesVerdict (answer_of c.args.model.now) r) c.in-Ok.is c.in_ok-admitted.ensures in
    of_accepted (g.T.Logs.opens c.args.texts.now) c.args.asked.now c.args.model.now c.in-Ok.admitted c.follow_all.result given (rw c.program.ensures.value at c.follow_all.ensures)

pub returns-in-Err : goal.returns-in-Err
returns-in-Err g c =
    let given : GivesVerdict (answer_of c.args.model.now) (Err c.in-Err.verdict) = subst (λ r. GivesVerdict (answer_of c.args.model.now) r) c.in-Err.is c.in_ok-admitted.ensures in
    of_refused (g.T.Logs.opens c.args.texts.now) c.args.asked.now c.args.model.now c.in-Err.verdict c.refuse.result given c.refuse.ensures
