use Rattle.std.proofs.Common.{Err, subst}
use Rattle.rc_read.specs.Answer.{answer_of}
use Rattle.rc_report.specs.Checks.{GivesVerdict}
use Rattle.rc_command.proofs.Drafts.{of_refused}
use Rattle.rc_command.proofs.drafting.answers.draft_answer.Goals as goal

pub returns-in-Err : goal.returns-in-Err
returns-in-Err g c =
    let text = c.args.drafted.now.text.items in
    let given : GivesVerdict (answer_of text) (Err c.in-Err.verdict) = subst (λ r. GivesVerdict (answer_of text) r) c.in-Err.is (rw c.deref.ensures.value at c.in_ok-admitted.ensures) in
    of_refused (g.T.Logs.opens c.args.texts.now) c.args.json c.args.logs.now text c.args.drafted.now.notes.items c.refused.result c.in-Err.verdict given c.requires c.refused.ensures
