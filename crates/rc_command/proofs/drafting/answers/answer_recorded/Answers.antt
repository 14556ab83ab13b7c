use Rattle.rc_command.proofs.Drafts.{of_draft, of_none, of_notes}
use Rattle.rc_command.proofs.drafting.answers.answer_recorded.Goals as goal

pub returns-then-not-is_any_read : goal.returns-then-not-is_any_read
returns-then-not-is_any_read g c =
    of_none (g.T.Logs.opens c.args.texts.now) c.args.asked.now c.args.logs.now c.notes_answer.result c.requires (c.is_any_read.ensures c.if-not-is_any_read.true) c.notes_answer.ensures

pub returns-then-asked : goal.returns-then-asked
returns-then-asked g c =
    of_notes (g.T.Logs.opens c.args.texts.now) c.args.asked.now c.args.logs.now c.notes_answer-then-asked.result c.args.drafted.now.notes.items c.if-asked.true c.requires (rw c.deref.ensures.value at c.notes_answer-then-asked.ensures)

pub returns : goal.returns
returns g c =
    of_draft (g.T.Logs.opens c.args.texts.now) c.args.asked.now c.args.logs.now c.draft_answer.result c.args.drafted.now.text.items c.args.drafted.now.notes.items c.if-asked.false c.requires c.draft_answer.ensures
