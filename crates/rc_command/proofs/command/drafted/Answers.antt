use Rattle.std.proofs.Common.{[], arith}
use Rattle.rc_report.specs.Buffers.{held}
use Rattle.rc_command.specs.Drafting.{SaysDraft}
use Rattle.rc_command.proofs.Leaving.{bound_whole, follows_no_more, stops, whole, whole_is_answered}
use Rattle.rc_command.proofs.command.drafted.Goals as goal

pub returns-in_err-status-clause-answer : goal.returns-in_err-status-clause-answer
returns-in_err-status-clause-answer g c =
    let says = SaysDraft (g.T.Logs.opens c.args.texts.now) c.args.asked.now in
    let left = follows_no_more says (held g.O.Write.contents) c.args.sink.now c.draft_logs.new.sink g.E.Sink.state c.args.errors.now c.draft_logs.new.errors _ (omega (arith, c.requires.told)) c.in_err-status.ensures.answer in
    stops g.O.Write.contents c.args.sink.now c.draft_logs.new.sink (g.E.Sink.state c.args.errors.now) (g.E.Sink.state c.draft_logs.new.errors) says _ c.from_residual.result c.from_residual.ensures.1 left.0 left.1

pub returns-clause-answer : goal.returns-clause-answer
returns-clause-answer g c =
    let says = SaysDraft (g.T.Logs.opens c.args.texts.now) c.args.asked.now in
    whole g.O.Write.contents c.args.sink.now c.draft_logs.new.sink c.finished.new.sink (g.E.Sink.state c.args.errors.now) (g.E.Sink.state c.draft_logs.new.errors) (g.E.Sink.state c.finished.new.errors) says [] c.in_ok-status.status c.finished.result c.requires.empty
    (whole_is_answered says (held g.O.Write.contents) c.args.sink.now c.draft_logs.new.sink g.E.Sink.state c.args.errors.now c.draft_logs.new.errors c.in_ok-status.status c.in_ok-status.ensures.answer) c.finished.ensures

pub returns-clause-bound : goal.returns-clause-bound
returns-clause-bound g c =
    let says = SaysDraft (g.T.Logs.opens c.args.texts.now) c.args.asked.now in
    bound_whole g.O.Write.contents c.args.sink.now c.draft_logs.new.sink c.finished.new.sink (g.E.Sink.state c.args.errors.now) (g.E.Sink.state c.draft_logs.new.errors) (g.E.Sink.state c.finished.new.errors) says _ c.in_ok-status.status c.finished.result c.in_ok-status.ensures.status c.finished.ensures

pub finished-requires-clause-told : goal.finished-requires-clause-told
finished-requires-clause-told g c = c.in_ok-status.ensures.answer.4.1
