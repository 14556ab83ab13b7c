use Rattle.std.proofs.Common.{◌∙◌}
use Rattle.rc_command.specs.Commands.{SaysFiles}
use Rattle.rc_report.specs.Buffers.{held}
use Rattle.rc_command.proofs.Commands.{fails_as}
use Rattle.rc_command.proofs.Leaving.{bound_whole, stops, whole}
use Rattle.rc_command.proofs.models.from_files.Goals as goal

pub returns-in_err-status-clause-answer : goal.returns-in_err-status-clause-answer
returns-in_err-status-clause-answer g c =
    let says = SaysFiles (g.T.Texts.gives c.args.texts.now) c.args.command.now c.args.files.now in
    let left = c.in_err-status.ensures.answer in
    stops g.O.Write.contents c.args.sink.now c.on_files.new.sink (g.E.Sink.state c.args.errors.now) (g.E.Sink.state c.on_files.new.errors) says _ c.from_residual.result c.from_residual.ensures.1 (fails_as (held g.O.Write.contents) c.args.sink.now c.on_files.new.sink _ left.0) left.1

pub returns-clause-answer : goal.returns-clause-answer
returns-clause-answer g c =
    let says = SaysFiles (g.T.Texts.gives c.args.texts.now) c.args.command.now c.args.files.now in
    whole g.O.Write.contents c.args.sink.now c.on_files.new.sink c.finished.new.sink (g.E.Sink.state c.args.errors.now) (g.E.Sink.state c.on_files.new.errors) (g.E.Sink.state c.finished.new.errors) says c.on_files.new.notes.items c.in_ok-status.status c.finished.result c.requires.empty
    c.in_ok-status.ensures.answer (rw c.deref.ensures.value at c.finished.ensures)

pub returns-clause-bound : goal.returns-clause-bound
returns-clause-bound g c =
    let says = SaysFiles (g.T.Texts.gives c.args.texts.now) c.args.command.now c.args.files.now in
    bound_whole g.O.Write.contents c.args.sink.now c.on_files.new.sink c.finished.new.sink (g.E.Sink.state c.args.errors.now) (g.E.Sink.state c.on_files.new.errors) (g.E.Sink.state c.finished.new.errors) says _ c.in_ok-status.status c.finished.result c.in_ok-status.ensures.bound c.finished.ensures

pub finished-requires-clause-writes : goal.finished-requires-clause-writes
finished-requires-clause-writes g c = c.in_ok-status.ensures.answer.3.1 ∙ c.requires.writes

pub finished-requires-clause-told : goal.finished-requires-clause-told
finished-requires-clause-told g c = c.in_ok-status.ensures.answer.4.1
