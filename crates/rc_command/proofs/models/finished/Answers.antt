use Rattle.rc_command.proofs.Leaving.{not_finished}
use Rattle.rc_command.proofs.models.finished.Goals as goal

pub returns-in_err-status : goal.returns-in_err-status
returns-in_err-status g c = not_finished g.O.Write.contents c.args.status c.args.notes.now c.args.sink.now c.written_out.new.sink (g.E.Sink.state c.args.errors.now) _ c.from_residual.result c.from_residual.ensures.1 c.in_err-status.ensures.fault

pub returns : goal.returns
returns g c = (c.in_ok-status.ensures.status.0, c.in_ok-status.ensures.status.1, c.tell_notes.ensures c.requires.told)
