use Rattle.rc_report.specs.Printed.{schedule_line}
use Rattle.rc_report.proofs.Pieces.{grows_or_writes}
use Rattle.rc_runs.proofs.stepping.write_not_read.Goals as goal

pub returns-in-Text-clause-text : goal.returns-in-Text-clause-text
returns-in-Text-clause-text g c = rw c.in-Text.is c.write_no_model.ensures.text

pub returns-in-Schedule-clause-text : goal.returns-in-Schedule-clause-text
returns-in-Schedule-clause-text g c =
    let state = g.W.Sink.state in
    rw c.in-Schedule.is (grows_or_writes (state c.args.writer.now) (state c.write_unread.new.writer) (schedule_line c.in-Schedule.field-0) c.write_unread.result (rw c.in-Schedule.is at c.write_unread.ensures.text))
