use Rattle.std.proofs.Common.{◌≡◌, ◌∙◌, ap, decimal, sym}
use Rattle.rc_report.specs.Printed.{schedule_line}
use Rattle.rc_report.specs.Steps.{unread_text}
use Rattle.rc_report.proofs.Pieces.{wrote_along}
use Rattle.rc_report.proofs.step_engine.write_unread.Goals as goal

pub returns-in_ok-write_pieces-in-Schedule-clause-text : goal.returns-in_ok-write_pieces-in-Schedule-clause-text
returns-in_ok-write_pieces-in-Schedule-clause-text g c =
    let number : c.as_bytes-number.result.now ≡ decimal c.in-Schedule.item = c.as_bytes-number.ensures.value ∙ c.format.ensures.text in
    let written = rw number at c.in_ok-write_pieces-in-Schedule.ensures in
    wrote_along (g.W.Sink.state c.args.writer.now) (g.W.Sink.state c.write_pieces.new.writer) (schedule_line c.in-Schedule.item) (unread_text c.args.unread) (ap unread_text (sym c.in-Schedule.is)) written
