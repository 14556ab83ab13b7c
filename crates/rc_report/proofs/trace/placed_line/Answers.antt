use Rattle.rc_report.proofs.Lines.{placed_line_cut}
use Rattle.rc_report.proofs.trace.placed_line.Goals as goal

pub returns : goal.returns
returns c =
    rw (c.as_bytes.ensures.value, c.as_bytes-2.ensures.value, c.as_bytes-3.ensures.value)
    (placed_line_cut c.args.number.now c.args.name.now c.args.thread.now c.args.line.now)
