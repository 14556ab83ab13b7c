use Rattle.std.proofs.Common.{sym}
use Rattle.rc_report.proofs.Lines.{event_lines-cut, event_lines-more}
use Rattle.rc_report.proofs.Pieces.{next_stops, wrote_along, wrote_both}
use Rattle.rc_report.proofs.trace.write_events.Goals as goal

pub returns-in_err-write_event_line : goal.returns-in_err-write_event_line
returns-in_err-write_event_line g c =
    next_stops _ _ _ _ _ _ _ _ _ c.from_residual.result (event_lines-cut c.args.program.now c.args.events.now c.loop-index.index _ c.loop-index-test.true)
    c.loop-index.invariant c.from_residual.ensures.1 c.in_err-write_event_line.ensures

pub loop-index-preserved : goal.loop-index-preserved
loop-index-preserved g c =
    wrote_along _ _ _ _ (sym (event_lines-more c.args.program.now c.args.events.now c.loop-index.index _ c.loop-index-test.true))
    (wrote_both _ _ _ _ _ c.loop-index.invariant c.in_ok-write_event_line.ensures)
