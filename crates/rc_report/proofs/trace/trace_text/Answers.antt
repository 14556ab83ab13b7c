use Rattle.rc_report.proofs.Pieces.{first_stops, writes_both}
use Rattle.rc_report.proofs.trace.trace_text.Goals as goal

pub returns-in_err-write_events : goal.returns-in_err-write_events
returns-in_err-write_events g c = first_stops _ _ _ _ _ _ c.from_residual.result c.from_residual.ensures.1 c.in_err-write_events.ensures

pub returns : goal.returns
returns g c = writes_both _ _ _ _ _ _ c.write_end.result c.in_ok-write_events.ensures c.write_end.ensures
