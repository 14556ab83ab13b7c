use Rattle.std.proofs.Common.{take}
use Rattle.rc_report.specs.Printed.{event_lines}
use Rattle.rc_report.specs.Streams.{Wrote}
use Rattle.rc_report.proofs.trace.write_events.Given as goal

abbrev pub invariant-loop-index : goal.invariant-loop-index
invariant-loop-index g l = Wrote (g.W.Sink.state l.initial.writer) (g.W.Sink.state l.writer) (event_lines l.program 1 (take l.index l.events))
