use Rattle.std.proofs.Common.{◌≡◌, ◌≤◌, ◌+◌, drop}
use Rattle.rc_world.specs.Trace.{trace_from}
use Rattle.rc_report.proofs.Traces.{IsSoFar}
use Rattle.rc_report.proofs.stepping.write_events.Given as goal

abbrev pub invariant-loop-index : goal.invariant-loop-index
invariant-loop-index g l = record {
  program : l.world.program ≡ l.initial.world.program;
  made : l.world.made ≤ l.index;
  count : l.count ≤ l.index;
  so_far : IsSoFar l.initial.world.program (g.W.Sink.state l.initial.writer) (g.W.Sink.state l.writer)
      (trace_from l.initial.world 1 l.items) (trace_from l.world (l.index + 1) (drop l.index l.items)) l.count;
}
