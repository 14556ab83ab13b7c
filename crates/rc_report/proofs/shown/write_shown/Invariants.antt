use Rattle.std.specs.List.{flat_map}
use Rattle.rc_report.specs.Shown.{shown_char}
use Rattle.rc_report.specs.Streams.{Wrote}
use Rattle.rc_report.proofs.shown.write_shown.Given as goal

abbrev pub invariant-loop-character : goal.invariant-loop-character
invariant-loop-character g l = Wrote (g.W.Sink.state l.initial.writer) (g.W.Sink.state l.writer) (flat_map shown_char l.yielded)
