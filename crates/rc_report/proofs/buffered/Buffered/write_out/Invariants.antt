use Rattle.std.proofs.Common.{◌≡◌, ◌-◌, vec_len}
use Rattle.std.specs.Io.KnownBytes.{Keeps}
use Rattle.rc_report.specs.Buffers.{buffered}
use Rattle.rc_report.proofs.buffered.Buffered.write_out.Given as goal

abbrev pub invariant-loop-self : goal.invariant-loop-self
invariant-loop-self g l = record {
  kept : Keeps (buffered g.S.Sink.state l.initial.self).contents (buffered g.S.Sink.state l.self).contents;
  no_failure : (g.S.Sink.state l.self.sink).failures ≡ (g.S.Sink.state l.initial.self.sink).failures;
}

abbrev pub decreases-loop-self : goal.decreases-loop-self
decreases-loop-self g l = vec_len l.self.bytes - l.self.written
