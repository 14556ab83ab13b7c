-- What standard output has taken.
use Rattle.std.specs.Prelude.{ℕ, ◌≡◌, List, [], Option}
use Rattle.std.specs.Io.KnownBytes.{Keeps}
use Rattle.rc_report.specs.declared.buffered.Buffered.{Buffered}
use Rattle.rc_report.specs.declared.streams.WriteSink.{WriteSink}
use Rattle.rc_report.specs.Buffers.{held, kept_back, taken_by}
use Rattle.rc_report.specs.Streams.{Taken}
use Rattle.rc_console.specs.declared.output.Output.{Output}

-- what is written, without what a buffer keeps back
abbrev pub written_by : {W : Type 0} → (W → Option (List ℕ)) → Buffered (WriteSink W) → Taken
written_by contents b = taken_by contents b.sink

-- the same of an output that notes whether it is closed
abbrev pub put_out : {W : Type 0} → (W → Option (List ℕ)) → Buffered (WriteSink (Output W)) → Taken
put_out {W = W} contents b = written_by (λ (output : Output W). contents output.writer) b

-- What was kept back is written, and nothing besides.
pub record IsWrittenOut {W : Type 0} (contents : W → Option (List ℕ)) (old new : Buffered (WriteSink W)) : Type 0 where
  pub whole : kept_back new ≡ []
  pub keeps : Keeps (held contents old).contents (held contents new).contents
  pub no_failure : new.sink.failures ≡ old.sink.failures
