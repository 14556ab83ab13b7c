-- What a buffered sink keeps back, and what it holds with the sink under it.
use Rattle.std.specs.Prelude.{ℕ, List, Option, drop}
use Rattle.std.specs.Io.KnownBytes.{append_known}
use Rattle.rc_report.specs.declared.buffered.Buffered.{Buffered}
use Rattle.rc_report.specs.declared.streams.WriteSink.{WriteSink}
use Rattle.rc_report.specs.Streams.{Taken}

-- the bytes that it took and has not written
abbrev pub kept_back : {S : Type 0} → Buffered S → List ℕ
kept_back b = drop b.written b.bytes.items

-- what it holds: the bytes of the sink under it, where they are known, and then those
abbrev pub buffered : {S : Type 0} → (S → Taken) → Buffered S → Taken
buffered taken b = record (taken b.sink) { contents = append_known (taken b.sink).contents (kept_back b) }

-- what a sink over a writer has taken
abbrev pub taken_by : {W : Type 0} → (W → Option (List ℕ)) → WriteSink W → Taken
taken_by contents sink = record { contents = contents sink.writer; failures = sink.failures }

-- the same of a buffered sink over a writer
abbrev pub held : {W : Type 0} → (W → Option (List ℕ)) → Buffered (WriteSink W) → Taken
held contents b = buffered (taken_by contents) b
