use Rattle.std.proofs.Common.{◌-◌, length}
use Rattle.std.specs.Io.KnownBytes.{Keeps}
use Rattle.rc_log.specs.Waiting.{left, waiting}
use Rattle.rc_log.proofs.reader.LogReader.next_line.Given as goal

abbrev pub invariant-loop-count : goal.invariant-loop-count
invariant-loop-count g l = Keeps (left g.R.Read.remaining l.initial.self) (left g.R.Read.remaining l.self)

abbrev pub decreases-loop-count : goal.decreases-loop-count
decreases-loop-count g l = 4097 - length (waiting l.self.pending)
