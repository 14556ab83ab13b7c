use Rattle.std.proofs.Common.{sym, subst}
use Rattle.rc_read.specs.Stream.{IsAnswer}
use Rattle.rc_read.proofs.Streams.{answers_alone}
use Rattle.rc_read.proofs.reader.Reader.finish.Goals as goal

pub returns-clause-reads : goal.returns-clause-reads
returns-clause-reads c = λ bytes h. subst (IsAnswer bytes) (sym c.fault_alone.ensures) (answers_alone c.end.result bytes (c.end.ensures.reads bytes h))
