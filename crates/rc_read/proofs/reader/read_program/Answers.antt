use Rattle.std.proofs.Common.{sym, subst}
use Rattle.rc_read.specs.Stream.{IsAnswer}
use Rattle.rc_read.proofs.Streams.{answers_alone}
use Rattle.rc_read.proofs.reader.read_program.Goals as goal

pub returns : goal.returns
returns c = subst (IsAnswer c.args.bytes.now) (sym c.fault_alone.ensures) (answers_alone c.read_parts.result c.args.bytes.now (c.read_parts.ensures))
