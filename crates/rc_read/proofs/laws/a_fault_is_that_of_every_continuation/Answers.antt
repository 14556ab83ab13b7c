use Rattle.rc_read.proofs.Streams.{fault_of_all}
use Rattle.rc_read.proofs.laws.a_fault_is_that_of_every_continuation.Goals as goal

pub returns : goal.returns
returns c = fault_of_all
