use Rattle.rc_device.proofs.Places.{written_reads, others_stay}
use Rattle.rc_device.proofs.laws.other_files_stay.Goals as goal

pub returns-clause-written : goal.returns-clause-written
returns-clause-written c = written_reads

pub returns-clause-others : goal.returns-clause-others
returns-clause-others c = others_stay
