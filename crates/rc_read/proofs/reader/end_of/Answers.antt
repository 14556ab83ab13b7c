use Rattle.rc_read.specs.View.{view_sheet}
use Rattle.rc_read.proofs.Kept.{reached_is_program}
use Rattle.rc_read.proofs.reader.end_of.Goals as goal

pub program_in-requires : goal.program_in-requires
program_in-requires c = reached_is_program (view_sheet c.args.parts) c.requires c.in-Ok.ensures
