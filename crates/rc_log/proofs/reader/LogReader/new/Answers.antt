use Rattle.std.proofs.Common.{◌≡◌}
use Rattle.rc_log.proofs.Readers.{nothing_waits}
use Rattle.rc_log.proofs.reader.LogReader.new.Goals as goal

pub returns : goal.returns
returns g c = nothing_waits _ _ c.new.ensures
