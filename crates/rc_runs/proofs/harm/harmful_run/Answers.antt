use Rattle.std.proofs.Common.{◌≡◌, []}
use Rattle.rc_runs.proofs.Shown.{harmful}
use Rattle.rc_runs.proofs.harm.harmful_run.Goals as goal

pub returns-in-Fault : goal.returns-in-Fault
returns-in-Fault c =
    let empty : c.new-sink.result.writer.items ≡ [] = rw c.new-sink.ensures c.new.ensures.items in
    harmful c.args.program.now c.in_ok-world.world c.args.items.now c.in-Ok.end c.in-Fault.fault _ _ c.in_ok-world.ensures empty c.in-Ok.ensures.end c.in-Fault.is c.in-Ok.ensures.text.0
