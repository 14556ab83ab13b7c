use Rattle.std.proofs.Common.{refl}
use Rattle.rc_run.specs.Machine.{world_of}
use Rattle.rc_run.proofs.Buffers.{stored}
use Rattle.rc_run.proofs.machine.Machine.store.Goals as goal

pub returns-clause-step : goal.returns-clause-step
returns-clause-step c =
    let m = c.args.self.now in
    stored (world_of m) m.buffers.items refl c.args.buffer c.index_mut.result.now c.in-Some.bytes c.index_mut.ensures.value c.in-Some.is c.args.i c.args.byte c.requires
