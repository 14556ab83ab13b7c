use Rattle.std.proofs.Common.{◌≡◌, length, replicate, refl, rules}
use Rattle.rc_run.specs.Machine.{world_of}
use Rattle.rc_run.proofs.Buffers.{filled}
use Rattle.rc_run.proofs.machine.Machine.fill.Goals as goal

pub returns-clause-step : goal.returns-clause-step
returns-clause-step c =
    let m = c.args.self.now in
    let is : c.fill.new.self.items ≡ replicate (length c.in-Some.bytes.items) c.args.byte = search rules in
    filled (world_of m) m.buffers.items refl c.args.buffer c.index_mut.result.now c.in-Some.bytes c.index_mut.ensures.value c.in-Some.is c.args.byte c.fill.new.self is c.requires
