use Rattle.std.proofs.Common.{rules}
use Rattle.rc_log.proofs.Lists.{place_of_buffer}
use Rattle.rc_log.proofs.parts.buffer_named.Goals as goal

pub returns : goal.returns
returns c =
    let e = place_of_buffer c.buffers.result.now c.args.program.now.buffers c.args.name.now c.buffers.ensures.value in
    let k = c.place_of_buffer.ensures in
    search rules
