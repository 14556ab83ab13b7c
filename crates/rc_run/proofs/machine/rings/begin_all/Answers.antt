use Rattle.std.proofs.Common.{sym, ◌∙◌}
use Rattle.rc_run.proofs.Begins.{begun_more}
use Rattle.rc_run.proofs.machine.rings.begin_all.Goals as goal

pub loop-i-preserved : goal.loop-i-preserved
loop-i-preserved c =
    begun_more c.args.pending.now c.args.buffers.now c.args.ring.now.queued c.args.count c.loop-i.i c.loop-i.pending c.loop-i.buffers c.loop-i.invariant
    c.in-Some.request c.loop-i-test.true (sym c.request.ensures ∙ c.in-Some.is) c.taken_bytes-bytes.result c.push_reserved.new.self c.taken_bytes-bytes.new.buffers
    c.push_reserved.ensures.items c.push_reserved.ensures.len c.push_reserved.ensures.capacity c.taken_bytes-bytes.ensures.bytes c.taken_bytes-bytes.ensures.buffers
