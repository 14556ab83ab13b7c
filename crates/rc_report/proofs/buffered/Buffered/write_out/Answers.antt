use Rattle.std.proofs.Common.{◌∙◌}
use Rattle.rc_report.proofs.Buffers.{keeps_more}
use Rattle.rc_report.proofs.buffered.Buffered.write_out.Goals as goal

pub loop-self-preserved : goal.loop-self-preserved
loop-self-preserved g c =
    let taken = rw c.deref.ensures.value at c.in_ok-self.ensures in
    record {
      kept = keeps_more _ _ _ c.loop-self.self.bytes.items c.loop-self.self.written c.in_ok-self.field-0 c.loop-self.invariant.kept taken.2;
      no_failure = taken.3 ∙ c.loop-self.invariant.no_failure;
    }
