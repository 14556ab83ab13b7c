use Rattle.std.proofs.Common.{[]}
use Rattle.rc_report.proofs.Settled.{if_true, settled}
use Rattle.rc_report.proofs.reading.has_fault.Goals as goal

pub returns : goal.returns
returns c =
    let fed = c.feed-fed in
    if_true c.is_fault.result c.is_fault.ensures (λ is. settled fed.new.self c.args.text.now fed.result (fed.ensures.reads [] c.new-reader.ensures.reads) (fed.ensures.so_far [] c.new-reader.ensures.reads) (λ fault e. (fed.ensures.kept fault).1 e) (rw c.pending.ensures at is))
