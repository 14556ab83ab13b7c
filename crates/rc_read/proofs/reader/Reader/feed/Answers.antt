use Rattle.std.proofs.Common.{◌++◌, sym}
use Rattle.rc_read.proofs.Streams.{keeps_fault, fault_seen, so_far_err}
use Rattle.rc_read.proofs.reader.Reader.feed.Goals as goal

pub returns-in-Some-clause-reads : goal.returns-in-Some-clause-reads
returns-in-Some-clause-reads c = λ bytes h.
    let r = c.args.self.now in
    keeps_fault r.fault c.in-Some.fault r.sheet r.pending bytes c.args.piece.now (fault_seen _ _ _ (sym c.self.view_is) c.in-Some.is) h

pub returns-in-Some-clause-so_far : goal.returns-in-Some-clause-so_far
returns-in-Some-clause-so_far c = λ bytes h.
    let r = c.args.self.now in
    let e = fault_seen _ _ _ (sym c.self.view_is) c.in-Some.is in
    so_far_err r.fault c.in-Some.fault r.sheet r.pending (bytes ++ c.args.piece.now) e (keeps_fault r.fault c.in-Some.fault r.sheet r.pending bytes c.args.piece.now e h)
