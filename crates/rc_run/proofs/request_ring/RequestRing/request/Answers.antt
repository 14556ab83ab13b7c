use Rattle.std.proofs.Common.{Some, ap, sym, slice_get, ◌∙◌}
use Rattle.rc_run.specs.Requests.{RequestRing, data_of_entry, named, request_of}
use Rattle.rc_run.proofs.Entries.{decodes, no_request_at, request_at}
use Rattle.rc_ring.proofs.Spelled.{IsSpelling-get}
use Rattle.rc_run.proofs.request_ring.RequestRing.request.Goals as goal

pub unreachable-requires : goal.unreachable-requires
unreachable-requires c =
    decodes c.in-Some.bytes.now c.decode_sqe.result c.decode_sqe.ensures.value
    (IsSpelling-get _ c.args.i c.in-Some.bytes.now c.in-Some.ensures.law.queue (sym c.in-Some.ensures.value)) _ c.in-Err.is

pub returns-in-None : goal.returns-in-None
returns-in-None c =
    no_request_at c.self.inside.serials.items _ c.args.i c.in-None.ensures.value
    ∙ ap (λ (r : RequestRing). slice_get r.queued c.args.i) c.self.view_is

pub returns-in-Ok : goal.returns-in-Ok
returns-in-Ok c =
    ap Some (c.request_of.ensures)
    ∙ ap (λ xs. Some (request_of (named (data_of_entry c.in-Ok.entry) xs) c.in-Ok.entry)) c.deref.ensures.value
    ∙ request_at c.self.inside.serials.items _ c.args.i c.in-Some.bytes.now c.in-Ok.entry c.in-Some.ensures.value ((c.decode_sqe.ensures.value c.in-Ok.entry).0 c.in-Ok.is)
    ∙ ap (λ (r : RequestRing). slice_get r.queued c.args.i) c.self.view_is
