use Rattle.rc_read.specs.View.{view_sheet}
use Rattle.rc_read.proofs.Streams.{fault_finishes, rest_finishes, end_finishes, reached_end, has_read}
use Rattle.rc_read.proofs.reader.Reader.end.Goals as goal

pub returns-in-Some-clause-reads : goal.returns-in-Some-clause-reads
returns-in-Some-clause-reads c = λ bytes h.
    let r = c.self.inside in
    fault_finishes r.fault c.in-Some.fault (view_sheet r.parts) r.pending.items bytes c.in-Some.is (has_read _ _ bytes c.self.view_is h)

pub returns-clause-reads : goal.returns-clause-reads
returns-clause-reads c = λ bytes h.
    let r = c.self.inside in
    rest_finishes r.fault c.in-Err.fault (view_sheet r.parts) (view_sheet c.judge_rest.new.parts) r.pending.items c.deref.result.now bytes c.in_default.is c.deref.ensures.value c.in-Err.ensures (has_read _ _ bytes c.self.view_is h)

pub end_of-requires : goal.end_of-requires
end_of-requires c =
    let r = c.self.inside in
    reached_end r.fault (view_sheet r.parts) (view_sheet c.judge_rest.new.parts) r.pending.items c.deref.result.now c.in_default.is c.deref.ensures.value c.in-Ok.ensures c.self.invariant

pub returns-in-Ok-clause-reads : goal.returns-in-Ok-clause-reads
returns-in-Ok-clause-reads c = λ bytes h.
    let r = c.self.inside in
    end_finishes r.fault (view_sheet r.parts) (view_sheet c.judge_rest.new.parts) r.pending.items c.deref.result.now bytes c.end_of.result c.in_default.is c.deref.ensures.value c.in-Ok.ensures c.end_of.ensures (has_read _ _ bytes c.self.view_is h)
