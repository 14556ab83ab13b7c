use Rattle.std.proofs.Common.{◌-◌, length, take, drop, arith}
use Rattle.std.proofs.lemmas.List.{take_rest}
use Rattle.std.proofs.lemmas.Result.{err_from_is_err_and}
use Rattle.rc_read.specs.View.{view_sheet}
use Rattle.rc_read.proofs.Streams.{below_end, line_more, line_fails, rest_more, sound_ok}
use Rattle.rc_read.proofs.reader.take.Goals as goal

pub loop-i-preserved : goal.loop-i-preserved
loop-i-preserved c =
    let piece = c.args.piece.now in
    let at = c.loop-i.at in
    let i = c.in-Some.i in
    let hay = take (length piece - at) (drop at piece) in
    let feed = rw c.in-Some.is at c.memchr.ensures in
    record {
      within = omega (arith, below_end piece hay at i (take_rest piece at) feed.0.high);
      reads =
          line_more c.end_line.result (view_sheet c.args.parts.now) (view_sheet c.loop-i.parts) (view_sheet c.end_line.new.parts) c.args.pending.now.items c.loop-i.pending.items c.end_line.new.pending.items piece hay at i (take_rest piece at) feed.0.high feed.1 c.in_ok-end_line.was c.end_line.ensures.reads c.loop-i.invariant.reads;
      reached = λ h. sound_ok c.end_line.result (view_sheet c.end_line.new.parts) c.in_ok-end_line.was (c.end_line.ensures.sound (c.loop-i.invariant.reached h));
    }

pub returns-in_err-end_line-clause-reads : goal.returns-in_err-end_line-clause-reads
returns-in_err-end_line-clause-reads c =
    let piece = c.args.piece.now in
    let at = c.loop-i.at in
    let i = c.in-Some.i in
    let hay = take (length piece - at) (drop at piece) in
    let p = err_from_is_err_and c.from_residual.result c.from_residual.ensures.1 in
    let feed = rw c.in-Some.is at c.memchr.ensures in
    let s = view_sheet c.end_line.new.parts in
    let rest = c.end_line.new.pending.items in
    line_fails c.from_residual.result c.end_line.result p.0 (view_sheet c.args.parts.now) (view_sheet c.loop-i.parts) s c.args.pending.now.items c.loop-i.pending.items rest rest piece hay at i (take_rest piece at) feed.0.high feed.1 p.1 (rw p.2 c.in_err-end_line.was) c.end_line.ensures.reads c.loop-i.invariant.reads

pub returns-clause-reads : goal.returns-clause-reads
returns-clause-reads c =
    let piece = c.args.piece.now in
    let at = c.loop-i.at in
    let hay = take (length piece - at) (drop at piece) in
    rest_more (view_sheet c.args.parts.now) (view_sheet c.loop-i.parts) c.args.pending.now.items c.loop-i.pending.items c.extend_from_slice.new.self.items piece hay at (take_rest piece at) (rw c.in_default.is at c.memchr.ensures) c.in_ok-extend_from_slice.ensures.items c.loop-i.invariant.reads
