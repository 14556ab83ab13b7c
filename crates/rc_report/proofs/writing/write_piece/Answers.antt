use Rattle.std.proofs.Common.{refl}
use Rattle.rc_report.proofs.Pieces.{begins_more, within_more, wrote_more}
use Rattle.rc_report.proofs.writing.write_piece.Goals as goal

pub loop-at-preserved : goal.loop-at-preserved
loop-at-preserved g c =
    let i = c.loop-at.invariant in
    let took = c.in-Ok.ensures in
    record {
      written = wrote_more _ _ _ c.args.piece.now c.loop-at.at c.in-Ok.count i.written took.2 took.3;
      within = within_more c.args.piece.now c.loop-at.at c.in-Ok.count i.within took.0;
    }

pub returns-in-Err : goal.returns-in-Err
returns-in-Err g c = (refl, begins_more _ _ _ c.args.piece.now c.loop-at.at c.loop-at.invariant.written c.in-Err.ensures.0 c.in-Err.ensures.1)
