use Rattle.std.proofs.Common.{[], refl}
use Rattle.rc_report.specs.declared.engine_fault.EngineFault.TheVariants.{OutOfMemory}
use Rattle.rc_report.proofs.Pieces.{began_none, memory_stops, write_stops}
use Rattle.rc_runs.proofs.stepping.write_picture.Goals as goal

pub returns-in_err-end-clause-text : goal.returns-in_err-end-clause-text
returns-in_err-end-clause-text g c =
    let a = g.W.Sink.state c.args.writer.now in
    ([], memory_stops a a [] c.from_residual.result c.from_residual.ensures.1 (began_none a [] OutOfMemory refl))

pub returns-in_err-write_piece-clause-text : goal.returns-in_err-write_piece-clause-text
returns-in_err-write_piece-clause-text g c =
    let drawn = c.in_err-write_piece.ensures in
    (_, write_stops _ _ _ _ c.from_residual-in_err-write_piece.result c.from_residual-in_err-write_piece.ensures.1 drawn.0 drawn.1)

pub returns-clause-text : goal.returns-clause-text
returns-clause-text g c = (_, c.in_ok-write_piece.ensures)
