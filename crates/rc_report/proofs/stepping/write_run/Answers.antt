use Rattle.std.proofs.Common.{◌∙◌}
use Rattle.rc_report.proofs.Pieces.{first_stops, second_stops, wrote_both}
use Rattle.rc_report.proofs.stepping.write_run.Goals as goal

pub returns-in_err-count-clause-text : goal.returns-in_err-count-clause-text
returns-in_err-count-clause-text g c = first_stops _ _ _ _ _ _ c.from_residual.result c.from_residual.ensures.1 c.in_err-count.ensures.text

pub returns-in_err-write_end-clause-text : goal.returns-in_err-write_end-clause-text
returns-in_err-write_end-clause-text g c =
    let program = c.program.ensures ∙ c.in_ok-count.ensures.program in
    let stopped = rw (c.in_ok-count.ensures.count, c.in_ok-count.ensures.end, program) at c.in_err-write_end.ensures in
    second_stops _ _ _ _ _ _ c.from_residual-in_err-write_end.result c.in_ok-count.ensures.text c.from_residual-in_err-write_end.ensures.1 stopped

pub returns-clause-text : goal.returns-clause-text
returns-clause-text g c =
    let program = c.program.ensures ∙ c.in_ok-count.ensures.program in
    let written = rw (c.in_ok-count.ensures.count, c.in_ok-count.ensures.end, program) at c.in_ok-write_end.ensures in
    wrote_both _ _ _ _ _ c.in_ok-count.ensures.text written
