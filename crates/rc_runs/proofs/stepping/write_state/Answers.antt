use Rattle.std.proofs.Common.{[]}
use Rattle.rc_report.proofs.Pieces.{first_stops, second_stops, wrote_both}
use Rattle.rc_runs.proofs.Stepped.{wrote_memory}
use Rattle.rc_runs.proofs.stepping.write_state.Goals as goal

pub returns-in_err-end-clause-text : goal.returns-in_err-end-clause-text
returns-in_err-end-clause-text g c =
    let run = rw (c.deref.ensures.value, c.requires.start) at c.in_err-end.ensures.text in
    ([], first_stops _ _ _ _ _ _ c.from_residual.result c.from_residual.ensures.1 run)

pub returns-in_err-shown-clause-text : goal.returns-in_err-shown-clause-text
returns-in_err-shown-clause-text g c =
    let run = rw (c.deref.ensures.value, c.requires.start) at c.in_ok-end.ensures.text in
    ([], wrote_memory _ _ _ _ c.from_residual-in_err-shown.result c.from_residual-in_err-shown.ensures.1 run)

pub returns-in_err-write_piece-clause-text : goal.returns-in_err-write_piece-clause-text
returns-in_err-write_piece-clause-text g c =
    let run = rw (c.deref.ensures.value, c.requires.start) at c.in_ok-end.ensures.text in
    let shown = rw c.deref-2.ensures.value at c.in_err-write_piece.ensures in
    (c.in_ok-shown.shown.items, second_stops _ _ _ _ _ _ c.from_residual-in_err-write_piece.result run c.from_residual-in_err-write_piece.ensures.1 shown)

pub returns-clause-text : goal.returns-clause-text
returns-clause-text g c =
    let run = rw (c.deref.ensures.value, c.requires.start) at c.in_ok-end.ensures.text in
    let shown = rw c.deref-2.ensures.value at c.in_ok-write_piece.ensures in
    (c.in_ok-shown.shown.items, wrote_both _ _ _ _ _ run shown)
