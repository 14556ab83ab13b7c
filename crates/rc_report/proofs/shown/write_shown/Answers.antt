use Rattle.std.proofs.Common.{ap}
use Rattle.std.proofs.lemmas.Iterator.{YieldsList-from_chars}
use Rattle.std.proofs.lemmas.Iterator.Consumers.{YieldsList-end, YieldsList-so_far, YieldsList-turn}
use Rattle.std.specs.List.{flat_map}
use Rattle.rc_report.specs.Shown.{shown_char}
use Rattle.rc_report.proofs.Pieces.{next_stops, wrote_along}
use Rattle.rc_report.proofs.Yielded.{yielded_all, yielded_cut}
use Rattle.rc_report.proofs.shown.write_shown.Goals as goal

pub returns-in_err-write_piece : goal.returns-in_err-write_piece
returns-in_err-write_piece g c =
    let list = YieldsList-from_chars c.args.text.now c.utf8.text cc in
    let so_far = YieldsList-so_far list c.loop-character.yielded _ c.loop-character.yielded_by in
    let turn = YieldsList-turn list c.loop-character.yielded _ c.loop-character.yielded_by _ _ c.in-Some.character c.in-Some.is c.next.ensures.steps in
    next_stops _ _ _ _ _ _ _ _ _ c.from_residual.result (yielded_cut shown_char _ c.loop-character.yielded c.in-Some.character so_far turn.0 turn.1)
    c.loop-character.invariant c.from_residual.ensures.1 (rw c.shown_char.ensures at c.in_err-write_piece.ensures)

pub returns : goal.returns
returns g c =
    let end = YieldsList-end (YieldsList-from_chars c.args.text.now c.utf8.text cc) c.loop-character.yielded _ c.loop-character.yielded_by _ _ c.in-None.is c.next.ensures.steps in
    wrote_along _ _ _ _ (ap (flat_map shown_char) (yielded_all _ c.loop-character.yielded end.0)) c.loop-character.invariant
