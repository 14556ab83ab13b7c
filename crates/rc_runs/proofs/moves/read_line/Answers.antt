use Rattle.std.proofs.Common.{◌≡◌, rules, length, sym, tests}
use Rattle.std.specs.List.{slice_split}
use Rattle.std.proofs.lemmas.List.{length_push}
use Rattle.std.proofs.lemmas.Iterator.Consumers.{YieldsList-turn, YieldsList-end}
use Rattle.std.proofs.lemmas.Iterator.Splits.{YieldsList-from_slice_split}
use Rattle.rc_runs.specs.Moves.{is_separator, pieces_of_line, uncommented}
use Rattle.rc_runs.proofs.Reading.{ends_with_all, reads_line, skips_empty, stops_at_piece, stops_in_line, takes_piece}
use Rattle.rc_runs.proofs.moves.read_line.Goals as goal

pub loop-piece-preserved : goal.loop-piece-preserved
loop-piece-preserved c =
    let yields = YieldsList-from_slice_split _ is_separator (uncommented c.args.line.now) (search rules) (search rules) (search rules) (λ x b q k. search (rules, tests)) in
    let t = YieldsList-turn yields c.loop-piece.yielded _ c.loop-piece.yielded_by _ _ c.in-Some.piece c.in-Some.is c.next.ensures.steps in
    takes_piece c.args.program.now c.loop-piece.read.items _ (slice_split is_separator (uncommented c.args.line.now)) _ _ c.in-Some.piece.now c.in-Some-move_of.named _ t (sym c.if-is_empty.ensures) (length_push c.loop-piece.yielded c.in-Some.piece)
    (sym c.in-Some-move_of.ensures) c.in_ok-push-in-Some-move_of.ensures.items c.loop-piece.invariant

pub loop-piece-preserved-then-is_empty : goal.loop-piece-preserved-then-is_empty
loop-piece-preserved-then-is_empty c =
    let yields = YieldsList-from_slice_split _ is_separator (uncommented c.args.line.now) (search rules) (search rules) (search rules) (λ x b q k. search (rules, tests)) in
    let t = YieldsList-turn yields c.loop-piece.yielded _ c.loop-piece.yielded_by _ _ c.in-Some.piece c.in-Some.is c.next.ensures.steps in
    skips_empty c.args.program.now c.loop-piece.read.items (slice_split is_separator (uncommented c.args.line.now)) _ _ c.in-Some.piece.now _ t (sym c.if-is_empty.ensures) (length_push c.loop-piece.yielded c.in-Some.piece) c.loop-piece.invariant

pub returns-in-None-move_of : goal.returns-in-None-move_of
returns-in-None-move_of c =
    let count : c.len.result ≡ length c.loop-piece.read.items = search rules in
    let yields = YieldsList-from_slice_split _ is_separator (uncommented c.args.line.now) (search rules) (search rules) (search rules) (λ x b q k. search (rules, tests)) in
    let t = YieldsList-turn yields c.loop-piece.yielded _ c.loop-piece.yielded_by _ _ c.in-Some.piece c.in-Some.is c.next.ensures.steps in
    stops_in_line c.args.program.now c.args.read.now.items (pieces_of_line c.args.line.now) _
    (stops_at_piece c.args.program.now c.loop-piece.read.items (slice_split is_separator (uncommented c.args.line.now)) _ c.len.result c.in-Some.piece.now _ t (sym c.if-is_empty.ensures) (sym c.in-None-move_of.ensures) count c.loop-piece.invariant)

pub returns : goal.returns
returns c =
    let yields = YieldsList-from_slice_split _ is_separator (uncommented c.args.line.now) (search rules) (search rules) (search rules) (λ x b q k. search (rules, tests)) in
    let t = YieldsList-end yields c.loop-piece.yielded _ c.loop-piece.yielded_by _ _ c.in-None.is c.next.ensures.steps in
    reads_line c.args.program.now c.args.read.now.items _ (pieces_of_line c.args.line.now) (ends_with_all c.args.program.now c.loop-piece.read.items (slice_split is_separator (uncommented c.args.line.now)) _ _ t.1 c.loop-piece.invariant)
