use Rattle.std.proofs.Common.{rules, ◌≡◌, ◌++◌, ◌∙◌, [], ap, refl}
use Rattle.rc_report.specs.Verdicts.{verdict_json}
use Rattle.rc_report.proofs.Pieces.{began_none, grows_or_writes, memory_stops, writes_along}
use Rattle.rc_report.proofs.verdict.verdict_json.Goals as goal

pub returns-in_err-print_verdict : goal.returns-in_err-print_verdict
returns-in_err-print_verdict g c = memory_stops _ _ _ c.from_residual.result c.from_residual.ensures.1 (began_none _ _ _ refl)

pub returns : goal.returns
returns g c =
    let a = g.W.Sink.state c.args.writer.now in
    let b = g.W.Sink.state c.write_piece.new.writer in
    let json = verdict_json c.args.verdict.now in
    let empty : c.new-text.result.items ≡ [] = search rules in
    let text : c.deref.result.now ≡ json = c.deref.ensures.value ∙ c.in_ok-print_verdict.ensures ∙ ap (λ t. t ++ json) empty in
    grows_or_writes a b json c.write_piece.result (writes_along _ a b _ json c.write_piece.result text c.write_piece.ensures)
